-- After a step that puts a literal in the place of its call, and removes the imports that its file doesn't use any more, the packages are well typed, and show what those before do.
use Rattle.std.proofs.Common.{◌≡◌, ◌∙◌, refl, sym, ap, subst, ℕ, zero, suc, ◌+◌, Bool, true, false, not, ◌&&◌, ◌||◌, nat_eq, bytes_eq, List, [], ◌∷◌, ◌++◌, map, Some, arith}
use Rattle.std.specs.List.{list_all, list_any}
use Rattle.std.specs.Prelude.{is_none, slice_get}
use Rattle.std.proofs.lemmas.Option.{same_Some}
use Rattle.std.proofs.lemmas.Slice.Eq.{bytes_eq-Decides}
use Rattle.go_tree.specs.declared.spans.Span.{Span}
use Rattle.go_tree.specs.File.{ImportSpec, Decl}
use Rattle.go_tree.specs.ScopeNames.Means.{is_blank}
use Rattle.go_tree.specs.Tree.{NameAt, Expr, ident}
use Rattle.go_tree.specs.GoTypes.Answers.{is_among}
use Rattle.go_tree.specs.GoTypes.Collect.{collected}
use Rattle.go_tree.specs.GoTypes.Entities.{World}
use Rattle.go_tree.specs.GoTypes.Programs.{Import, SourceFile, SourcePackage, Headed, headed, block_names, names_in, all_headers}
use Rattle.go_tree.specs.GoTypes.Typing.{used}
use Rattle.go_tree.specs.GoTypes.WellTyped.{is_used_in, first_import, well_typed}
use Rattle.go_kernel.specs.Kernel.{ImportPath}
use Rattle.go_translation.specs.Packages as translated
use Rattle.go_translation.specs.Packages.{sources, has_path, has_number, are_distinct, are_linked, are_well_typed, codes_of, freely_shown_by, freely_shown_by_code}
use Rattle.typed_in_place.specs.ImportRule.{imports_sound, imports_used, files_import, package_imports, declarations_ok, imports_ok}
use Rattle.typed_in_place.proofs.ImportRule.{file_imports, well_typed_apart}
use Rattle.typed_in_place.proofs.Rising.{and_first, and_second, both_true}
use Rattle.pkg_graph.specs.Members.{import_name}
use Rattle.pkg_graph.specs.Package.{import_specs}
use Rattle.run_rules.specs.Programs.{linked_import, linked_file, linked}
use Rattle.run_rules.specs.Sites.{part_span}
use Rattle.run_rules.specs.Steps.{change_nth, is_import_used}
use Rattle.constant_steps.specs.StepLaws.DeclStands.{decl_changed, file_changed}
use Rattle.constant_steps.specs.StepLaws.SwapPrograms.{package_put}
use Rattle.constant_steps.proofs.MarksFound.{nth_mapped}
use Rattle.literal_steps.specs.LiteralUse.{NamesCallee, plainly, by_import}
use Rattle.constant_modules.proofs.CountedUses.Imports.{formed_have}
use Rattle.constant_modules.proofs.KeyedImports.Packages.{distinct-keyed, declare_keyed, typed_keyed, uses_keyed, codes_keyed}
use Rattle.constant_modules.specs.CountedUses.Typed.{TypesHaveValues}
use Rattle.constant_modules.specs.KeyedImports.Keyed.{PackagesKeyed}
use Rattle.literals_in_place.specs.TypedSteps.Uses.{UseInBody, with_literal, free_in, marked_in}
use Rattle.literals_in_place.proofs.StepsInBodies.KeptImports.{files_names}
use Rattle.literals_in_place.proofs.StepsInBodies.Led.{own_name}
use Rattle.literals_in_place.proofs.StepsInBodies.Packages.{after, becomes}
use Rattle.literals_in_place.proofs.StepsInBodies.Shows as steps
use Rattle.literals_in_place.proofs.StepsInBodies.Shows.{linked_so}
use Rattle.literals_in_place.proofs.TypedSteps.Shows.{serve}
use Rattle.literals_in_place.specs.Steps.{ranks_of}
use Rattle.literal_imports.specs.Steps.{goes, imports_left, with_imports, settled, SettlingStep}
use Rattle.literal_imports.proofs.Between.{there}
use Rattle.literal_imports.proofs.ImportsNamed.{spec_there}
use Rattle.literal_imports.proofs.ImportsRight.{sound_member, one_named, UsedStill, LeftUsed, left_right, files_right, packages_right, linked_left}
use Rattle.literal_imports.proofs.Kept.{callee, beside, in_function, blank, declared_after, linked_before, counted_after, still_used}
use Rattle.literal_imports.proofs.KeyedLeft.{put, formed_now, file_before, package_after, file_after, is_after, left_packages}
use Rattle.literal_imports.proofs.Shown.{shown}
use Rattle.literal_imports.proofs.UsedAgain.{held_still, same_world, other_files, other_packages}
use Rattle.literal_imports.proofs.UsedBefore.{its, used_before}

-- ---- lists

change_twice : {A : Type 0} (f g : A → A) (k : ℕ) (xs : List A) → change_nth k f (change_nth k g xs) ≡ change_nth k (λ a. f (g a)) xs
change_twice f g k [] = refl
change_twice f g zero (x ∷ xs) = refl
change_twice f g (suc k) (x ∷ xs) = ap (λ l. x ∷ l) (change_twice f g k xs)

only_one : (n m : List ℕ) → is_among n (m ∷ []) ≡ true → n ≡ m
only_one n m e = (bytes_eq-Decides n m).0 (first_of (is_among n (m ∷ [])) e refl)
  where
    or_false : (b : Bool) → (b || false) ≡ b
    or_false true = refl
    or_false false = refl

    first_of : (b : Bool) → b ≡ true → is_among n (m ∷ []) ≡ b → bytes_eq n m ≡ true
    first_of b e q = sym (or_false (bytes_eq n m)) ∙ q ∙ e

module _ {S : Type 0} where
  -- a package of a list by its number
  pub at_package : (f : SourcePackage S → Bool) (k : ℕ) (ps : List (translated.Package S)) (p : translated.Package S) → slice_get ps k ≡ Some p → list_all f (sources ps) ≡ true → f p.source ≡ true
  at_package f k [] p e a = absurd cc
  at_package f zero (q ∷ ps) p e a = subst (λ (v : translated.Package S). f v.source ≡ true) (same_Some q p e) (and_first (f q.source) (list_all f (sources ps)) a)
  at_package f (suc k) (q ∷ ps) p e a = at_package f k ps p e (and_second (f q.source) (list_all f (sources ps)) a)

  -- the imports of a file by its number
  pub at_file : (w : World) (hs : List (Headed S)) (home : ℕ) (members : List (List ℕ)) (m i M : ℕ) (fs : List (SourceFile S)) (y : SourceFile S) → M ≡ i + m → slice_get fs m ≡ Some y → files_import w hs home members i fs ≡ true → is_none (first_import w hs home M members [] y.imports) ≡ true
  at_file w hs home members m i M [] y n g e = absurd cc
  at_file w hs home members zero i M (f ∷ fs) y n g e =
      subst (λ (k : ℕ). is_none (first_import w hs home k members [] y.imports) ≡ true) (sym same)
      (subst (λ (v : SourceFile S). is_none (first_import w hs home i members [] v.imports) ≡ true) (same_Some f y g) (and_first (is_none (first_import w hs home i members [] f.imports)) (files_import w hs home members (suc i) fs) e))
    where
      same : M ≡ i
      same = omega (arith, n)
  at_file w hs home members (suc m) i M (f ∷ fs) y n g e = at_file w hs home members m (suc i) M fs y (omega (arith, n)) g (and_second (is_none (first_import w hs home i members [] f.imports)) (files_import w hs home members (suc i) fs) e)

  -- imports declare no names of the block
  names_left : (is : List (Import S)) (m : ℕ) (fs : List (SourceFile S)) → block_names (change_nth m (λ (f : SourceFile S). record f { imports = is }) fs) ≡ block_names fs
  names_left is m [] = refl
  names_left is zero (f ∷ fs) = refl
  names_left is (suc m) (f ∷ fs) = λ v. names_in (all_headers f.decls) ++ names_left is m fs v

  -- paths and numbers stay
  module _ (c : Decl S → Decl S) (m n : ℕ) where
    abbrev with_decl : translated.Package S → translated.Package S
    with_decl p = record p { source = file_changed c m n p.source }

    path_put : (t : ImportPath) (k : ℕ) (ps : List (translated.Package S)) → list_any (has_path t) (change_nth k with_decl ps) ≡ list_any (has_path t) ps
    path_put t k [] = refl
    path_put t zero (p ∷ ps) = refl
    path_put t (suc k) (p ∷ ps) = λ v. has_path t p || path_put t k ps v

    number_put : (i k : ℕ) (ps : List (translated.Package S)) → list_any (has_number i) (change_nth k with_decl ps) ≡ list_any (has_number i) ps
    number_put i k [] = refl
    number_put i zero (p ∷ ps) = refl
    number_put i (suc k) (p ∷ ps) = λ v. has_number i p || number_put i k ps v

    distinct_put : (k : ℕ) (ps : List (translated.Package S)) → are_distinct (change_nth k with_decl ps) ≡ are_distinct ps
    distinct_put k [] = refl
    distinct_put zero (p ∷ ps) = refl
    distinct_put (suc k) (p ∷ ps) = λ v. not (path_put p.path k ps v || number_put p.source.number k ps v) && distinct_put k ps v

-- ---- the step

module _ (x : UseInBody Span) (e : Expr Span) (s : SettlingStep x e) (t : are_well_typed x.members ≡ true) where
  abbrev w : World
  w = collected (sources x.members)

  abbrev hs : List (Headed Span)
  hs = headed (sources x.members)

  abbrev ks : List (Headed Span)
  ks = headed (sources (with_literal x e))

  abbrev ls : List (Headed Span)
  ls = headed (sources (settled x e))

  abbrev K : ℕ
  K = x.site.at.number

  abbrev M : ℕ
  M = x.site.at.file_number

  abbrev specs : List (ImportSpec Span)
  specs = import_specs x.site.at.source.tree

  abbrev files : List (SourceFile Span)
  files = x.stands.of.source.files

  -- ---- the imports before

  right_before : imports_ok (sources x.members) ≡ true
  right_before = ap imports_ok x.linked_so.sources_are ∙ and_second (declarations_ok (linked x.packages)) (imports_ok (linked x.packages)) (sym (well_typed_apart (linked x.packages)) ∙ x.linked_so.typed)

  number_is : x.stands.of.source.number ≡ K
  number_is = ap (λ (p : SourcePackage Span). p.number) x.stands.source_is

  sound_before : imports_sound (block_names files) [] (map (linked_import x.packages) specs) ≡ true
  sound_before =
      let file : is_none (first_import w hs x.stands.of.source.number M (block_names files) [] (map (linked_import x.packages) specs)) ≡ true =
      at_file w hs x.stands.of.source.number (block_names files) M 0 M files (linked_file x.packages x.site.at.source) (omega arith) (file_before x e s t) (at_package (package_imports w hs) x.stands.nth x.members x.stands.of x.stands.is_nth right_before) in
      and_first (imports_sound (block_names files) [] (map (linked_import x.packages) specs)) (imports_used w hs x.stands.of.source.number M (map (linked_import x.packages) specs))
      (sym (file_imports w hs x.stands.of.source.number M (block_names files) [] (map (linked_import x.packages) specs)) ∙ file)

  names_put : block_names files ≡ block_names (change_nth M (decl_changed (put x e s t) x.site.decl) files)
  names_put =
      files_names (put x e s t) x.stands.function
      (after x.same x.site x.becomes.tree e
      (steps.here x.same x.itself x.commented x.packages x.marks x.site x.becomes x.by_name x.members x.linked_so [] (beside x e s.form_is) (serve x) e s.form_is (in_function x e s.form_is) (blank x e s.form_is))
      (steps.calls x.same x.itself x.commented x.packages x.marks x.site x.becomes x.by_name x.members x.linked_so [] (beside x e s.form_is) (serve x) e s.form_is (in_function x e s.form_is) (blank x e s.form_is))
      (steps.form x.same x.itself x.commented x.packages x.marks x.site x.becomes x.by_name x.members x.linked_so [] (beside x e s.form_is) (serve x) e s.form_is (in_function x e s.form_is) (blank x e s.form_is))
      (steps.facts x.same x.itself x.commented x.packages x.marks x.site x.becomes x.by_name x.members x.linked_so [] (beside x e s.form_is) (serve x) e s.form_is (in_function x e s.form_is) (blank x e s.form_is))
      (blank x e s.form_is) (ranks_of x.packages x.marks x.members) (callee x e s.form_is) x.packages x.members
      (steps.ranked x.same x.itself x.commented x.packages x.marks x.site x.becomes x.by_name x.members x.linked_so [] (beside x e s.form_is) (serve x) e s.form_is (in_function x e s.form_is) (blank x e s.form_is)))
      (becomes x.same x.site x.becomes.tree e
      (steps.here x.same x.itself x.commented x.packages x.marks x.site x.becomes x.by_name x.members x.linked_so [] (beside x e s.form_is) (serve x) e s.form_is (in_function x e s.form_is) (blank x e s.form_is))
      (steps.calls x.same x.itself x.commented x.packages x.marks x.site x.becomes x.by_name x.members x.linked_so [] (beside x e s.form_is) (serve x) e s.form_is (in_function x e s.form_is) (blank x e s.form_is))
      (steps.form x.same x.itself x.commented x.packages x.marks x.site x.becomes x.by_name x.members x.linked_so [] (beside x e s.form_is) (serve x) e s.form_is (in_function x e s.form_is) (blank x e s.form_is))
      (steps.facts x.same x.itself x.commented x.packages x.marks x.site x.becomes x.by_name x.members x.linked_so [] (beside x e s.form_is) (serve x) e s.form_is (in_function x e s.form_is) (blank x e s.form_is))
      (blank x e s.form_is) (ranks_of x.packages x.marks x.members) (callee x e s.form_is) x.packages x.members
      (steps.ranked x.same x.itself x.commented x.packages x.marks x.site x.becomes x.by_name x.members x.linked_so [] (beside x e s.form_is) (serve x) e s.form_is (in_function x e s.form_is) (blank x e s.form_is)))
      refl M x.site.decl (linked_file x.packages x.site.at.source) x.stands.decl_there files (file_before x e s t)

  -- ---- the packages without them

  keyed : PackagesKeyed (with_literal x e) (settled x e)
  keyed = left_packages x e s t (subst (λ (b : List (List ℕ)). imports_sound b [] (map (linked_import x.packages) specs) ≡ true) names_put sound_before)

  distinct_after : are_distinct (with_literal x e) ≡ true
  distinct_after = distinct_put (put x e s t) M x.site.decl x.stands.nth x.members ∙ x.linked_so.distinct

  declared : declarations_ok (sources (with_literal x e)) ≡ true
  declared = declared_after x e s.form_is

  world_after : collected (sources (with_literal x e)) ≡ collected (sources (settled x e))
  world_after = declare_keyed (with_literal x e) (settled x e) distinct_after keyed

  same_worlds : w ≡ collected (sources (settled x e))
  same_worlds = same_world x e s.form_is ∙ world_after

  moved : (home file : ℕ) (n : List ℕ) → is_used_in w home file n ks ≡ true → is_used_in w home file n ls ≡ true
  moved home file n u =
      (λ i. is_used_in (same_worlds i) home file n ls) ∙ sym (uses_keyed (with_literal x e) (settled x e) distinct_after keyed declared home file n) ∙ (λ i. is_used_in (sym (same_world x e s.form_is) i) home file n ks) ∙ u

  -- ---- an import that stays is used

  values_now : (i : ℕ) (d : Decl Span) → slice_get (there x e s.form_is).source.tree.decls i ≡ Some d → TypesHaveValues d
  values_now i d q = formed_have (λ (z : Span). z) d (formed_now x e s t i d q)

  module _ (j : ℕ) (y : ImportSpec Span) (g : slice_get specs j ≡ Some y) (left : goes x (j, y) ≡ false) (spelled : is_blank (import_name x.packages y) ≡ false) (sound : imports_sound (block_names files) [] (map (linked_import x.packages) specs) ≡ true) where
    abbrev n : List ℕ
    n = import_name x.packages y

    not_own : is_among n (block_names files) ≡ false
    not_own = sound_member (block_names files) [] (map (linked_import x.packages) specs) sound j (linked_import x.packages y) (nth_mapped (linked_import x.packages) specs j y g) spelled

    own : (z : Span) → x.by_name.called ≡ ident z x.by_name.name → is_among x.by_name.name (block_names files) ≡ true
    own z p = ap (λ (v : SourcePackage Span). is_among x.by_name.name (block_names v.files)) x.stands.source_is ∙ own_name x.same x.commented x.packages x.marks x.site x.becomes x.by_name x.members x.linked_so z p

    clash : (b : Bool) → b ≡ true → b ≡ false → ⊥
    clash true p q = cc
    clash false p q = cc

    -- the call names its function by it
    by_name : (f : Expr Span) → x.by_name.called ≡ f → NamesCallee x.same x.commented x.packages x.marks x.site x.becomes x.by_name.name f → is_among n (used x.site.place.env f) ≡ true → is_used_in w K M n ks ≡ true
    by_name _ p (plainly {s = z} same_package) k = absurd (clash (is_among n (block_names files)) (ap (λ (m : List ℕ). is_among m (block_names files)) (only_one n x.by_name.name k) ∙ own z p) not_own)
    by_name _ p (by_import {s = z} {z = z1} {t = z2} {q = q} h d) k =
        let name : NameAt Span = record { span = z2; name = x.by_name.name } in
        let i = its x z z1 q name p in
        let a = spec_there x.packages x.site.at i.0 q i.1.1 in
        let same : i.0 ≡ j =
        one_named (block_names files) [] (map (linked_import x.packages) specs) sound i.0 j (linked_import x.packages a.0) (linked_import x.packages y) (nth_mapped (linked_import x.packages) specs i.0 a.0 a.1.0) (nth_mapped (linked_import x.packages) specs j y g) (a.1.1 ∙ sym (only_one n q k)) spelled in
        subst (λ (v : World). is_used_in v K M n ks ≡ true) (sym (same_world x e s.form_is))
        (counted_after x e s.form_is t values_now j y g (still_used x e s.form_is j (subst (λ (m : ℕ). is_import_used x.packages x.site.at x.site.at.source.tree.decls m ≡ true) same (used_before x z z1 q name p)) y left))

    used_with : is_used_in w K M n hs ≡ true → is_used_in w K M n ks ≡ true
    used_with u = go (is_among n (used x.site.place.env x.by_name.called)) refl
      where
        go : (b : Bool) → is_among n (used x.site.place.env x.by_name.called) ≡ b → is_used_in w K M n ks ≡ true
        go false k = held_still x e s.form_is M n k u
        go true k = by_name x.by_name.called refl x.by_name.named k

  each_left : LeftUsed w hs ls K (block_names files) x.packages (goes x) specs M
  each_left j y g left spelled sound u = moved K M (import_name x.packages y) (used_with j y g left spelled sound u)

  others_still : (file : ℕ) → nat_eq M file ≡ false → UsedStill w hs ls K (block_names files) file
  others_still file apart n m u = moved K file n (sym (other_files x e s.form_is file apart n) ∙ u)

  -- ---- the package of the call

  abbrev both : translated.Package Span → translated.Package Span
  both p = with_imports M (imports_left x) (package_put x.same x.packages (part_span x.site.part) e K x.site.at.of x.site.at.source.tree M x.site.decl p)

  abbrev new_files : List (SourceFile Span)
  new_files = change_nth M (λ (f : SourceFile Span). record f { imports = imports_left x }) (change_nth M (decl_changed (put x e s t) x.site.decl) files)

  names_after : block_names new_files ≡ block_names files
  names_after = names_left (imports_left x) M (change_nth M (decl_changed (put x e s t) x.site.decl) files) ∙ sym names_put

  files_after : files_import w hs K (block_names files) 0 files ≡ true → files_import w ls K (block_names files) 0 new_files ≡ true
  files_after u =
      files_right w hs ls K (block_names files) (put x e s t) x.site.decl M (imports_left x) others_still M 0 files (linked_file x.packages x.site.at.source) (omega arith) (file_before x e s t)
      (left_right w hs ls K (block_names files) x.packages (goes x) specs M each_left) u

  package_right : package_imports w hs x.stands.of.source ≡ true → package_imports w ls (both x.stands.of).source ≡ true
  package_right =
      subst (λ (k : ℕ). files_import w hs k (block_names files) 0 files ≡ true → files_import w ls k (block_names new_files) 0 new_files ≡ true) (sym number_is)
      (λ u. subst (λ (b : List (List ℕ)). files_import w ls K b 0 new_files ≡ true) (sym names_after) (files_after u))

  -- ---- all packages

  settled_is : settled x e ≡ change_nth x.stands.nth both x.members
  settled_is = change_twice (with_imports M (imports_left x)) (package_put x.same x.packages (part_span x.site.part) e K x.site.at.of x.site.at.source.tree M x.site.decl) x.stands.nth x.members

  right_settled : list_all (package_imports w ls) (sources (settled x e)) ≡ true
  right_settled =
      subst (λ (ps : List (translated.Package Span)). list_all (package_imports w ls) (sources ps) ≡ true) (sym settled_is)
      (packages_right w hs ls K both (λ home file n a u. moved home file n (other_packages x e s.form_is home file n a u)) x.stands.of number_is package_right x.stands.nth x.members x.linked_so.distinct x.stands.is_nth right_before)

  imports_settled : imports_ok (sources (settled x e)) ≡ true
  imports_settled = subst (λ (v : World). list_all (package_imports v ls) (sources (settled x e)) ≡ true) same_worlds right_settled

  typed_settled : well_typed (sources (settled x e)) ≡ true
  typed_settled =
      well_typed_apart (sources (settled x e))
      ∙ both_true (sym (typed_keyed (with_literal x e) (settled x e) distinct_after keyed declared) ∙ declared) imports_settled

  linked_with : are_linked [] (with_literal x e) ≡ true
  linked_with = linked_so (put x e s t) M x.site.decl [] x.stands.nth x.members ∙ linked_before x e s.form_is t

  linked_settled : are_linked [] (settled x e) ≡ true
  linked_settled = linked_left x.packages (goes x) specs M [] x.stands.nth (with_literal x e) (package_after x e s t) (decl_changed (put x e s t) x.site.decl (linked_file x.packages x.site.at.source)) (is_after x e s t) (file_after x e s t) refl linked_with

  pub well_typed_settled : are_well_typed (settled x e) ≡ true
  well_typed_settled = both_true (sym (distinct-keyed keyed) ∙ distinct_after) (both_true linked_settled typed_settled)

  pub shown_settled : (main : ImportPath) (choices : List ℕ) (n : ℕ) → freely_shown_by x.members (free_in x) (marked_in x) main choices n ≡ freely_shown_by (settled x e) (free_in x) (marked_in x) main choices n
  shown_settled main choices n =
      shown x e s.form_is s.translated s.no_constants t main choices n
      ∙ (λ i. freely_shown_by_code (codes_keyed (with_literal x e) (settled x e) distinct_after keyed declared i) (free_in x) (marked_in x) main choices n)

-- The packages of a run with the literal in the place of its call are those that the packages with the literal are linked to: the file of the call among them, with the same imports.
use Rattle.std.proofs.Common.{◌≡◌, refl, sym, ap, ◌∙◌, subst, ℕ, zero, suc, Bool, true, ◌&&◌, ◌||◌, if◌then◌else◌, bytes_eq, nat_eq, List, [], ◌∷◌, ◌++◌, map, Some}
use Rattle.std.specs.List.{list_all}
use Rattle.std.specs.Prelude.{slice_get}
use Rattle.go_tree.specs.File.{ImportSpec, Decl, File}
use Rattle.go_tree.specs.Tree.{Expr}
use Rattle.go_tree.specs.ScopeNames.Means.{means, numbered}
use Rattle.go_tree.specs.GoTypes.Answers.{given, otherwise}
use Rattle.go_tree.specs.GoTypes.Programs.{Import, SourceFile, SourcePackage, Program}
use Rattle.go_tree.proofs.GoTypes.Agreeing.{some_same}
use Rattle.go_translation.specs.Packages as translated
use Rattle.go_translation.specs.Packages.{sources, are_distinct}
use Rattle.imported_typing.specs.Further.{has_package, imports_itself}
use Rattle.pkg_graph.specs.Package.{SourceTree, Package, import_specs}
use Rattle.pkg_graph.specs.Members.{imported, package_name, name_or, import_name}
use Rattle.printed_constants.proofs.RemovedImports.Imports.{import_stays}
use Rattle.printed_constants.proofs.StandingForms.Unnamed.{behind, none_behind, in_turn}
use Rattle.run_rules.specs.declared.import_rules.new_import.NewImport.{NewImport}
use Rattle.run_rules.specs.FormTrees.{Form, as_expr}
use Rattle.run_rules.specs.Programs.{number_from, linked_import, linked_file, linked}
use Rattle.run_rules.specs.Sites.{Where, part_span, imported_by}
use Rattle.run_rules.specs.Steps.{change_nth, changes_for, new_decl, added_decls, file_between, packages_between, where_between, means_import, is_import_used}
use Rattle.constant_steps.specs.Alone.{PackageAt, this_package, a_later_package}
use Rattle.constant_steps.specs.PlainUse.{linked_at}
use Rattle.constant_steps.specs.StepLaws.DeclStands.{decl_changed, file_changed, changed}
use Rattle.constant_steps.specs.StepLaws.SwapPrograms.{put_decl, members_put}
use Rattle.constant_steps.proofs.AfterStep.{nth_changed}
use Rattle.constant_steps.proofs.LinkedAfter.{file_with, package_with, rs_after, linked_after}
use Rattle.constant_steps.proofs.PlainImports.{Distinct, distinct_sources}
use Rattle.literals_in_place.specs.TypedSteps.Uses.{UseInBody, with_literal}
use Rattle.literals_in_place.proofs.StepsInBodies.Numbered.{nth_package}
use Rattle.literal_imports.specs.Steps.{step_at}
use Rattle.literal_imports.proofs.ImportsNamed.{Means}

-- the entry with a number changed one way or another
nth_alike : {A : Type 0} (f g : A → A) (n : ℕ) (xs : List A) (x : A) → slice_get xs n ≡ Some x → f x ≡ g x → change_nth n f xs ≡ change_nth n g xs
nth_alike f g n [] x q e = refl
nth_alike f g zero (y ∷ ys) x q e = let z : y ≡ x = some_same y x q in ap (λ v. v ∷ ys) (subst (λ w. f w ≡ g w) (sym z) e)
nth_alike f g (suc n) (y ∷ ys) x q e = ap (λ l. y ∷ l) (nth_alike f g n ys x q e)

nothing_behind : {A : Type 0} (xs : List A) → xs ++ [] ≡ xs
nothing_behind [] = refl
nothing_behind (x ∷ xs) = ap (λ l. x ∷ l) (nothing_behind xs)

-- ---- a declaration changed in a file of a run's packages: imports mean the same packages

module _ {S : Type 0} (M N : ℕ) (g : Decl S → Decl S) where
  name_same : (k : ℕ) (ps : List (Package S)) (path : List ℕ) → package_name (change_nth k (package_with M N g) ps) path ≡ package_name ps path
  name_same k [] path = refl
  name_same zero (p ∷ ps) path = refl
  name_same (suc k) (p ∷ ps) path = ap (λ n. if bytes_eq path p.path then p.name else n) (name_same k ps path)

  number_same : (k j : ℕ) (ps : List (Package S)) (path : List ℕ) → number_from j (change_nth k (package_with M N g) ps) path ≡ number_from j ps path
  number_same k j [] path = refl
  number_same zero j (p ∷ ps) path = refl
  number_same (suc k) j (p ∷ ps) path = ap (λ n. if bytes_eq path p.path then j else n) (number_same k (suc j) ps path)

  module _ (K : ℕ) (rs : List (Package S)) where
    import_same : (s : ImportSpec S) → linked_import (rs_after M N g K rs) s ≡ linked_import rs s
    import_same s = λ i. record { span = s.span; name = name_or s.name (name_same K rs s.path i); of = number_same K 0 rs s.path i }

    pub name_kept : (s : ImportSpec S) → import_name (rs_after M N g K rs) s ≡ import_name rs s
    name_kept s = λ i. name_or s.name (name_same K rs s.path i)

    imports_same : (ss : List (ImportSpec S)) → map (linked_import (rs_after M N g K rs)) ss ≡ map (linked_import rs) ss
    imports_same [] = refl
    imports_same (s ∷ ss) = λ i. import_same s i ∷ imports_same ss i

    file_same : (f : SourceTree S) → linked_file (rs_after M N g K rs) f ≡ linked_file rs f
    file_same f = λ i. record { imports = imports_same (import_specs f.tree) i; decls = f.tree.decls }

    files_same : (fs : List (SourceTree S)) → map (linked_file (rs_after M N g K rs)) fs ≡ map (linked_file rs) fs
    files_same [] = refl
    files_same (f ∷ fs) = λ i. file_same f i ∷ files_same fs i

    files_changed : (m : ℕ) (fs : List (SourceTree S)) → map (linked_file (rs_after M N g K rs)) (change_nth m (file_with M N g) fs) ≡ change_nth m (decl_changed g N) (map (linked_file rs) fs)
    files_changed m [] = refl
    files_changed zero (f ∷ fs) = λ i. record { imports = imports_same (import_specs f.tree) i; decls = change_nth N g f.tree.decls } ∷ files_same fs i
    files_changed (suc m) (f ∷ fs) = λ i. file_same f i ∷ files_changed m fs i

    -- the package, as typing sees it
    pub package_changed : (w v : Where S) (s : S) → v.number ≡ w.number → v.of ≡ package_with M N g w.of → file_changed g M N (linked_at rs w s) ≡ linked_at (rs_after M N g K rs) v s
    package_changed w v s a b =
        (λ i. record { number = w.number; name = w.of.name; at = s; files = sym (files_changed M w.of.files) i })
        ∙ (λ i. record { number = sym a i; name = (sym b i).name; at = s; files = map (linked_file (rs_after M N g K rs)) (sym b i).files })

  -- ---- so do packages as typing sees them

  pub at_changed : (p : SourcePackage S) (k : ℕ) {ps : Program S} → PackageAt p k ps → PackageAt (file_changed g M N p) k (changed g k M N ps)
  at_changed p _ this_package = this_package
  at_changed p _ (a_later_package d r) = a_later_package d (at_changed p _ r)

  -- whose imports are of packages of the program, still
  numbers_same : (k n : ℕ) (ps : Program S) → has_package (changed g k M N ps) n ≡ has_package ps n
  numbers_same k n [] = refl
  numbers_same zero n (p ∷ ps) = refl
  numbers_same (suc k) n (p ∷ ps) = ap (λ (b : Bool). nat_eq p.number n || b) (numbers_same k n ps)

  abbrev file_own : (ℕ → Bool) → SourceFile S → Bool
  file_own h f = list_all (λ (i : Import S). h i.of) f.imports

  abbrev own : (ℕ → Bool) → Program S → Bool
  own h ps = list_all (λ (p : SourcePackage S). list_all (file_own h) p.files) ps

  files_own : (h : ℕ → Bool) (m : ℕ) (fs : List (SourceFile S)) → list_all (file_own h) (change_nth m (decl_changed g N) fs) ≡ list_all (file_own h) fs
  files_own h m [] = refl
  files_own h zero (f ∷ fs) = refl
  files_own h (suc m) (f ∷ fs) = ap (λ (b : Bool). file_own h f && b) (files_own h m fs)

  own_changed : (h : ℕ → Bool) (k : ℕ) (ps : Program S) → own h (changed g k M N ps) ≡ own h ps
  own_changed h k [] = refl
  own_changed h zero (p ∷ ps) = ap (λ (b : Bool). b && own h ps) (files_own h M p.files)
  own_changed h (suc k) (p ∷ ps) = ap (λ (b : Bool). list_all (file_own h) p.files && b) (own_changed h k ps)

  pub itself_changed : (k : ℕ) (ps : Program S) → imports_itself (changed g k M N ps) ≡ imports_itself ps
  itself_changed k ps = (λ i. own (λ n. numbers_same k n ps i) (changed g k M N ps)) ∙ own_changed (has_package ps) k ps

-- ---- the step

module _ {S : Type 0} (x : UseInBody S) (e : Expr S) (form_is : x.becomes.form ≡ as_expr e) where
  abbrev rs : List (Package S)
  rs = x.packages

  abbrev w : Where S
  w = x.site.at

  abbrev tree : File S
  tree = w.source.tree

  abbrev change : Form S → Decl S → Decl S
  change f d = new_decl x.same rs (changes_for x.same (part_span x.site.part) f) w.number w.of tree d

  abbrev put_there : Decl S → Decl S
  put_there = put_decl x.same rs (part_span x.site.part) e w.number w.of tree

  -- the file with a form in the use's place, and with imports added
  abbrev new_file : List NewImport → Form S → File S
  new_file is f = record tree { imports = tree.imports ++ added_decls x.becomes.range is; decls = change_nth x.site.decl (change f) tree.decls }

  abbrev pub file_now : File S
  file_now = file_between x.same x.commented rs x.marks (step_at x)

  pub file_is : file_now ≡ record tree { decls = change_nth x.site.decl put_there tree.decls }
  file_is = (λ i. new_file (x.no_import.none_added i) (form_is i)) ∙ (λ i. record tree { imports = nothing_behind tree.imports i; decls = change_nth x.site.decl put_there tree.decls })

  abbrev pub between : List (Package S)
  between = packages_between x.same x.commented rs x.marks (step_at x)

  -- the packages of the run after
  abbrev pub now : List (Package S)
  now = rs_after w.file_number x.site.decl put_there w.number rs

  abbrev package_now : Package S
  package_now = package_with w.file_number x.site.decl put_there w.of

  between_is : between ≡ now
  between_is =
      nth_alike (λ p. record p { files = change_nth w.file_number (λ s. record s { tree = file_now }) p.files }) (package_with w.file_number x.site.decl put_there) w.number rs w.of x.linked_so.package_there
      (ap (λ fs. record w.of { files = fs })
      (nth_alike (λ s. record s { tree = file_now }) (file_with w.file_number x.site.decl put_there) w.file_number w.of.files w.source x.stands.file_there (ap (λ t. record w.source { tree = t }) file_is)))

  -- the place of the file after
  abbrev pub there : Where S
  there = record { number = w.number; of = package_now; file_number = w.file_number; source = file_with w.file_number x.site.decl put_there w.source }

  package_there : slice_get now w.number ≡ Some package_now
  package_there = nth_changed (package_with w.file_number x.site.decl put_there) w.number rs w.of x.linked_so.package_there

  where_is : where_between x.same x.commented rs x.marks (step_at x) ≡ there
  where_is =
      (λ i. record { number = w.number; of = otherwise (slice_get (between_is i) w.number) w.of; file_number = w.file_number; source = record w.source { tree = file_is i } })
      ∙ (λ i. record { number = w.number; of = otherwise (package_there i) w.of; file_number = w.file_number; source = file_with w.file_number x.site.decl put_there w.source })

  pub file_there : slice_get there.of.files there.file_number ≡ Some there.source
  file_there = nth_changed (file_with w.file_number x.site.decl put_there) w.file_number w.of.files w.source x.stands.file_there

  -- which imports the file uses with the form in place
  pub used_now : (k : ℕ) → is_import_used between (where_between x.same x.commented rs x.marks (step_at x)) file_now.decls k ≡ is_import_used now there there.source.tree.decls k
  used_now k = λ i. is_import_used (between_is i) (where_is i) (file_is i).decls k

  -- a name that means an import means it still
  names_still : (ss : List (ImportSpec S)) → map (import_name now) ss ≡ map (import_name rs) ss
  names_still [] = refl
  names_still (s ∷ ss) = λ i. name_kept w.file_number x.site.decl put_there w.number rs s i ∷ names_still ss i

  pub means_still : (j : ℕ) (n : List ℕ) → Means rs w j n → Means now there j n
  means_still j n m =
      (λ v. means_import j (given (means (in_turn n now there v) n) imported_by))
      ∙ (λ v. means_import j (given (means (numbered imported 0 ((names_still (import_specs tree) ∙ sym (nothing_behind (map (import_name rs) (import_specs tree)))) v) ++ behind n now there) n) imported_by))
      ∙ import_stays n 0 j (map (import_name rs) (import_specs tree)) [] (behind n rs w) (behind n now there) (none_behind n rs w) ((λ v. means_import j (given (means (sym (in_turn n rs w) v) n) imported_by)) ∙ m)

  -- ---- as typing sees them

  sources_put : (k : ℕ) (ms : List (translated.Package S)) → sources (members_put x.same rs (part_span x.site.part) e w.number w.of tree k w.file_number x.site.decl ms) ≡ changed put_there k w.file_number x.site.decl (sources ms)
  sources_put k [] = refl
  sources_put zero (m ∷ ms) = refl
  sources_put (suc k) (m ∷ ms) = ap (λ l. m.source ∷ l) (sources_put k ms)

  distinct : Distinct (linked rs)
  distinct = subst Distinct x.linked_so.sources_are (distinct_sources x.members [] (ap are_distinct (nothing_behind x.members) ∙ x.linked_so.distinct))

  package_before : PackageAt (linked_at rs w x.stands.named_at) x.stands.nth (linked rs)
  package_before =
      subst (PackageAt (linked_at rs w x.stands.named_at) x.stands.nth) x.linked_so.sources_are
      (subst (λ (p : SourcePackage S). PackageAt p x.stands.nth (sources x.members)) x.stands.source_is (nth_package x.members x.linked_so.distinct x.stands.nth x.stands.of x.stands.is_nth))

  linked_put : linked now ≡ changed put_there x.stands.nth w.file_number x.site.decl (linked rs)
  linked_put = linked_after w.file_number x.site.decl put_there w.number rs (linked_at rs w x.stands.named_at) x.stands.nth package_before refl distinct

  pub linked_now : sources (with_literal x e) ≡ linked now
  linked_now = sources_put x.stands.nth x.members ∙ ap (λ ps. changed put_there x.stands.nth w.file_number x.site.decl ps) x.linked_so.sources_are ∙ sym linked_put

  -- the package of the use
  pub stands_now : PackageAt (linked_at now there x.stands.named_at) x.stands.nth (linked now)
  stands_now =
      subst (λ (p : SourcePackage S). PackageAt p x.stands.nth (linked now)) (package_changed w.file_number x.site.decl put_there w.number rs w there x.stands.named_at refl refl)
      (subst (PackageAt (file_changed put_there w.file_number x.site.decl (linked_at rs w x.stands.named_at)) x.stands.nth) (sym linked_put) (at_changed w.file_number x.site.decl put_there (linked_at rs w x.stands.named_at) x.stands.nth package_before))

  pub itself_now : imports_itself (linked rs) ≡ true → imports_itself (linked now) ≡ true
  itself_now t = ap imports_itself linked_put ∙ itself_changed w.file_number x.site.decl put_there x.stands.nth (linked rs) ∙ t

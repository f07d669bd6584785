-- In a program whose declarations are typed, whatever its files import, each import that a file uses is one that typing
-- counts as used there.
use Rattle.std.proofs.Common.{◌≡◌, ◌∙◌, refl, sym, subst, inl, inr, ℕ, zero, suc, ◌+◌, Bool, true, false, ◌&&◌, ◌||◌, nat_eq, List, [], ◌∷◌, ◌++◌, Some, arith}
use Rattle.std.specs.Prelude.{slice_get}
use Rattle.std.specs.List.{list_any}
use Rattle.std.proofs.lemmas.Bool.Decides.{nat_tests}
use Rattle.std.proofs.lemmas.List.Folds.{list_any-append}
use Rattle.std.proofs.lemmas.Option.{same_Some}
use Rattle.go_tree.specs.File.{ImportSpec, Decl}
use Rattle.go_tree.specs.ScopeNames.Means.{Environment, is_blank}
use Rattle.go_tree.specs.GoTypes.Agreement.{In}
use Rattle.go_tree.specs.GoTypes.Answers.{is_among}
use Rattle.go_tree.specs.GoTypes.Collect.{types_declared, collected}
use Rattle.go_tree.specs.GoTypes.Entities.{Entity, World}
use Rattle.go_tree.specs.GoTypes.Programs.{Header, SourceFile, SourcePackage, Program, Headed, headers, all_headers, names_in, file_block, block_names, header_names, header_sound, headed, headed_file, headed_files, headed_package, is_main}
use Rattle.go_tree.specs.GoTypes.WellTyped.{header_uses, is_used_in}
use Rattle.pkg_graph.specs.Package as run
use Rattle.pkg_graph.specs.Package.{import_specs}
use Rattle.pkg_graph.specs.Members.{import_name}
use Rattle.constant_steps.specs.Alone.{PackageAt, this_package, a_later_package}
use Rattle.constant_steps.specs.PlainUse.{linked_at}
use Rattle.constant_steps.specs.StepLaws.PartsTyped.{HeaderTyped}
use Rattle.constant_steps.specs.StepLaws.SwapPrograms.{headed_there}
use Rattle.constant_steps.proofs.MarksFound.{nth_mapped}
use Rattle.constants_anywhere.proofs.TypedDecls.{TypedInFile, in_files, in_package}
use Rattle.imported_typing.specs.Further.{imports_itself}
use Rattle.order_runs.proofs.RunSteps.SeatedUses.{Among}
use Rattle.printed_constants.specs.TypedParts.Parts.{AllTyped}
use Rattle.printed_constants.specs.TypedParts.StandingUses.ImportUses.Parts.{DottedImports}
use Rattle.printed_constants.proofs.DeclaredMembers.Values.{IsTyped}
use Rattle.printed_constants.proofs.RemovedImports.Imports.{any_true, nth_among}
use Rattle.printed_constants.proofs.UsedImports.HeaderUses.{among_in}
use Rattle.printed_constants.proofs.UsedImports.Looked.{any_among, among_nth}
use Rattle.put_nodes.specs.Swapped.{FormedDecl}
use Rattle.run_rules.specs.Programs.{linked_file, linked, world, imports_mean, top_env, decl_seen}
use Rattle.run_rules.specs.Respanned.{decl_with}
use Rattle.run_rules.specs.Sites.{Where}
use Rattle.run_rules.specs.Steps.{uses_import, is_import_used}
use Rattle.run_rules.specs.Surroundings.{Seen}
use Rattle.typed_in_place.specs.ImportRule.{declarations_ok}
use Rattle.typed_in_place.specs.ProgramReplaced.{All}
use Rattle.constant_modules.specs.CountedUses.Typed.{TypesHaveValues}
use Rattle.constant_modules.specs.KeyedImports.Keyed.{decl_marked}
use Rattle.constant_modules.specs.NamesAndKeys.Marked.{used_name, Within}
use Rattle.constant_modules.specs.NamesAndKeys.UsedStand as uses
use Rattle.constant_modules.proofs.LookUps.Walk.{among-front, among-back}
use Rattle.constant_modules.proofs.CountedUses.Declared.{headers_typed}
use Rattle.constant_modules.proofs.CountedUses.Headers.{Used, decl_use}
use Rattle.constant_modules.proofs.CountedUses.Known.{put_nowhere, parts_known}
use Rattle.constant_modules.proofs.CountedUses.Lifted.{decl_dotted, decl_parts_typed}
use Rattle.constant_modules.proofs.CountedUses.Lists.{one-or}
use Rattle.constant_modules.proofs.CountedUses.Literals.{each_named}
use Rattle.constant_modules.proofs.KeyedImports.StandDecls.{marked-stands}
use Rattle.constant_modules.proofs.NamesAndKeys.NotAlone.{one_known}
use Rattle.constant_modules.proofs.TypedUses.Decls.{typed_known}
use Rattle.literal_imports.proofs.Alone.{not_alone}
use Rattle.literal_imports.proofs.ImportsNamed.{Means, Stands, uses_stand, stands_uses, is_spelled, dots_free, named_so}

nothing_behind : {A : Type 0} (xs : List A) → xs ++ [] ≡ xs
nothing_behind [] = refl
nothing_behind (x ∷ xs) = λ v. x ∷ nothing_behind xs v

itself : (k : ℕ) → nat_eq k k ≡ true
itself k = grind (arith, nat_tests)

or_front : (a b : Bool) → a ≡ true → (a || b) ≡ true
or_front true b e = refl
or_front false b e = absurd cc

or_back : (a b : Bool) → b ≡ true → (a || b) ≡ true
or_back true b e = refl
or_back false b e = e

-- ---- a header of a file that uses a name

module _ {S : Type 0} (v : World) (K M : ℕ) (n : List ℕ) where
  abbrev test : Headed S → Bool
  test h = nat_eq h.home K && (nat_eq h.file M && is_among n (header_uses v h))

  abbrev Counted : List (Headed S) → Type 0
  Counted hs = is_used_in v K M n hs ≡ true

  counted_front : (hs ks : List (Headed S)) → Counted hs → Counted (hs ++ ks)
  counted_front hs ks e = list_any-append test hs ks ∙ or_front (is_used_in v K M n hs) (is_used_in v K M n ks) e

  counted_back : (hs ks : List (Headed S)) → Counted ks → Counted (hs ++ ks)
  counted_back hs ks e = list_any-append test hs ks ∙ or_back (is_used_in v K M n hs) (is_used_in v K M n ks) e

  -- in a file with these imports
  abbrev UsesIt : Environment Entity → S × Header S → Type 0
  UsesIt is h = (in_main : Bool) (at : S) (sound : Bool) → In n (header_uses v (headed_there K in_main M is at sound h.1))

  file_counts : (in_main : Bool) (is : Environment Entity) (b : List (List ℕ)) (hs : List (S × Header S)) (h : S × Header S) → Among h hs → UsesIt is h → Counted (headed_file K in_main M is b hs)
  file_counts in_main is b [] h i u = elim i [ ]
  file_counts in_main is b (x ∷ hs) h i u =
      one-or i
      (λ e. or_front (test one) (is_used_in v K M n rest) (λ z. itself K z && (itself M z && among_in n (header_uses v one) (subst (λ (y : S × Header S). UsesIt is y) e u in_main x.0 (header_sound b x.1)) z)))
      (λ j. or_back (test one) (is_used_in v K M n rest) (file_counts in_main is (header_names x.1 ++ b) hs h j u))
    where
      one : Headed S
      one = headed_there K in_main M is x.0 (header_sound b x.1) x.1

      rest : List (Headed S)
      rest = headed_file K in_main M is (header_names x.1 ++ b) hs

  module _ (in_main : Bool) (members : List (List ℕ)) where
    files_count : (i j : ℕ) (b : List (List ℕ)) (fs : List (SourceFile S)) (f : SourceFile S) → slice_get fs j ≡ Some f → M ≡ i + j → (h : S × Header S) → Among h (all_headers f.decls) → UsesIt (file_block members [] f.imports) h → Counted (headed_files K in_main members i b fs)
    files_count i j b [] f e m h a u = absurd cc
    files_count i zero b (g ∷ gs) f e m h a u =
        let own : Counted (headed_file K in_main M (file_block members [] g.imports) b (all_headers g.decls)) =
        file_counts in_main (file_block members [] g.imports) b (all_headers g.decls) h (subst (λ (y : SourceFile S). Among h (all_headers y.decls)) (sym (same_Some g f e)) a) (subst (λ (y : SourceFile S). UsesIt (file_block members [] y.imports) h) (sym (same_Some g f e)) u) in
        counted_front (headed_file K in_main i (file_block members [] g.imports) b (all_headers g.decls)) (headed_files K in_main members (suc i) (names_in (all_headers g.decls) ++ b) gs)
        (subst (λ (k : ℕ). Counted (headed_file K in_main k (file_block members [] g.imports) b (all_headers g.decls))) number own)
      where
        number : M ≡ i
        number = omega (arith, m)
    files_count i (suc j) b (g ∷ gs) f e m h a u =
        counted_back (headed_file K in_main i (file_block members [] g.imports) b (all_headers g.decls)) (headed_files K in_main members (suc i) (names_in (all_headers g.decls) ++ b) gs)
        (files_count (suc i) j (names_in (all_headers g.decls) ++ b) gs f e (omega (arith, m)) h a u)

  package_counts : (p : SourcePackage S) (k : ℕ) {ps : Program S} → PackageAt p k ps → Counted (headed_package p) → Counted (headed ps)
  package_counts p _ (this_package {ps = ps}) e = counted_front (headed_package p) (headed ps) e
  package_counts p _ (a_later_package {k = k} {q = r} {ps = ps} d s) e = counted_back (headed_package r) (headed ps) (package_counts p k s e)

decl_among : {S : Type 0} (h : S × Header S) (ds : List (Decl S)) (i : ℕ) (d : Decl S) → slice_get ds i ≡ Some d → Among h (headers d) → Among h (all_headers ds)
decl_among h [] i d e a = absurd cc
decl_among {S = S} h (x ∷ ds) zero d e a = among-front (all_headers ds) (subst (λ (y : Decl S). Among h (headers y)) (sym (same_Some x d e)) a)
decl_among h (x ∷ ds) (suc i) d e a = among-back (headers x) (decl_among h ds i d e a)

-- ---- imports

module _ {S : Type 0} (ps : List (run.Package S)) (w : Where S) (s : S) (nth : ℕ) (at : PackageAt (linked_at ps w s) nth (linked ps)) (itself_so : imports_itself (linked ps) ≡ true) (ok : declarations_ok (linked ps) ≡ true) (fe : slice_get w.of.files w.file_number ≡ Some w.source) where
  typed : All (HeaderTyped (types_declared (linked ps) (headed (linked ps))) (world ps)) (headed (linked ps))
  typed = headers_typed (linked ps) ok

  abbrev its : SourcePackage S
  its = linked_at ps w s

  -- the headers of a declaration of the file are typed
  pub in_file : (i : ℕ) (d : Decl S) → slice_get w.source.tree.decls i ≡ Some d → TypedInFile (types_declared (linked ps) (headed (linked ps))) (world ps) w.number (is_main its) (imports_mean ps w.of w.source.tree) d
  in_file i d de =
      in_files (types_declared (linked ps) (headed (linked ps))) (world ps) w.number (is_main its) (block_names its.files) 0 w.file_number i its.files (linked_file ps w.source) d
      (in_package (types_declared (linked ps) (headed (linked ps))) (world ps) its nth w.file_number i at typed) (nth_mapped (linked_file ps) w.of.files w.file_number w.source fe) de

  pub file_dotted : (i : ℕ) (d : Decl S) → slice_get w.source.tree.decls i ≡ Some d → DottedImports ps w (decl_seen ps w.number w.of w.source.tree d)
  file_dotted i d de = let t = in_file i d de in decl_dotted ps w (is_main its) t.nth d t.typed

  pub file_parts_typed : (i : ℕ) (d : Decl S) → slice_get w.source.tree.decls i ≡ Some d → AllTyped (decl_seen ps w.number w.of w.source.tree d)
  file_parts_typed i d de = let t = in_file i d de in decl_parts_typed ps w (is_main its) t.nth d t.typed

  module _ (have_values : (i : ℕ) (d : Decl S) → slice_get w.source.tree.decls i ≡ Some d → TypesHaveValues d) where
    abbrev none : Program S
    none = []

    abbrev all : Program S
    all = linked ps ++ none

    -- a name of an import that stands at a part of a declaration
    module _ (k i : ℕ) (d : Decl S) (de : slice_get w.source.tree.decls i ≡ Some d) (x : Seen S) (there : Among x (decl_seen ps w.number w.of w.source.tree d)) (n : Stands ps w k x) where
      named : is_blank n.name ≡ false
      named = is_spelled ps w k n.name n.means_it

      its_header : Used n.name named ps w (collected all) (put_nowhere s) (headers d)
      its_header =
          decl_use n.name named ps w (collected all) (put_nowhere s) d (have_values i d de)
          (λ y a. (parts_known ps w s nth none at itself_so refl typed fe i d de n.name named y a, dots_free ps w k n.name n.means_it (decl_seen ps w.number w.of w.source.tree d) (file_dotted i d de) y a)) x there n.stands

      counted_name : is_used_in (collected all) w.number w.file_number n.name (headed (linked ps)) ≡ true
      counted_name =
          package_counts (collected all) w.number w.file_number n.name its nth at
          (files_count (collected all) w.number w.file_number n.name (is_main its) (block_names its.files) 0 w.file_number [] its.files (linked_file ps w.source) (nth_mapped (linked_file ps) w.of.files w.file_number w.source fe) (omega arith) its_header.header
          (decl_among its_header.header w.source.tree.decls i d de its_header.there) (λ in_main at sound. its_header.uses in_main w.file_number at sound))

    module _ (k : ℕ) (u : is_import_used ps w w.source.tree.decls k ≡ true) where
      at_decl : (d : Decl S) × Among d w.source.tree.decls × (list_any (uses_import ps w k) (decl_seen ps w.number w.of w.source.tree d) ≡ true)
      at_decl = any_among (λ (d : Decl S). list_any (uses_import ps w k) (decl_seen ps w.number w.of w.source.tree d)) w.source.tree.decls u

      at_number : (i : ℕ) × (slice_get w.source.tree.decls i ≡ Some at_decl.0)
      at_number = among_nth at_decl.0 w.source.tree.decls at_decl.1

      at_part : (x : Seen S) × Among x (decl_seen ps w.number w.of w.source.tree at_decl.0) × (uses_import ps w k x ≡ true)
      at_part = any_among (uses_import ps w k) (decl_seen ps w.number w.of w.source.tree at_decl.0) at_decl.2

      stands_there : Stands ps w k at_part.0
      stands_there = uses_stand ps w k at_part.0 at_part.2

      -- typing counts its name as used
      pub counts : (y : ImportSpec S) → slice_get (import_specs w.source.tree) k ≡ Some y → is_used_in (world ps) w.number w.file_number (import_name ps y) (headed (linked ps)) ≡ true
      counts y e =
          subst (λ (q : List ℕ). is_used_in (world ps) w.number w.file_number q (headed (linked ps)) ≡ true) (named_so ps w k stands_there.name stands_there.means_it y e)
          (subst (λ (p : Program S). is_used_in (collected p) w.number w.file_number stands_there.name (headed (linked ps)) ≡ true) (nothing_behind (linked ps)) (counted_name k at_number.0 at_decl.0 at_number.1 at_part.0 at_part.1 stands_there))

  -- an import whose name a declaration of the file uses, keys aside, is one that the file uses
  module _ {B : Type 0} (to : S → B) (i : ℕ) (d : Decl S) (de : slice_get w.source.tree.decls i ≡ Some d) (formed : FormedDecl (decl_with to d)) (m : List ℕ) (k : ℕ) (means_it : Means ps w k m) (used : Within (used_name m) (decl_marked d)) where
    abbrev parts : List (Seen S)
    parts = decl_seen ps w.number w.of w.source.tree d

    its_part : (x : Seen S) × Among x parts × uses.Counted m x
    its_part = marked-stands m ps w.number w.of w.source.tree d (each_named parts (file_parts_typed i d de)) used

    typed_there : IsTyped ps w d
    typed_there = let t = in_file i d de in record { in_main = is_main its; nth = t.nth; typed = t.typed }

    pub marked_used : is_import_used ps w w.source.tree.decls k ≡ true
    marked_used = by its_part.2
      where
        by : uses.Counted m its_part.0 → is_import_used ps w w.source.tree.decls k ≡ true
        by (inl h) =
            any_true (λ (c : Decl S). list_any (uses_import ps w k) (decl_seen ps w.number w.of w.source.tree c)) (nth_among w.source.tree.decls i d de)
            (any_true (uses_import ps w k) its_part.1 (stands_uses ps w k m means_it its_part.0 h))
        by (inr h) = absurd (not_alone ps w m k means_it its_part.0 (one_known (top_env ps w.number w.of w.source.tree) parts (typed_known to ps w d formed typed_there) its_part.0 its_part.1) h)

-- the name of an import that the file uses means it
module _ {S : Type 0} (ps : List (run.Package S)) (w : Where S) (k : ℕ) (u : is_import_used ps w w.source.tree.decls k ≡ true) where
  where_used : (d : Decl S) × Among d w.source.tree.decls × (list_any (uses_import ps w k) (decl_seen ps w.number w.of w.source.tree d) ≡ true)
  where_used = any_among (λ (d : Decl S). list_any (uses_import ps w k) (decl_seen ps w.number w.of w.source.tree d)) w.source.tree.decls u

  used_part : (x : Seen S) × Among x (decl_seen ps w.number w.of w.source.tree where_used.0) × (uses_import ps w k x ≡ true)
  used_part = any_among (uses_import ps w k) (decl_seen ps w.number w.of w.source.tree where_used.0) where_used.2

  used_as : Stands ps w k used_part.0
  used_as = uses_stand ps w k used_part.0 used_part.2

  pub used_means : (y : ImportSpec S) → slice_get (import_specs w.source.tree) k ≡ Some y → Means ps w k (import_name ps y)
  used_means y e = subst (λ (n : List ℕ). Means ps w k n) (named_so ps w k used_as.name used_as.means_it y e) used_as.means_it

-- A package of a program that is searched.
use Rattle.std.proofs.Common.{◌≡◌, ◌∙◌, refl, sym, ap, subst, ℕ, Bool, List, get_or, slice_set, Option, Some, Result, Ok, Err, IfOk, OnOk}
use Rattle.std.specs.Prelude.{slice_get, length}
use Rattle.std.specs.Vec.{with_items}
use Rattle.std.proofs.lemmas.List.{with_items_is, length-set}
use Rattle.std.proofs.lemmas.Option.{get_or_from_slice_get}
use Rattle.go_scan.specs.TokenLists.{TokenLists}
use Rattle.pkg_graph.specs.declared.packages.Package.{Package}
use Rattle.stepped_programs.specs.declared.package_search.looks.ProgramSources.{ProgramSources}
use Rattle.stepped_programs.specs.declared.package_search.search.FoundInPackage.{FoundInPackage}
use Rattle.programs.specs.declared.state.PackageFiles.{PackageFiles}
use Rattle.programs.specs.declared.state.Program.{Program}
use Rattle.programs.specs.Users.{Known}
use Rattle.stepped_programs.specs.PackageSearch.SearchedPrograms.Search.{Keeps, IsUserSearch}
use Rattle.stepped_programs.specs.PackageSearch.SearchedPrograms.Programs.{IsPackagesSearch, IsProgramSearch}

-- what is read of a list is what is there
pub there_read : {A : Type 0} (xs : List A) (k : ℕ) (x d : A) → slice_get xs k ≡ Some x → slice_get xs k ≡ Some (get_or xs k d)
there_read {A = A} xs k x d there = there ∙ ap (λ (z : A). Some z) (sym (get_or_from_slice_get xs k x d there))

module _ (s : ProgramSources) (k : ℕ) (files : List PackageFiles) (users after : Known) (home : Package) (was : PackageFiles) (tokens : List TokenLists) (old new : List Bool)
    (home_is : slice_get s.packages.now k ≡ Some home) (was_is : slice_get files k ≡ Some was) (tokens_are : tokens ≡ was.tokens.items) (old_are : old ≡ was.settled.items) where
  abbrev now : PackageFiles
  now = record was { settled = with_items was.settled new }

  searched : (r : Option FoundInPackage) → IsUserSearch s k home tokens after old new r → Keeps users after
      → IsPackagesSearch s k files (slice_set files k now) users after r
  searched r x keeps =
      let flags : now.settled.items ≡ new = with_items_is was.settled new (x.settled.size ∙ ap length old_are ∙ sym was.settled.ok.0) in
      record {
        home = home;
        home_is = home_is;
        was = was;
        was_is = was_is;
        now = now;
        only_flags = refl;
        put = refl;
        search =
            subst (λ (bs : List Bool). IsUserSearch s k home was.tokens.items after was.settled.items bs r) (sym flags)
            (subst (λ (bs : List Bool). IsUserSearch s k home was.tokens.items after bs new r) old_are
            (subst (λ (ts : List TokenLists). IsUserSearch s k home ts after old new r) tokens_are x));
        keeps = keeps;
      }

  pub all_searched : {E : Type 0} (r : Result (Option FoundInPackage) E) → IfOk r (IsUserSearch s k home tokens after old new) → OnOk r (Keeps users after)
      → IfOk r (IsPackagesSearch s k files (slice_set files k now) users after)
  all_searched (Ok r) x keeps = searched r x keeps
  all_searched (Err e) x keeps = tt

module _ (old : Program) (k : ℕ) where
  one_searched : (s : ProgramSources) (fs gs : List PackageFiles) (after : Known) (r : Option FoundInPackage) → IsPackagesSearch s k fs gs old.users after r
      → s.packages.now ≡ old.packages.items → s.places.now ≡ old.places → s.marks.now ≡ old.marks → s.values.now ≡ old.values → s.types.now ≡ old.types → fs ≡ old.files.items
      → IsProgramSearch old (record old { files = with_items old.files gs; users = after }) k r
  one_searched s fs gs after r x packages places marks values types same =
      let files : (with_items old.files gs).items ≡ gs =
      with_items_is old.files gs (ap length x.put ∙ length-set fs k x.now ∙ ap length same ∙ sym old.files.ok.0) in
      record {
        sources = s;
        packages_told = packages;
        places_told = places;
        marks_told = marks;
        values_told = values;
        types_told = types;
        rest = refl;
        search =
            subst (λ (ks : List PackageFiles). IsPackagesSearch s k old.files.items ks old.users after r) (sym files)
            (subst (λ (ks : List PackageFiles). IsPackagesSearch s k ks gs old.users after r) same x);
      }

  pub program_searched : {E : Type 0} (s : ProgramSources) (fs gs : List PackageFiles) (after : Known) (r : Result (Option FoundInPackage) E)
      → IfOk r (IsPackagesSearch s k fs gs old.users after) → s.packages.now ≡ old.packages.items → s.places.now ≡ old.places → s.marks.now ≡ old.marks
      → s.values.now ≡ old.values → s.types.now ≡ old.types → fs ≡ old.files.items → IfOk r (IsProgramSearch old (record old { files = with_items old.files gs; users = after }) k)
  program_searched s fs gs after (Ok r) x packages places marks values types same = one_searched s fs gs after r x packages places marks values types same
  program_searched s fs gs after (Err e) x packages places marks values types same = tt

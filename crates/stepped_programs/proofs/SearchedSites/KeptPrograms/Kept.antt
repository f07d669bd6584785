-- Programs that are searched.
use Rattle.std.proofs.Common.{◌≡◌, ◌∙◌, refl, sym, ap, subst, ℕ, zero, suc, ◌<◌, ◌⊎◌, inl, inr, Bool, true, false, nat_eq, All, List, [], ◌∷◌, length, get_or, Option, Some, arith, slice_set}
use Rattle.std.specs.Prelude.{slice_get}
use Rattle.std.proofs.lemmas.Bool.{eqb-true, eqb-false}
use Rattle.std.proofs.lemmas.List.{length-map, length-set}
use Rattle.std.proofs.lemmas.Option.{same_Some, slice_get_within}
use Rattle.go_tree.specs.declared.spans.Span.{Span}
use Rattle.go_scan.specs.TokenLists.{TokenLists}
use Rattle.run_rules.specs.ImportRules.Laid.{CommentsAscend}
use Rattle.splice_laws.proofs.ImportSplices.ImportPlaces.CommentsStand.{comments_ascend}
use Rattle.pkg_graph.specs.Package.{Package}
use Rattle.pkg_graph.specs.Reads.{Source}
use Rattle.pkg_graph.specs.Views.{package_view, source_of}
use Rattle.run_rules.specs.Respanned.{source_with, package_with}
use Rattle.run_rules.specs.Sites.{MarkRef}
use Rattle.run_rules.specs.Steps.{At}
use Rattle.run_rules.specs.Run.{Standing, here_of}
use Rattle.constant_steps.proofs.MarksFound.{nth_mapped}
use Rattle.stepped_programs.specs.declared.package_search.search.FoundInPackage.{FoundInPackage}
use Rattle.programs.specs.declared.state.PackageFiles.{PackageFiles}
use Rattle.programs.specs.declared.state.Program.{Program}
use Rattle.programs.specs.Kept.{IsKeptFile}
use Rattle.programs.specs.Programs.{AreKeptFiles, IsProgramOf}
use Rattle.stepped_programs.specs.PackageSearch.SearchedPrograms.Programs.{IsOpenProgram, IsProgramSearch}
use Rattle.stepped_programs.specs.SearchedSites.KeptPrograms.Laws.{ProgramsAreOpen, SearchedProgramsStay}

-- ---- lists

-- there is an entry
pub record There {A : Type 0} (xs : List A) (k : ℕ) : Type 0 where
  pub entry : A
  pub is : slice_get xs k ≡ Some entry

pub there : {A : Type 0} (xs : List A) (k : ℕ) → k < length xs → There xs k
there [] k h = absurd (omega (arith, h))
there (x ∷ xs) zero h = record { entry = x; is = refl }
there (x ∷ xs) (suc k) h = let t = there xs k (omega (arith, h)) in record { entry = t.entry; is = t.is }

pub set_here : {A : Type 0} (xs : List A) (k : ℕ) (y : A) → k < length xs → slice_get (slice_set xs k y) k ≡ Some y
set_here [] k y h = absurd (omega (arith, h))
set_here (x ∷ xs) zero y h = refl
set_here (x ∷ xs) (suc k) y h = set_here xs k y (omega (arith, h))

pub set_else : {A : Type 0} (xs : List A) (k j : ℕ) (y : A) → (j ≡ k → ⊥) → slice_get (slice_set xs k y) j ≡ slice_get xs j
set_else [] k j y h = refl
set_else (x ∷ xs) zero zero y h = absurd (h refl)
set_else (x ∷ xs) zero (suc j) y h = refl
set_else (x ∷ xs) (suc k) zero y h = refl
set_else (x ∷ xs) (suc k) (suc j) y h = set_else xs k j y (λ e. h (ap suc e))

pub nat_cases : (j k : ℕ) → (j ≡ k) ⊎ (j ≡ k → ⊥)
nat_cases j k = by (nat_eq j k) refl
  where
    by : (b : Bool) → nat_eq j k ≡ b → (j ≡ k) ⊎ (j ≡ k → ⊥)
    by true e = inl (eqb-true j k e)
    by false e = inr (eqb-false j k e)

pub got : {A : Type 0} (xs : List A) (i : ℕ) (d : A) → i < length xs → slice_get xs i ≡ Some (get_or xs i d)
got [] i d h = absurd (omega (arith, h))
got (x ∷ xs) zero d h = refl
got (x ∷ xs) (suc i) d h = got xs i d (omega (arith, h))

-- ---- each package may be searched

module _ (files : List Source) (marks : List MarkRef) (st : Standing) (p : Program) (k : ℕ) (is : IsProgramOf files marks st p) (within : k < length st.packages) where
  stands : There st.packages k
  stands = there st.packages k within

  as_many : length p.packages.items ≡ length st.packages
  as_many = sym (length-map p.packages.items package_view) ∙ ap length is.packages_are ∙ length-map st.packages (package_with here_of)

  home : There p.packages.items k
  home = there p.packages.items k (omega (arith, within, as_many))

  kept : There p.files.items k
  kept = there p.files.items k (omega (arith, within, is.count))

  own : AreKeptFiles st stands.entry kept.entry
  own = is.kept k stands.entry kept.entry stands.is kept.is

  viewed : package_view home.entry ≡ package_with here_of stands.entry
  viewed =
      same_Some (package_view home.entry) (package_with here_of stands.entry)
      (sym (nth_mapped package_view p.packages.items k home.entry home.is)
      ∙ ap (λ (rs : List (Package Span)). slice_get rs k) is.packages_are
      ∙ nth_mapped (package_with here_of) st.packages k stands.entry stands.is)

  same_count : length home.entry.files ≡ length stands.entry.files
  same_count =
      sym (length-map home.entry.files source_of) ∙ ap (λ (q : Package Span). length q.files) viewed
      ∙ length-map stands.entry.files (source_with here_of)

  ascend : All (λ (t : TokenLists). CommentsAscend 0 t.comments) kept.entry.tokens.items
  ascend i d h =
      let f : There stands.entry.files i = there stands.entry.files i (omega (arith, h, own.counted.tokens)) in
      let x : IsKeptFile st kept.entry i f.entry = own.each i f.entry f.is in
      let same : get_or kept.entry.tokens.items i d ≡ x.tokens =
      same_Some (get_or kept.entry.tokens.items i d) x.tokens (sym (got kept.entry.tokens.items i d h) ∙ x.tokens_are) in
      subst (λ (t : TokenLists). CommentsAscend 0 t.comments) (sym same) (comments_ascend x.text x.tokens.items x.tokens.comments x.reads.scans)

  open_program : IsOpenProgram p k
  open_program =
      record {
        places = is.places_are;
        there =
            record {
              home = home.entry;
              home_is = home.is;
              kept = kept.entry;
              kept_is = kept.is;
              tokens = own.counted.tokens ∙ sym same_count;
              settled = own.counted.flags ∙ sym same_count;
              ascend = ascend;
            };
      }

pub are_open : ProgramsAreOpen
are_open files marks st p k is within = open_program files marks st p k is within

-- ---- a search keeps a program

module _ (files : List Source) (marks : List MarkRef) (st : Standing) (old new : Program) (k : ℕ) (r : Option FoundInPackage) (is : IsProgramOf files marks st old)
    (x : IsProgramSearch old new k r) where
  abbrev was : PackageFiles
  was = x.search.was

  abbrev now : PackageFiles
  now = x.search.now

  now_kept : (h : Package At) → AreKeptFiles st h was → AreKeptFiles st h now
  now_kept h a =
      let flags = x.search.search.settled.size in
      subst (λ (fs : PackageFiles). AreKeptFiles st h fs) (sym x.search.only_flags)
      (record {
        counted = record { texts = a.counted.texts; tokens = a.counted.tokens; flags = flags ∙ a.counted.flags };
        each = λ i f e.
            let y = a.each i f e in
            record { text = y.text; text_is = y.text_is; tokens = y.tokens; tokens_are = y.tokens_are; stands = y.stands; reads = y.reads; small = y.small };
      })

  kept_now : (j : ℕ) (h : Package At) (fs : PackageFiles) → slice_get st.packages j ≡ Some h → slice_get new.files.items j ≡ Some fs → AreKeptFiles st h fs
  kept_now j h fs e f = by (nat_cases j k)
    where
      by : (j ≡ k) ⊎ (j ≡ k → ⊥) → AreKeptFiles st h fs
      by (inl q) =
          let same : now ≡ fs =
          same_Some now fs
          (sym (set_here old.files.items k now (slice_get_within old.files.items k was x.search.was_is))
          ∙ ap (λ (ks : List PackageFiles). slice_get ks k) (sym x.search.put) ∙ ap (slice_get new.files.items) (sym q) ∙ f) in
          subst (λ (y : PackageFiles). AreKeptFiles st h y) same
          (now_kept h (is.kept k h was (ap (slice_get st.packages) (sym q) ∙ e) x.search.was_is))
      by (inr q) =
          is.kept j h fs e
          (sym (set_else old.files.items k j now q) ∙ ap (λ (ks : List PackageFiles). slice_get ks j) (sym x.search.put) ∙ f)

  still : IsProgramOf files marks st (record old { files = new.files; users = new.users })
  still =
      record {
        packages_are = is.packages_are;
        few = is.few;
        paths = is.paths;
        places_are = is.places_are;
        order_is = is.order_is;
        marks_are = is.marks_are;
        constants = is.constants;
        values = is.values;
        count = ap length x.search.put ∙ length-set old.files.items k now ∙ is.count;
        kept = kept_now;
        origins = λ j i h f e g.
            let o = is.origins j i h f e g in record { home = o.home; there = o.there; kept = o.kept };
        bytes_are = is.bytes_are;
      }

  after : IsProgramOf files marks st new
  after = subst (λ (q : Program). IsProgramOf files marks st q) (sym x.rest) still

pub stay_kept : SearchedProgramsStay
stay_kept files marks st old new k r is x = after files marks st old new k r is x

-- The file with its numbers.
use Rattle.std.proofs.Common.{◌≡◌, ◌∙◌, ◌<◌, refl, sym, ap, subst, ℕ, zero, suc, List, [], ◌∷◌, map, length, get_or, Option, Some, None}
use Rattle.std.specs.Prelude.{slice_get}
use Rattle.std.specs.Option.{option_map}
use Rattle.std.proofs.lemmas.Option.{same_Some, get_or_from_slice_get, slice_get_within}
use Rattle.go_tree.specs.GoTypes.Answers.{given}
use Rattle.pkg_graph.specs.Views.{source_of}
use Rattle.pkg_graph.specs.declared.packages.Package.{Package}
use Rattle.pkg_graph.specs.declared.packages.SourceTree.{SourceTree}
use Rattle.run_rules.specs.Respanned.{source_with}
use Rattle.run_rules.specs.Run.{as_read}
use Rattle.step_files.specs.declared.limits.Passed.{Passed}
use Rattle.refusals.specs.declared.refusal.Refusal.{Refusal}
use Rattle.report_order.specs.LimitRefusals.Refused.{limit_told}
use Rattle.source_files.specs.declared.files.SourceFile.{SourceFile}
use Rattle.run_plans.specs.PlannedFiles.Limits.{path_in, file_with_path, TellsLimit}

pub record HasNumbers (ps : List Package) (k i : ℕ) (path : List ℕ) : Type 0 where
  pub of : Package
  pub package_is : slice_get ps k ≡ Some of
  pub source : SourceTree
  pub source_is : slice_get of.files i ≡ Some source
  pub path_is : source.path ≡ path

in_package : (fs : List SourceTree) (i : ℕ) (path : List ℕ) → given (slice_get (map (source_with as_read) (map source_of fs)) i) (λ s. Some s.path) ≡ Some path
    → (s : SourceTree) × (slice_get fs i ≡ Some s) × (s.path ≡ path)
in_package [] i path e = absurd cc
in_package (f ∷ fs) zero path e = (f, refl, same_Some f.path path e)
in_package (f ∷ fs) (suc i) path e = in_package fs i path e

pub has_numbers : (ps : List Package) (k i : ℕ) (path : List ℕ) → path_in ps k i ≡ Some path → HasNumbers ps k i path
has_numbers [] k i path e = absurd cc
has_numbers (p ∷ ps) zero i path e = let s = in_package p.files i path e in record { of = p; package_is = refl; source = s.0; source_is = s.1; path_is = s.2 }
has_numbers (p ∷ ps) (suc k) i path e = let h = has_numbers ps k i path e in record { of = h.of; package_is = h.package_is; source = h.source; source_is = h.source_is; path_is = h.path_is }

-- ---- the file at its place

module _ (ps : List Package) (k i : ℕ) (path : List ℕ) (h : path_in ps k i ≡ Some path) (p : Package) (fs : List SourceTree) (e : fs ≡ (get_or ps k p).files) where
  its : HasNumbers ps k i path
  its = has_numbers ps k i path h

  files_are : fs ≡ its.of.files
  files_are = e ∙ ap (λ (q : Package). q.files) (get_or_from_slice_get ps k its.of p its.package_is)

  pub is_within : i < length fs
  is_within = subst (λ (gs : List SourceTree). i < length gs) (sym files_are) (slice_get_within its.of.files i its.source its.source_is)

  pub its_path : (s : SourceTree) (q : List ℕ) → q ≡ (get_or fs i s).path → q ≡ path
  its_path s q f =
      f ∙ ap (λ (t : SourceTree). t.path) (get_or_from_slice_get fs i its.source s (ap (λ (gs : List SourceTree). slice_get gs i) files_are ∙ its.source_is)) ∙ its.path_is

-- ---- the file that was read

no_some : (n : ℕ) → None ≡ Some n → ⊥
no_some n e = cc

pub never_none : (files : List SourceFile) (q path : List ℕ) (read : SourceFile) → q ≡ path → file_with_path files path ≡ Some read → None ≡ option_map (λ (f : SourceFile). f.index) (file_with_path files q) → ⊥
never_none files q path read same there e =
    no_some read.index
    (e ∙ ap (λ (p : List ℕ). option_map (λ (f : SourceFile). f.index) (file_with_path files p)) same ∙ ap (option_map (λ (f : SourceFile). f.index)) there)

pub tells : (files : List SourceFile) (q path : List ℕ) (index : ℕ) (limit : Passed) (r : Refusal) → q ≡ path → Some index ≡ option_map (λ (f : SourceFile). f.index) (file_with_path files q) → r ≡ limit_told index limit
    → TellsLimit files path limit r
tells files q path index limit r same e told =
    by (file_with_path files path) refl (e ∙ ap (λ (p : List ℕ). option_map (λ (f : SourceFile). f.index) (file_with_path files p)) same)
  where
    by : (o : Option SourceFile) → file_with_path files path ≡ o → Some index ≡ option_map (λ (f : SourceFile). f.index) o → TellsLimit files path limit r
    by None there g = absurd cc
    by (Some f) there g = record { read = f; there = there; told = told ∙ ap (λ (n : ℕ). limit_told n limit) (same_Some index f.index g) }

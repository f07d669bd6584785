-- A refusal names one of the files that are read.
use Rattle.std.proofs.Common.{◌≡◌, ◌<◌, ◌≤◌, sym, ap, subst, ℕ, Bool, true, false, cond, bytes_eq, List, [], ◌∷◌, length, find, Option, Some, All}
use Rattle.std.proofs.lemmas.List.Elements.{All-head, All-tail}
use Rattle.std.proofs.lemmas.Option.{same_Some}
use Rattle.go_tree.specs.declared.limits.TheConstants.{MAX_FILE_BYTES}
use Rattle.module_refusals.specs.Refused.{IsBelow}
use Rattle.module_refusals.proofs.ReasonLemmas.{refusal_below}
use Rattle.run_plans.specs.PlannedFiles.Limits.{file_with_path}
use Rattle.refusals.specs.declared.refusal.Refusal.{Refusal}
use Rattle.source_files.specs.declared.files.SourceFile.{SourceFile}
use Rattle.run_plans.specs.PlannedModules.Laws.{RefusalsNameFiles}
use Rattle.run_plans.specs.PlannedModules.Unplanned.{no_module, not_built, ill_typed, too_large, passes_limit}

-- what is found of a list has what all of it have
found_holds : {A : Type 0} (P : A → Type 0) (test : A → Bool) (xs : List A) (x : A) → All P xs → find test xs ≡ Some x → P x
found_holds P test [] x all e = absurd cc
found_holds P test (y ∷ ys) x all e = by (test y) e (found_holds P test ys x (All-tail P y ys all))
  where
    by : (b : Bool) → cond b (Some y) (find test ys) ≡ Some x → (find test ys ≡ Some x → P x) → P x
    by true f more = subst P (same_Some y x f) (All-head P y ys all)
    by false f more = more f

-- a file that is found by its path is as short as all are
pub found_small : (files : List SourceFile) (path : List ℕ) (f : SourceFile) → All (λ g. length g.bytes ≤ MAX_FILE_BYTES) files → file_with_path files path ≡ Some f → length f.bytes ≤ MAX_FILE_BYTES
found_small files path f all e = found_holds (λ (g : SourceFile). length g.bytes ≤ MAX_FILE_BYTES) (λ g. bytes_eq path g.path) files f all e

found_below : (files : List SourceFile) (n : ℕ) (path : List ℕ) (f : SourceFile) → All (λ g. g.index < n) files → file_with_path files path ≡ Some f → f.index < n
found_below files n path f all e = found_holds (λ (g : SourceFile). g.index < n) (λ g. bytes_eq path g.path) files f all e

pub refusals_name : RefusalsNameFiles
refusals_name folder files only _ n (no_module r is) all = refusal_below files n all r is
refusals_name folder files only _ n (not_built ps texts a e) all = tt
refusals_name folder files only _ n (ill_typed ps texts a e place f r h) all =
    subst (λ (o : Option ℕ). IsBelow n o) (sym (ap (λ (x : Refusal). x.file) h.told)) (found_below files n h.path h.read all h.there)
refusals_name folder files only _ n (too_large ps texts a e f l) all = tt
refusals_name folder files only _ n (passes_limit r h) all =
    subst (λ (o : Option ℕ). IsBelow n o) (sym (ap (λ (x : Refusal). x.file) h.tells.told)) (found_below files n h.passes.last.file h.tells.read all h.tells.there)

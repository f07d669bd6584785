-- Each step of a run over constants keeps the kernel program beside all further packages; so the run means the same.
use Rattle.std.specs.Prelude.{◌≡◌, refl, ℕ, ◌+◌, ◌*◌, Bool, false, List, ◌++◌, length}
use mathlib.Core.Path.{ap, ◌∙◌}
use Rattle.go_kernel.specs.Kernel.{ImportPath, FuncName, Covers, free_shows}
use Rattle.go_kernel.proofs.SameShows.{both_ways}
use Rattle.go_translation.specs.Packages.{Package, sources, codes_of, program_of, initial_of, main_of, shown_by}
use Rattle.go_translation.specs.SameMeaning.{Packages, WellTyped, with_further, SameMeaning}
use Rattle.constant_steps.specs.StepLaws.ConstantRuns.{StepOverConstant, after_step, ConstantRun, no_step, and_step}
use Rattle.constant_steps.specs.StepLaws.ConstantSteps.{ConstantStep}
use Rattle.constant_steps.proofs.StepLaws.StepMeaning.{typed-after, distinct-before}
use Rattle.constant_steps.proofs.StepLaws.StepSwaps.{swaps-when-typed}
use Rattle.constant_steps.proofs.StepLaws.StepUses.{step-with-uses}
use Rattle.constant_steps.proofs.StepLaws.SwapProgram.{constant-codes}

-- further packages that are well typed with the one are so with the other, and the kernel programs are equal
pub record KeepsCode {S : Type 0} (P P' : Packages S) : Type 0 where
  pub typed : (Q : List (Package S)) → WellTyped (with_further P Q) → WellTyped (with_further P' Q)
  pub codes : (Q : List (Package S)) → WellTyped (with_further P Q) → codes_of (P.members ++ Q) ≡ codes_of (P'.members ++ Q)

none-free : FuncName → Bool
none-free f = false

module _ {S : Type 0} where
  shows-alike : (A : ℕ) (ps ps' : List (Package S)) → codes_of ps ≡ codes_of ps' → (main : ImportPath) (choices : List ℕ) (n : ℕ)
      → Covers (shown_by ps main choices n) (shown_by ps' main choices ((A + 1) * (n + 1))) × Covers (shown_by ps' main choices n) (shown_by ps main choices ((A + 1) * (n + 1)))
  shows-alike A ps ps' e main choices n =
      both_ways none-free A (main_of main) choices n (program_of (codes_of ps)) (program_of (codes_of ps')) (initial_of (codes_of ps)) (initial_of (codes_of ps'))
      (ap (λ cs. free_shows (program_of cs) none-free A (initial_of cs) (main_of main) choices n) e)

  same-code-means-the-same : (P P' : Packages S) → KeepsCode P P' → SameMeaning P P'
  same-code-means-the-same P P' k =
      record {
        typed = k.typed;
        covered = λ Q w main m choices n. (shows-alike (length P.marked) (P.members ++ Q) (P'.members ++ Q) (k.codes Q w) main choices n).0;
        covers = λ Q w main m choices n. (shows-alike (length P.marked) (P.members ++ Q) (P'.members ++ Q) (k.codes Q w) main choices n).1;
      }

  module _ (same : S → S → Bool) where
    step-keeps : (P : Packages S) (s : StepOverConstant same P) → KeepsCode P (after_step same P s)
    step-keeps P s =
        let stands : ((Q : List (Package S)) → WellTyped (with_further P Q) → ConstantStep same s.packages s.at s.new s.number s.of s.tree (sources Q) s.nth_package s.nth_file s.nth_decl (sources P.members)) =
        (λ Q w. step-with-uses same s.packages s.at s.new s.number s.of s.tree (sources Q) s.nth_package s.nth_file s.nth_decl (sources P.members) (s.uses Q w).uses) in
        record {
          typed = λ Q w. typed-after same s.packages s.at s.new s.number s.of s.tree s.nth_package s.nth_file s.nth_decl P.members Q (stands Q w) (s.imports Q w) w;
          codes = λ Q w.
              constant-codes same s.packages s.at s.new s.number s.of s.tree s.nth_package s.nth_file s.nth_decl P.members Q (stands Q w) (distinct-before P.members Q w)
              (swaps-when-typed same s.packages s.at s.new s.number s.of s.tree s.nth_package s.nth_file s.nth_decl P.members Q w (s.uses Q w));
        }

    run-keeps : (P P' : Packages S) → ConstantRun same P P' → KeepsCode P P'
    run-keeps P _ no_step = record { typed = λ Q w. w; codes = λ Q w. refl }
    run-keeps P P' (and_step s r) =
        let one : KeepsCode P (after_step same P s) = step-keeps P s in
        let rest : KeepsCode (after_step same P s) P' = run-keeps (after_step same P s) P' r in
        record { typed = λ Q w. rest.typed Q (one.typed Q w); codes = λ Q w. one.codes Q w ∙ rest.codes Q (one.typed Q w) }

    -- the packages after a run mean what those before do
    pub run-means-the-same : (P P' : Packages S) → ConstantRun same P P' → SameMeaning P P'
    run-means-the-same P P' r = same-code-means-the-same P P' (run-keeps P P' r)

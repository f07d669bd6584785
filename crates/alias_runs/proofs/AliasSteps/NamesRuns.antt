-- Each step of a run over constants and aliases keeps the kernel program beside all further packages; so the run means
-- the same.
use Rattle.std.specs.Prelude.{refl, Bool, List, length}
use mathlib.Core.Path.{ap, ◌∙◌}
use Rattle.go_translation.specs.Packages.{Package, sources, freely_shown_by_code}
use Rattle.go_translation.specs.SameMeaning.{Packages, WellTyped, with_further, SameMeaning}
use Rattle.go_translation.proofs.PackageBudgets.{freely_alike}
use Rattle.constant_steps.specs.StepLaws.ConstantRuns.{StepOverConstant, after_step}
use Rattle.constant_steps.specs.StepLaws.ConstantSteps.{ConstantStep}
use Rattle.constant_steps.proofs.StepLaws.ConstantRuns.{KeepsCode}
use Rattle.constant_steps.proofs.StepLaws.StepMeaning.{distinct-before}
use Rattle.constant_steps.proofs.StepLaws.StepMeaning as constants
use Rattle.constant_steps.proofs.StepLaws.StepSwaps.{swaps-when-typed}
use Rattle.constant_steps.proofs.StepLaws.StepUses.{step-with-uses}
use Rattle.constant_steps.proofs.StepLaws.SwapProgram.{constant-codes}
use Rattle.alias_runs.specs.AliasSteps.RetypedPrograms.{RetypedPackages}
use Rattle.alias_runs.specs.AliasSteps.Runs.{NamesRun, no_step, over_constant, over_alias}
use Rattle.alias_runs.proofs.AliasSteps.RetypedMeaning.{none_free, codes-same, typed-after}

module _ {S : Type 0} where
  pub retyped-keeps : (P P' : Packages S) → RetypedPackages P P' → KeepsCode P P'
  retyped-keeps P P' s = record {
    typed = λ Q w. typed-after P.members P'.members Q s.paths (s.program Q w) (s.imports Q w) w;
    codes = λ Q w. codes-same P.members P'.members Q s.paths (s.program Q w) (distinct-before P.members Q w);
  }

  module _ (same : S → S → Bool) where
    constant-keeps : (P : Packages S) (s : StepOverConstant same P) → KeepsCode P (after_step same P s)
    constant-keeps P s =
        let stands : ((Q : List (Package S)) → WellTyped (with_further P Q) → ConstantStep same s.packages s.at s.new s.number s.of s.tree (sources Q) s.nth_package s.nth_file s.nth_decl (sources P.members)) =
        (λ Q w. step-with-uses same s.packages s.at s.new s.number s.of s.tree (sources Q) s.nth_package s.nth_file s.nth_decl (sources P.members) (s.uses Q w).uses) in
        record {
          typed = λ Q w. constants.typed-after same s.packages s.at s.new s.number s.of s.tree s.nth_package s.nth_file s.nth_decl P.members Q (stands Q w) (s.imports Q w) w;
          codes = λ Q w.
              constant-codes same s.packages s.at s.new s.number s.of s.tree s.nth_package s.nth_file s.nth_decl P.members Q (stands Q w) (distinct-before P.members Q w)
              (swaps-when-typed same s.packages s.at s.new s.number s.of s.tree s.nth_package s.nth_file s.nth_decl P.members Q w (s.uses Q w));
        }

    one-more : (P P' P'' : Packages S) → KeepsCode P P' → KeepsCode P' P'' → KeepsCode P P''
    one-more P P' P'' one rest = record { typed = λ Q w. rest.typed Q (one.typed Q w); codes = λ Q w. one.codes Q w ∙ rest.codes Q (one.typed Q w) }

    names-keep : {P P' : Packages S} → NamesRun same P P' → KeepsCode P P'
    names-keep no_step = record { typed = λ Q w. w; codes = λ Q w. refl }
    names-keep (over_constant {P = P} {P' = P'} s r) = one-more P (after_step same P s) P' (constant-keeps P s) (names-keep r)
    names-keep (over_alias {P = P} {P' = P'} {P'' = P''} s r) = one-more P P' P'' (retyped-keeps P P' s) (names-keep r)

    -- the packages after a run mean what those before do
    pub names-run-means-the-same : (P P' : Packages S) → NamesRun same P P' → SameMeaning P P'
    names-run-means-the-same P P' r =
        let k : KeepsCode P P' = names-keep r in
        freely_alike P P' none_free k.typed (λ Q w main m choices n. ap (λ cs. freely_shown_by_code cs none_free (length P.marked) main choices n) (k.codes Q w))

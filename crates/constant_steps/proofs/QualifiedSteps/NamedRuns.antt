-- The packages after a run of steps over constants that are declared as names mean what those before do.
use Rattle.std.specs.Prelude.{Bool}
use Rattle.go_translation.specs.Packages.{sources}
use Rattle.go_translation.specs.SameMeaning.{Packages, SameMeaning}
use Rattle.run_rules.specs.Sites.{part_span}
use Rattle.constant_steps.specs.StepLaws.ConstantRuns as run
use Rattle.constant_steps.specs.StepLaws.ConstantRuns.{StepOverConstant, ConstantRun}
use Rattle.constant_steps.proofs.StepLaws.ConstantRuns.{run-means-the-same}
use Rattle.constant_steps.specs.QualifiedSteps.NamedRuns.{NamedStep, after_named, NamedRun, no_step, and_step}
use Rattle.constant_steps.proofs.QualifiedSteps.NamedImports.{well, named_imports}
use Rattle.constant_steps.proofs.QualifiedSteps.NamedSwaps.{named_swaps}

module _ {S : Type 0} (same : S → S → Bool) where
  -- such a step is one over a constant
  abbrev step_of : (P : Packages S) → NamedStep same P → StepOverConstant same P
  step_of P t =
      record {
        packages = t.packages;
        at = part_span t.site.part;
        new = t.use_.new;
        number = t.site.at.number;
        of = t.site.at.of;
        tree = t.site.at.source.tree;
        nth_package = t.there.use_.nth;
        nth_file = t.site.at.file_number;
        nth_decl = t.site.decl;
        uses = λ Q w. named_swaps same t.commented t.packages t.marks t.site t.use_ t.stands (sources P.members) (sources Q) t.there (well same t.commented t.packages t.marks t.site t.use_ t.stands P.members Q t.there w);
        imports = λ Q w. named_imports same t.commented t.packages t.marks t.site t.use_ t.stands P.members Q t.there w (t.imports Q w);
      }

  constant_run : (P P' : Packages S) → NamedRun same P P' → ConstantRun same P P'
  constant_run P _ no_step = run.no_step
  constant_run P P' (and_step t r) = run.and_step (step_of P t) (constant_run (after_named same P t) P' r)

  pub named_run : (P P' : Packages S) → NamedRun same P P' → SameMeaning P P'
  named_run P P' r = run-means-the-same same P P' (constant_run P P' r)

-- The packages after a run of steps over uses in declarations with literals mean what those before do.
use Rattle.std.specs.Prelude.{Bool}
use Rattle.go_tree.specs.Tree.{ident}
use Rattle.go_translation.specs.Packages.{sources}
use Rattle.go_translation.specs.SameMeaning.{Packages, SameMeaning}
use Rattle.run_rules.specs.Sites.{part_span}
use Rattle.constant_steps.specs.StepLaws.ConstantRuns as run
use Rattle.constant_steps.specs.StepLaws.ConstantRuns.{StepOverConstant, ConstantRun}
use Rattle.constant_steps.proofs.StepLaws.ConstantRuns.{run-means-the-same}
use Rattle.constants_anywhere.specs.Runs.{StepAnywhere, after_step, RunAnywhere, no_step, and_step}
use Rattle.constants_anywhere.proofs.ImportsStand.{well}
use Rattle.constants_anywhere.proofs.UsesAnywhere.{parts_there_stand, imports_anywhere}
use Rattle.constants_anywhere.proofs.UsesStand.{swaps_there}

module _ {S : Type 0} (same : S → S → Bool) where
  -- such a step is one over a constant
  abbrev pub step_of : (P : Packages S) → StepAnywhere same P → StepOverConstant same P
  step_of P t =
      record {
        packages = t.packages;
        at = part_span t.site.part;
        new = ident (part_span t.site.part) t.use_.new;
        number = t.site.at.number;
        of = t.site.at.of;
        tree = t.site.at.source.tree;
        nth_package = t.nth;
        nth_file = t.site.at.file_number;
        nth_decl = t.site.decl;
        uses = λ Q w. let h = parts_there_stand same t.commented t.packages t.marks t.site t.use_ t.stands t.named_at t.nth t.exported P.members Q t.linked_there t.there w in
            swaps_there same t.commented t.packages t.marks t.site t.use_ t.stands t.named_at t.nth (sources P.members) (sources Q) t.there (well same t.commented t.packages t.marks t.site t.use_ t.stands t.named_at t.nth P.members Q t.there w h) h;
        imports = λ Q w. imports_anywhere same t.commented t.packages t.marks t.site t.use_ t.stands t.named_at t.nth t.exported P.members Q t.linked_there t.there w;
      }

  constant_run : (P P' : Packages S) → RunAnywhere same P P' → ConstantRun same P P'
  constant_run P _ no_step = run.no_step
  constant_run P P' (and_step t r) = run.and_step (step_of P t) (constant_run (after_step same P t) P' r)

  pub run_anywhere : (P P' : Packages S) → RunAnywhere same P P' → SameMeaning P P'
  run_anywhere P P' r = run-means-the-same same P P' (constant_run P P' r)

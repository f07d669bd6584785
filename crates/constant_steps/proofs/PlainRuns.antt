-- The packages after a run of steps over plain uses mean what those before do.
use Rattle.std.specs.Prelude.{Bool}
use Rattle.go_tree.specs.Tree.{ident}
use Rattle.go_translation.specs.Packages.{sources}
use Rattle.go_translation.specs.SameMeaning.{Packages, SameMeaning}
use Rattle.run_rules.specs.Sites.{part_span}
use Rattle.constant_steps.specs.StepLaws.ConstantRuns as run
use Rattle.constant_steps.specs.StepLaws.ConstantRuns.{StepOverConstant, ConstantRun}
use Rattle.constant_steps.proofs.StepLaws.ConstantRuns.{run-means-the-same}
use Rattle.constant_steps.specs.PlainRuns.{PlainStep, after_plain, PlainRun, no_step, and_step}
use Rattle.constant_steps.proofs.PlainImports.{well, plain_imports}
use Rattle.constant_steps.proofs.PlainSteps.{plain_swaps}

module _ {S : Type 0} (same : S → S → Bool) where
  -- a step over a plain use is one over a constant
  abbrev pub step_of : (P : Packages S) → PlainStep same P → StepOverConstant same P
  step_of P t =
      record {
        packages = t.packages;
        at = part_span t.site.part;
        new = ident (part_span t.site.part) t.use_.new;
        number = t.site.at.number;
        of = t.site.at.of;
        tree = t.site.at.source.tree;
        nth_package = t.nth;
        nth_file = t.site.at.file_number;
        nth_decl = t.site.decl;
        uses = λ Q w. plain_swaps same t.commented t.packages t.marks t.site t.use_ t.stands t.named_at t.nth (sources P.members) (sources Q) t.there (well same t.commented t.packages t.marks t.site t.use_ t.stands t.named_at t.nth P.members Q t.there w);
        imports = λ Q w. plain_imports same t.commented t.packages t.marks t.site t.use_ t.stands t.named_at t.nth P.members Q t.there w;
      }

  constant_run : (P P' : Packages S) → PlainRun same P P' → ConstantRun same P P'
  constant_run P _ no_step = run.no_step
  constant_run P P' (and_step t r) = run.and_step (step_of P t) (constant_run (after_plain same P t) P' r)

  pub plain_run : (P P' : Packages S) → PlainRun same P P' → SameMeaning P P'
  plain_run P P' r = run-means-the-same same P P' (constant_run P P' r)

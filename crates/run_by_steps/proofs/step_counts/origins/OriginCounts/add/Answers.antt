use Rattle.std.proofs.Common.{◌≡◌, ◌+◌, ℕ, ap, subst}
use Rattle.run_by_steps.specs.StepCounts.Origins.{IsCounted}
use Rattle.run_by_steps.proofs.StepCounts.Steps.{one_added}
use Rattle.run_by_steps.proofs.step_counts.origins.OriginCounts.add.Goals as goal

pub returns : goal.returns
returns c =
    one_added c.args.origin c.args.self.now c.put.new.self
    (subst (λ (n : ℕ). IsCounted c.args.origin (n + 1) c.args.self.now c.put.new.self) c.of-count.ensures c.in_ok-put.ensures)

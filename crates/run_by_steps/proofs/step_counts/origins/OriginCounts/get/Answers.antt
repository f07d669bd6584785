use Rattle.std.proofs.Common.{◌∙◌}
use Rattle.run_by_steps.proofs.step_counts.origins.OriginCounts.get.Goals as goal

pub returns : goal.returns
returns c = rw (← c.self.view_is) (c.copied.ensures ∙ c.get.ensures.value)

use Rattle.run_by_steps.proofs.step_counts.origins.OriginCounts.put.Goals as goal

pub returns : goal.returns
returns c = rw (← c.self.view_is) (λ q. c.in_ok-insert.ensures.updates.0 q)

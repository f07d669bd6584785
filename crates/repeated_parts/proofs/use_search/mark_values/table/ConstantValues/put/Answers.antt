use Rattle.repeated_parts.proofs.use_search.mark_values.table.ConstantValues.put.Goals as goal

pub returns : goal.returns
returns c = rw (← c.self.view_is) (λ q. c.in_ok-insert.ensures.updates.0 q)

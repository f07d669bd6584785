use Rattle.repeated_parts.proofs.use_search.mark_values.table.ConstantValues.values.Goals as goal

pub returns : goal.returns
returns c = rw (← c.self.view_is) c.get.ensures.value

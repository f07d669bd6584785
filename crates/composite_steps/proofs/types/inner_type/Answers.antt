use Rattle.operand_modes.proofs.CheckerTables.PartLemmas.{parts_follow}
use Rattle.composite_steps.proofs.types.inner_type.Goals as goal

pub inner_type-requires-clause-types : goal.inner_type-requires-clause-types
inner_type-requires-clause-types c =
    parts_follow c.args.tables.now.env c.len-types.ensures.good c.requires.ready.values

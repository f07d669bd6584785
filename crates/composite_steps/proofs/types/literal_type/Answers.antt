use Rattle.operand_modes.proofs.CheckerTables.PartLemmas.{parts_follow}
use Rattle.composite_steps.proofs.types.literal_type.Goals as goal

pub literal_type-requires-clause-types : goal.literal_type-requires-clause-types
literal_type-requires-clause-types c =
    parts_follow c.args.tables.now.env c.len-types.ensures.good c.requires.ready.values

use Rattle.operand_modes.proofs.CheckerTables.PartLemmas.{parts_follow}
use Rattle.composite_steps.proofs.types.key_type.Goals as goal

pub key_type-requires-clause-types : goal.key_type-requires-clause-types
key_type-requires-clause-types c =
    parts_follow c.args.tables.now.env c.len-types.ensures.good c.requires.ready.values

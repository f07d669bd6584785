use Rattle.operand_modes.proofs.CheckerTables.PartLemmas.{parts_follow}
use Rattle.composite_steps.proofs.builtin_steps.making.allocated.Goals as goal

pub allocates-requires-clause-types : goal.allocates-requires-clause-types
allocates-requires-clause-types c =
    parts_follow c.args.tables.now.env c.len-types.ensures.good c.requires.ready.values

pub returns-clause-gives : goal.returns-clause-gives
returns-clause-gives c = c.allocates.ensures.gives c.args.tables.now.consts

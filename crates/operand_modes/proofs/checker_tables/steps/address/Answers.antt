use Rattle.operand_modes.proofs.CheckerTables.PartLemmas.{parts_follow}
use Rattle.operand_modes.proofs.checker_tables.steps.address.Goals as goal

pub address_of-requires-clause-types : goal.address_of-requires-clause-types
address_of-requires-clause-types c =
    parts_follow c.args.tables.now.env c.len-types.ensures.good c.requires.ready.values

pub returns-clause-gives : goal.returns-clause-gives
returns-clause-gives c = λ k. c.address_of.ensures.gives c.args.tables.now.consts k

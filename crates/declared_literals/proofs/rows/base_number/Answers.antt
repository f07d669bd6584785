use Rattle.operand_modes.proofs.CheckerTables.PartLemmas.{parts_follow}
use Rattle.declared_literals.proofs.rows.base_number.Goals as goal

pub form-requires-clause-types : goal.form-requires-clause-types
form-requires-clause-types c =
    parts_follow c.args.tables.now.env c.len-types.ensures.good c.requires.ready.values

use Rattle.printed_constants.proofs.NamedUses.Uses.{names_stand, names_keep}
use Rattle.printed_constants.proofs.named_uses.laws.constants_names_stand.Goals as goal

pub returns-clause-stand : goal.returns-clause-stand
returns-clause-stand c = names_stand c.constants_name_members.ensures c.constants_settle.ensures.writes c.constants_settle.ensures.names c.constants_settle.ensures.spelled

pub returns-clause-stay : goal.returns-clause-stay
returns-clause-stay c = names_keep c.constants_name_members.ensures c.constants_settle.ensures.writes c.constants_settle.ensures.names c.constants_settle.ensures.spelled

use Rattle.constant_modules.proofs.NamedThere.Uses.{uses_there, uses_stand}
use Rattle.constant_modules.proofs.named_there.laws.constant_uses_are_there.Goals as goal

pub returns-clause-there : goal.returns-clause-there
returns-clause-there c = uses_there c.constants_name_members.ensures c.constants_settle.ensures.names c.constants_settle.ensures.spelled c.constants_settle.ensures.led

pub returns-clause-stand : goal.returns-clause-stand
returns-clause-stand c = uses_stand c.constants_name_members.ensures c.constants_settle.ensures.names c.constants_settle.ensures.spelled c.constants_settle.ensures.led

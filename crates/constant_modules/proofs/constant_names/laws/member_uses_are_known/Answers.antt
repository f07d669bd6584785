use Rattle.constant_modules.proofs.ConstantNames.MemberUses.{declared_constants, uses_known}
use Rattle.constant_modules.proofs.constant_names.laws.member_uses_are_known.Goals as goal

pub returns-clause-declared : goal.returns-clause-declared
returns-clause-declared c = declared_constants

pub returns-clause-uses : goal.returns-clause-uses
returns-clause-uses c = uses_known

use Rattle.printed_constants.proofs.DeclaredMembers.Named.{name_members}
use Rattle.printed_constants.proofs.declared_members.laws.constants_name_members.Goals as goal

pub returns : goal.returns
returns c = name_members

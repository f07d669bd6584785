use Rattle.taken_aliases.proofs.TypedBlocks.Blocks.{no-init, name-is}
use Rattle.taken_aliases.proofs.typed_blocks.laws.members_are_not_init.Goals as goal

pub returns-clause-block : goal.returns-clause-block
returns-clause-block c = λ rs w ps stands typed n t q. no-init rs ps w stands typed n t q

pub returns-clause-names : goal.returns-clause-names
returns-clause-names c = λ rs w home p e m ps there names is stands typed. name-is rs ps w home p e m there names is stands typed

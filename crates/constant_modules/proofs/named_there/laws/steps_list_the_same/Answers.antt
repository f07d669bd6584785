use Rattle.constant_modules.proofs.NamedThere.Uses.{lists_same}
use Rattle.constant_modules.proofs.named_there.laws.steps_list_the_same.Goals as goal

pub returns : goal.returns
returns c = lists_same

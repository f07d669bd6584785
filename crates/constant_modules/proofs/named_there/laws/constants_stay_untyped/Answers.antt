use Rattle.constant_modules.proofs.NamedThere.Kept.{stay_untyped}
use Rattle.constant_modules.proofs.named_there.laws.constants_stay_untyped.Goals as goal

pub returns : goal.returns
returns c = stay_untyped

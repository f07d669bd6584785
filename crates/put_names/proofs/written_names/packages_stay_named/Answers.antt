use Rattle.put_names.proofs.WrittenNames.Kept.{step_keeps}
use Rattle.put_names.proofs.WrittenNames.ReadNames.{modules_named}
use Rattle.put_names.proofs.written_names.packages_stay_named.Goals as goal

pub returns-clause-read : goal.returns-clause-read
returns-clause-read c = λ files ps texts m. modules_named files ps texts m

pub returns-clause-stay : goal.returns-clause-stay
returns-clause-stay c = λ marks st l after n named octets. step_keeps marks st l after n named octets

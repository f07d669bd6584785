use Rattle.typed_in_place.proofs.SameWorlds.OrdersSame.{collected-same}
use Rattle.typed_in_place.proofs.same_worlds.laws.orders_declare_the_same.Goals as goal

pub returns : goal.returns
returns c = λ ps qs r. collected-same ps qs r

use Rattle.meaning_in_place.proofs.Functions.{function_in}
use Rattle.meaning_in_place.proofs.laws.functions_stand.Goals as goal

pub returns : goal.returns
returns z = λ P free A rank k around paths w h f g b a q. function_in paths w h f g a q

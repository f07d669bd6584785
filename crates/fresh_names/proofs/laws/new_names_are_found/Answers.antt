use Rattle.fresh_names.proofs.Found.{found-first, few-leave, exhausted}
use Rattle.fresh_names.proofs.laws.new_names_are_found.Goals as goal

pub returns-clause-found : goal.returns-clause-found
returns-clause-found c = λ file avoid base k. found-first file avoid base k

pub returns-clause-left : goal.returns-clause-left
returns-clause-left c = λ file avoid base names all few. few-leave file avoid base names all few

pub returns-clause-out : goal.returns-clause-out
returns-clause-out c = λ file base. exhausted file base

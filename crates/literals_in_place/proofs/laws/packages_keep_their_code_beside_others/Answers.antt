use Rattle.literals_in_place.proofs.FurtherCodes.{codes_beside, function_beside, path_number}
use Rattle.literals_in_place.proofs.laws.packages_keep_their_code_beside_others.Goals as goal

pub returns-clause-packages : goal.returns-clause-packages
returns-clause-packages z = λ ms Q t. codes_beside ms Q t

pub returns-clause-functions : goal.returns-clause-functions
returns-clause-functions z = λ ms Q t f e. let k = path_number ms f.home e in function_beside ms Q t f k.0 k.1

use Rattle.constants_anywhere.proofs.ImportsStand.{imports_there}
use Rattle.constants_anywhere.proofs.LinkedThere.{linked_there}
use Rattle.constants_anywhere.proofs.StepsAnywhere.{step_anywhere}
use Rattle.constants_anywhere.proofs.UsesStand.{swaps_there}
use Rattle.constants_anywhere.proofs.laws.known_parts_mean_the_same.Goals as goal

pub returns-clause-uses : goal.returns-clause-uses
returns-clause-uses c = λ same commented rs marks x u v s k ps more stands well t. swaps_there same commented rs marks x u v s k ps more stands well t

pub returns-clause-imports : goal.returns-clause-imports
returns-clause-imports c = λ same commented rs marks x u v s k ms Q stands typed t. imports_there same commented rs marks x u v s k ms Q stands typed t

pub returns-clause-linked : goal.returns-clause-linked
returns-clause-linked c = λ same commented rs marks x u v s k ms h d at none. linked_there same commented rs marks x u v s k ms h d at none

pub returns-clause-meaning : goal.returns-clause-meaning
returns-clause-meaning c = λ same commented rs marks x u v s k P stands t. step_anywhere same commented rs marks x u v s k P stands t

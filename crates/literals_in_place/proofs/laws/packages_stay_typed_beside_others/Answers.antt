use Rattle.meaning_in_place.proofs.Runs.{step_same}
use Rattle.meaning_in_place.specs.InPackages.{BodyStands}
use Rattle.literals_in_place.proofs.FurtherSteps.{well_typed_beside}
use Rattle.literals_in_place.proofs.FurtherTyped.{typed_beside}
use Rattle.literals_in_place.proofs.laws.packages_stay_typed_beside_others.Goals as goal

pub returns-clause-packages : goal.returns-clause-packages
returns-clause-packages z = λ P free A rank paths w ps qs Q e r packages bodies right o p t. typed_beside (BodyStands P free A rank) paths w ps qs Q e r packages bodies right o p t

pub returns-clause-steps : goal.returns-clause-steps
returns-clause-steps z = λ P free A rank paths w ps qs e r packages bodies right known Q t. well_typed_beside (BodyStands P free A rank) paths w ps qs e r packages bodies right known Q t

pub returns-clause-shows : goal.returns-clause-shows
returns-clause-shows z = λ P free A rank paths w ps qs e r packages bodies right known stands. step_same free A ps qs (λ Q t. well_typed_beside (BodyStands P free A rank) paths w ps qs e r packages bodies right known Q t) stands

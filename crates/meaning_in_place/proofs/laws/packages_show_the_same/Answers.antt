use Rattle.meaning_in_place.specs.InPackages.{BodyStands}
use Rattle.meaning_in_place.proofs.Declared.{declared_same, typed_still}
use Rattle.meaning_in_place.proofs.Packages.{each_below, all_bounded, all_below, packages_same}
use Rattle.meaning_in_place.proofs.Runs.{step_same}
use Rattle.meaning_in_place.proofs.laws.packages_show_the_same.Goals as goal

pub returns-clause-packages : goal.returns-clause-packages
returns-clause-packages z = λ free A rank bounded below ps qs each r main choices n. packages_same free A rank bounded below ps qs each r main choices n

pub returns-clause-ranks : goal.returns-clause-ranks
returns-clause-ranks z = λ P free A rank below r. (each_below P free A rank below r, all_bounded P free A rank below, all_below P free A rank below)

pub returns-clause-steps : goal.returns-clause-steps
returns-clause-steps z = λ free A ps qs t s. step_same free A ps qs t s

pub returns-clause-declared : goal.returns-clause-declared
returns-clause-declared z = λ P free A rank paths w ps qs e r. declared_same (BodyStands P free A rank) paths w ps qs e r

pub returns-clause-typed : goal.returns-clause-typed
returns-clause-typed z = λ P free A rank paths w ps qs e r packages bodies. typed_still (BodyStands P free A rank) paths w ps qs e r packages bodies

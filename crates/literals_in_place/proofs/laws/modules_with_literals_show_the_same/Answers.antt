use Rattle.literals_in_place.proofs.Modules.{modules_same, modules_covered}
use Rattle.literals_in_place.proofs.laws.modules_with_literals_show_the_same.Goals as goal

pub returns-clause-shows : goal.returns-clause-shows
returns-clause-shows z = λ ps marks ms t plain qs r main choices n. modules_same ps marks ms t plain qs r main choices n

pub returns-clause-covered : goal.returns-clause-covered
returns-clause-covered z = λ ps marks ms t plain qs r main choices n. modules_covered ps marks ms t plain qs r main choices n

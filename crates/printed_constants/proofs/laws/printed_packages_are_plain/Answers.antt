use Rattle.printed_constants.proofs.Plain.{packages_plain, all_unspread}
use Rattle.printed_constants.proofs.laws.printed_packages_are_plain.Goals as goal

pub returns-clause-plain : goal.returns-clause-plain
returns-clause-plain c = λ rs ps h w e. packages_plain rs ps h w e

pub returns-clause-unspread : goal.returns-clause-unspread
returns-clause-unspread c = λ ps h. all_unspread ps h

use Rattle.order_runs.proofs.ImportCodes.HeadersCode.{functions-moved, initial-moved}
use Rattle.order_runs.proofs.ImportCodes.PackagesCode.{codes-moved}
use Rattle.order_runs.proofs.ImportSteps.Links.{moved-code}
use Rattle.order_runs.proofs.import_codes.other_imports_keep_the_code.Goals as goal

pub returns-clause-headers : goal.returns-clause-headers
returns-clause-headers c = λ paths w is h r b. (functions-moved paths w is h r b, initial-moved paths w is h r)

pub returns-clause-packages : goal.returns-clause-packages
returns-clause-packages c = λ ps qs r e. codes-moved ps qs r e

pub returns-clause-stays : goal.returns-clause-stays
returns-clause-stays c = λ P P' r s. moved-code P P' r s

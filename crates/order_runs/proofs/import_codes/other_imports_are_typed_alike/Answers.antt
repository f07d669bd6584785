use Rattle.order_runs.proofs.ImportCodes.PackagesCode.{declared-moved, declarations-moved}
use Rattle.order_runs.proofs.ImportSteps.Links.{typed-moved}
use Rattle.order_runs.proofs.import_codes.other_imports_are_typed_alike.Goals as goal

pub returns-clause-declared : goal.returns-clause-declared
returns-clause-declared c = λ ps qs r. declared-moved ps qs r

pub returns-clause-typed : goal.returns-clause-typed
returns-clause-typed c = λ ps qs r. declarations-moved ps qs r

pub returns-clause-well_typed : goal.returns-clause-well_typed
returns-clause-well_typed c = λ more ps qs r s e. typed-moved more ps qs r s e

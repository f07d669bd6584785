use Rattle.constant_modules.proofs.ApartKeys.AsRead.{as_read_apart}
use Rattle.constant_modules.proofs.ApartKeys.Found.{found_apart, apart_found}
use Rattle.constant_modules.proofs.apart_keys.laws.keys_apart_are_found.Goals as goal

pub returns-clause-found : goal.returns-clause-found
returns-clause-found c = found_apart

pub returns-clause-only : goal.returns-clause-only
returns-clause-only c = apart_found

pub returns-clause-read : goal.returns-clause-read
returns-clause-read c = as_read_apart

use Rattle.imported_typing.proofs.ProgramsAlike.{collected_same, refused_same}
use Rattle.imported_typing.proofs.ChainsEnd.{well_typed_ends}
use Rattle.imported_typing.proofs.WellTypedAlone.{well_typed_alone}
use Rattle.imported_typing.proofs.laws.further_packages_change_nothing.Goals as goal

pub returns-clause-declared : goal.returns-clause-declared
returns-clause-declared c = λ ps more i o e. collected_same ps more i o e

pub returns-clause-refused : goal.returns-clause-refused
returns-clause-refused c = λ ps more i o e. refused_same ps more i o e

pub returns-clause-ended : goal.returns-clause-ended
returns-clause-ended c = λ ps e. well_typed_ends ps e

pub returns-clause-alone : goal.returns-clause-alone
returns-clause-alone c = λ ps more i o e. well_typed_alone ps more i o e

use Rattle.imported_typing.proofs.ProgramsAlike.{collected_same}
use Rattle.imported_typing.proofs.ChainsEnd.{well_typed_ends}
use Rattle.imported_typing.proofs.WellTypedAlone.{well_typed_alone}
use Rattle.imported_typing.proofs.InOrder.{first_import_themselves, later_are_others}
use Rattle.imported_typing.proofs.laws.first_packages_stand_alone.Goals as goal

pub returns-clause-themselves : goal.returns-clause-themselves
returns-clause-themselves c = λ ps more e. first_import_themselves ps more e

pub returns-clause-others : goal.returns-clause-others
returns-clause-others c = λ ps more e. later_are_others ps more e

pub returns-clause-declared : goal.returns-clause-declared
returns-clause-declared c = λ ps more e t.
    collected_same ps more (first_import_themselves ps more e) (later_are_others ps more e) (well_typed_ends ps t)

pub returns-clause-typed : goal.returns-clause-typed
returns-clause-typed c = λ ps more e t.
    well_typed_alone ps more (first_import_themselves ps more e) (later_are_others ps more e) t

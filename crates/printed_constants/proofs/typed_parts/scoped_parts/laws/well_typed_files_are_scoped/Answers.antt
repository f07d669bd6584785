use Rattle.printed_constants.proofs.TypedParts.ScopedParts.Scoped.{files_scoped}
use Rattle.printed_constants.proofs.typed_parts.scoped_parts.laws.well_typed_files_are_scoped.Goals as goal

pub returns : goal.returns
returns c = record { scoped = files_scoped }

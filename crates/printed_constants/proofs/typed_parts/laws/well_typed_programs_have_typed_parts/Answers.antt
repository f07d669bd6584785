use Rattle.printed_constants.proofs.TypedParts.Decls.{programs_typed}
use Rattle.printed_constants.proofs.typed_parts.laws.well_typed_programs_have_typed_parts.Goals as goal

pub returns : goal.returns
returns c = record { parts = programs_typed }

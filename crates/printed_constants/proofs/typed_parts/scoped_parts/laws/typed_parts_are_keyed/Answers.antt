use Rattle.printed_constants.proofs.TypedParts.ScopedParts.Keys.{all_keyed}
use Rattle.printed_constants.proofs.typed_parts.scoped_parts.laws.typed_parts_are_keyed.Goals as goal

pub returns : goal.returns
returns c = record { keyed = all_keyed }

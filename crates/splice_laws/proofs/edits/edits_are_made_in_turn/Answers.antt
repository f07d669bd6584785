use Rattle.splice_laws.proofs.Edited.{turned}
use Rattle.splice_laws.proofs.edits.edits_are_made_in_turn.Goals as goal

-- src/edits.rt
pub returns : goal.returns
returns c = record { together = turned }

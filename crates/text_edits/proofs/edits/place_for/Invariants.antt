use Rattle.std.proofs.Common.{ℕ, ◌<◌, get_or}
use Rattle.text_edits.specs.declared.edit.Edit.{Edit}
use Rattle.text_edits.specs.Spans.{Precedes}
use Rattle.text_edits.proofs.edits.place_for.Given as goal

abbrev pub invariant-loop-i : goal.invariant-loop-i
invariant-loop-i l = (k : ℕ) (d : Edit) → k < l.i → Precedes (get_or l.kept k d).span l.span

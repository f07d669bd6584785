use Rattle.printed_constants.proofs.TypedParts.MarkedRuns.NamedMarks.Declared.{read-marks-named}
use Rattle.printed_constants.proofs.typed_parts.marked_runs.named_marks.read_marks_are_named.Goals as goal

pub returns : goal.returns
returns c = λ files ps texts only r all. read-marks-named files ps texts r (c.read_modules_are_ordered.ensures.ordered files ps texts r) only all

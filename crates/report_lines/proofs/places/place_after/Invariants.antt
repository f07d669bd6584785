use Rattle.std.proofs.Common.{◌≡◌, ◌≤◌, ◌+◌, take}
use Rattle.text_places.specs.Lines.{lines_before, column_after}
use Rattle.report_lines.proofs.places.place_after.Given as goal

abbrev pub invariant-loop-at : goal.invariant-loop-at
invariant-loop-at l = record {
  line : l.line ≡ lines_before (take l.at l.text) + 1;
  col : l.col ≡ column_after (take l.at l.text) + 1;
  line_small : l.line ≤ l.at + 1;
  col_small : l.col ≤ l.at + 1;
}

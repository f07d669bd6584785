use Rattle.std.proofs.Common.{◌≡◌, ◌≤◌, ◌+◌, take}
use Rattle.text_places.specs.Lines.{lines_before, column_after}
use Rattle.text_places.proofs.lines.place.Given as goal

abbrev pub invariant-loop-byte : goal.invariant-loop-byte
invariant-loop-byte l = record {
  line : l.line ≡ lines_before (take l.byte-index l.byte-items) + 1;
  col : l.col ≡ column_after (take l.byte-index l.byte-items) + 1;
  line_small : l.line ≤ l.byte-index + 1;
  col_small : l.col ≤ l.byte-index + 1;
}

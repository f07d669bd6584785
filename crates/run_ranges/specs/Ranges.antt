-- Ranges of a file as read, with how many bytes stand there once it is edited.
use Rattle.std.specs.Prelude.{◌≡◌, List, length, map}
use Rattle.text_edits.specs.declared.edit.Edit.{Edit}
use Rattle.run_ranges.specs.declared.ranges.ChangedRange.{ChangedRange}

-- the range of an edit, and how many bytes it writes there
abbrev pub range_of : Edit → ChangedRange
range_of e = record { start = e.span.start; end = e.span.end; length = length e.text }

-- These are the ranges of the edits.
abbrev pub AreRanges : List Edit → List ChangedRange → Type 0
AreRanges es rs = map range_of es ≡ rs

-- Which bytes of a text stay.
use Rattle.std.specs.Prelude.{◌≡◌, List, ℕ, length}
use Rattle.go_tree.specs.declared.spans.Span.{Span}
use Rattle.text_edits.specs.declared.edit.Edit.{Edit}
use Rattle.text_edits.specs.Order.{spans}
use Rattle.text_edits.specs.Applied.{Ascend, applied}

-- The ranges are disjoint and ascend in the old text, and the new text is the old one with each range replaced.
pub record Keeps (old new : List ℕ) (ranges : List Span) : Type 0 where
  pub edits : List Edit
  pub ranges_are : spans edits ≡ ranges
  pub ascend : Ascend 0 (length old) edits
  pub replaced : new ≡ applied old edits

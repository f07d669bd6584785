-- The items of a file's report by their offsets (golang.org/x/tools, analyzer inline, for what is reported).
use Rattle.std.specs.Prelude.{⊤, ℕ, ◌≤◌, nat_le, List, [], ◌∷◌, if◌then◌else◌}
use Rattle.report_lines.specs.declared.lines.ReportItem.{ReportItem}

-- an item put among others, before the first whose offset isn't lower
abbrev pub put_item : ReportItem → List ReportItem → List ReportItem
put_item i [] = i ∷ []
put_item i (j ∷ js) = if nat_le i.offset j.offset then i ∷ j ∷ js else j ∷ put_item i js

-- items by their offsets; those of one place keep their order
abbrev pub in_order : List ReportItem → List ReportItem
in_order [] = []
in_order (i ∷ is) = put_item i (in_order is)

-- each item lies within so many bytes
abbrev pub LieWithin : ℕ → List ReportItem → Type 0
LieWithin size [] = ⊤
LieWithin size (i ∷ is) = (i.offset ≤ size) × LieWithin size is

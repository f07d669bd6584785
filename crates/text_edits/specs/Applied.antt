-- A text with some of its ranges replaced.
use Rattle.std.specs.Prelude.{ℕ, ◌≤◌, List, [], ◌∷◌, ◌++◌, drop, slice_range}
use Rattle.text_edits.specs.declared.edit.Edit.{Edit}

-- each span ends at the offset or before
abbrev pub Within : ℕ → List Edit → Type 0
Within size [] = Unit {0}
Within size (e ∷ es) = (e.span.end ≤ size) × Within size es

-- the ranges are disjoint, ascend from an offset on, and end before another
abbrev pub Ascend : ℕ → ℕ → List Edit → Type 0
Ascend from size [] = from ≤ size
Ascend from size (e ∷ es) = (from ≤ e.span.start) × (e.span.start ≤ e.span.end) × (e.span.end ≤ size)
    × Ascend e.span.end size es

-- the old text from an offset on, with each range replaced
abbrev pub replaced_from : List ℕ → ℕ → List Edit → List ℕ
replaced_from old from [] = drop from old
replaced_from old from (e ∷ es) = slice_range old from e.span.start ++ (e.text ++ replaced_from old e.span.end es)

-- the old text with each range replaced
abbrev pub applied : List ℕ → List Edit → List ℕ
applied old es = replaced_from old 0 es

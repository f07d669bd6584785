-- Where a byte of the old text stands in the new one.
use Rattle.std.specs.Prelude.{◌≡◌, ℕ, ◌+◌, ◌-◌, ◌<◌, if◌then◌else◌, nat_lt, List, []}
use Rattle.std.specs.Prelude.{◌∷◌, length, slice_index}
use Rattle.text_edits.specs.declared.edit.Edit.{Edit}
use Rattle.text_edits.specs.Spans.{Holds}
use Rattle.text_edits.specs.Applied.{Ascend, applied}

-- no edit replaces the byte at the offset
abbrev pub IsOutside : ℕ → List Edit → Type 0
IsOutside k [] = Unit {0}
IsOutside k (e ∷ es) = (Holds e.span k → ⊥) × IsOutside k es

-- the place of an offset of the old text, where `from` stands at `at` and the edits come later
abbrev pub place_from : ℕ → ℕ → List Edit → ℕ → ℕ
place_from from at [] k = at + (k - from)
place_from from at (e ∷ es) k =
    if nat_lt k e.span.end then at + (k - from)
    else place_from e.span.end (at + (e.span.start - from) + length e.text) es k

-- where a byte of the old text stands after the edits
abbrev pub place_after : List Edit → ℕ → ℕ
place_after es k = place_from 0 0 es k

-- Each byte that no edit replaces stands in the new text, at its place.
abbrev pub BytesStay : Type 0
BytesStay = (old : List ℕ) (es : List Edit) (k : ℕ) → Ascend 0 (length old) es → k < length old → IsOutside k es →
    slice_index (applied old es) (place_after es k) ≡ slice_index old k

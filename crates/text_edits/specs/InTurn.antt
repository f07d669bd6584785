-- Edits made one after another, whichever comes first: those that stand later in the text move with it.
use Rattle.std.specs.Prelude.{◌≡◌, ℕ, ◌+◌, ◌-◌, List, [], ◌∷◌, ◌++◌, length, map}
use Rattle.text_edits.specs.declared.edit.Edit.{Edit}
use Rattle.text_edits.specs.Applied.{Ascend, applied}

-- an offset behind an edit, once the edit is made
abbrev pub moved_offset : Edit → ℕ → ℕ
moved_offset e k = k + length e.text - (e.span.end - e.span.start)

-- a later edit, once the one before it is made
abbrev pub moved_by : Edit → Edit → Edit
moved_by e f = record f { span = record { start = moved_offset e f.span.start; end = moved_offset e f.span.end } }

-- Edits of a text make another of it in turn.
pub data InTurn : List ℕ → List Edit → List ℕ → Type 0 where
  done : (text : List ℕ) → InTurn text [] text
  next : (text new : List ℕ) (front back : List Edit) (e : Edit) →
      InTurn (applied text (e ∷ [])) (front ++ map (moved_by e) back) new → InTurn text (front ++ e ∷ back) new

-- In turn they make what they make together.
abbrev pub TurnsAgree : Type 0
TurnsAgree = (text new : List ℕ) (es : List Edit) → Ascend 0 (length text) es → InTurn text es new →
    new ≡ applied text es

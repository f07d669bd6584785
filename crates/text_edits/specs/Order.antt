-- Edits in the order of their places.
use Rattle.std.specs.Prelude.{◌≡◌, ℕ, ◌≤◌, List, [], ◌∷◌, length, map}
use Rattle.std.specs.List.{Contains, insert}
use Rattle.go_tree.specs.declared.spans.Span.{Span}
use Rattle.text_edits.specs.declared.edit.Edit.{Edit}
use Rattle.text_edits.specs.declared.edit.AddFault.{AddFault}
use Rattle.text_edits.specs.declared.edit.AddFault.TheVariants.{Overlap, NoMemory}
use Rattle.text_edits.specs.Spans.{IsSpan, Overlaps, Precedes}

-- the spans of edits
abbrev pub spans : List Edit → List Span
spans es = map (λ (e : Edit). e.span) es

-- the span precedes that of each edit
abbrev pub PrecedesEach : Span → List Edit → Type 0
PrecedesEach s [] = Unit {0}
PrecedesEach s (e ∷ es) = Precedes s e.span × PrecedesEach s es

-- each edit's span precedes those of all later edits
abbrev pub InOrder : List Edit → Type 0
InOrder [] = Unit {0}
InOrder (e ∷ es) = IsSpan e.span × PrecedesEach e.span es × InOrder es

-- no edit's span overlaps the span
abbrev pub IsFree : Span → List Edit → Type 0
IsFree s [] = Unit {0}
IsFree s (e ∷ es) = (Overlaps e.span s → ⊥) × IsFree s es

-- an edit of the span stands in order at the index
abbrev pub IsPlace : ℕ → Span → List Edit → Type 0
IsPlace k s es = (k ≤ length es) × ((e : Edit) → e.span ≡ s → InOrder (insert es k e))

-- Why an edit of the span isn't added: it overlaps the kept span that is named, or it overlaps none and memory was
-- refused.
abbrev pub IsCause : AddFault → Span → List Edit → Type 0
IsCause (Overlap kept) s es = Overlaps kept s × Contains (spans es) kept
IsCause NoMemory s es = IsFree s es

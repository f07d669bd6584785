-- How two spans of a text stand to each other. A span is the bytes from its start up to but without its end; it is
-- empty where these are one.
use Rattle.std.specs.Prelude.{◌≡◌, ℕ, ◌≤◌, ◌<◌, ◌⊎◌}
use Rattle.go_tree.specs.declared.spans.Span.{Span}

-- it ends where it starts, or behind
abbrev pub IsSpan : Span → Type 0
IsSpan a = a.start ≤ a.end

-- it has no byte
abbrev pub IsEmpty : Span → Type 0
IsEmpty a = a.start ≡ a.end

-- the byte at an offset is in it
abbrev pub Holds : Span → ℕ → Type 0
Holds a k = (a.start ≤ k) × (k < a.end)

-- a byte is in both
abbrev pub SharesByte : Span → Span → Type 0
SharesByte a b = (k : ℕ) × Holds a k × Holds b k

-- the first is empty and lies strictly inside the second
abbrev pub LiesInside : Span → Span → Type 0
LiesInside a b = IsEmpty a × (b.start < a.start) × (a.start < b.end)

-- both are empty, at one offset
abbrev pub EmptyAtOneOffset : Span → Span → Type 0
EmptyAtOneOffset a b = IsEmpty a × IsEmpty b × (a.start ≡ b.start)

-- They share a byte, one of them is empty and lies strictly inside the other, or both are empty at one offset.
abbrev pub Overlaps : Span → Span → Type 0
Overlaps a b = SharesByte a b ⊎ (LiesInside a b ⊎ (LiesInside b a ⊎ EmptyAtOneOffset a b))

-- The first ends where the second starts or before, and they aren't empty at one offset. An empty span precedes another
-- that starts there.
abbrev pub Precedes : Span → Span → Type 0
Precedes a b = (a.end ≤ b.start) × (a.start < b.end)

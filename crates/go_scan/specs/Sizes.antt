-- What the scanner looks at, with sizes in bytes: the code walks over the bytes of a text, the definitions over its
-- characters (Go specification, Source code representation).
use Rattle.std.specs.Prelude.{◌≡◌, ℕ, ◌+◌, ◌==◌, Bool, List, [], ◌∷◌, take, Option, Some, None}
use Rattle.std.specs.Prelude.{if◌then◌else◌}
use Rattle.std.specs.Char.{len_utf8}
use Rattle.go_tree.specs.GoWords.Tokens.{size_of}
use Rattle.go_tree.specs.GoWords.Tokens.Pieces.{PieceKind}
use Rattle.go_scan.specs.declared.automaton.TheConstants.{DEAD}
use Rattle.go_scan.specs.Automaton.{next_of, is_whole}
use Rattle.go_scan.specs.Pieces.{Exact}

-- how many bytes the characters at the front have that pass
abbrev pub size_while : (ℕ → Bool) → List ℕ → ℕ
size_while passes [] = 0
size_while passes (c ∷ cs) = if passes c then len_utf8 c + size_while passes cs else 0

-- the longest whole word so far, after a further character
abbrev pub found_by : Option (ℕ × ℕ) → ℕ → ℕ → Option (ℕ × ℕ)
found_by found state size = if is_whole state then Some (state, size) else found

-- the state and the size, counted on from `size`, of the longest front that is a whole word, or else `found`
unfoldable pub longest_by_size : ℕ → ℕ → Option (ℕ × ℕ) → List ℕ → Option (ℕ × ℕ)
longest_by_size state size found [] = found
longest_by_size state size found (c ∷ cs) =
    if next_of state c == DEAD then found
    else longest_by_size (next_of state c) (size + len_utf8 c) (found_by found (next_of state c) (size + len_utf8 c)) cs

-- an answer in characters of the text as one in bytes
abbrev pub sized : {A : Type 0} → List ℕ → Option (A × ℕ) → Option (A × ℕ)
sized text None = None
sized text (Some x) = Some (x.0, size_of (take x.1 text))

-- What is answered is the next piece and its size, and nothing is answered only where no piece is next.
abbrev pub ExactSize : List ℕ → Option (PieceKind × ℕ) → Type 0
ExactSize text None = Exact text None
ExactSize text (Some x) = (len : ℕ) × (x.1 ≡ size_of (take len text)) × Exact text (Some (x.0, len))

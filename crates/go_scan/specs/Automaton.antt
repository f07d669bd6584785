-- What the automaton of words reads.
use Rattle.std.specs.Prelude.{ℕ, ◌+◌, ◌==◌, Bool, ◌&&◌, nat_lt, nat_le, List, [], ◌∷◌, Option, Some}
use Rattle.std.specs.Prelude.{slice_index, slice_index_or, if◌then◌else◌}
use Rattle.go_scan.specs.declared.automaton.TheConstants.{CLASS, NEXT, DEAD, FOREIGN, OTHER, OPERATORS, INTEGERS}
use Rattle.go_scan.specs.declared.automaton.TheConstants.{FLOATS, IMAGINARIES, RUNES, STRINGS, COMMENTS, PARTS}
use Rattle.go_tree.specs.declared.tokens.TokenKind.TheVariants.{Operator, Integer, Float, Imaginary, Rune, Str}
use Rattle.go_tree.specs.GoWords.Tokens.Characters.{byte_order_mark}
use Rattle.go_tree.specs.GoWords.Tokens.Pieces.{PieceKind, remark, token}

-- the class of a character, by which the automaton goes on: ASCII by a table, all others alike but the byte order mark
abbrev pub class_of : ℕ → ℕ
class_of c = if nat_lt c 128 then slice_index CLASS c else (if c == byte_order_mark then FOREIGN else OTHER)

-- the state after this state and this character
unfoldable pub next_of : ℕ → ℕ → ℕ
next_of state c = slice_index (slice_index_or NEXT state []) (class_of c)

-- what has been read is a whole word
abbrev pub is_whole : ℕ → Bool
is_whole state = nat_le OPERATORS state && nat_lt state PARTS

-- what the whole word is
abbrev pub kind_in : ℕ → PieceKind
kind_in state =
    if nat_lt state INTEGERS then token Operator
    else (if nat_lt state FLOATS then token Integer
    else (if nat_lt state IMAGINARIES then token Float
    else (if nat_lt state RUNES then token Imaginary
    else (if nat_lt state STRINGS then token Rune
    else (if nat_lt state COMMENTS then token Str
    else remark)))))

-- the state and the length, counted on from `len`, of the longest front that is a whole word, or else `found`
unfoldable pub longest_from : ℕ → ℕ → Option (ℕ × ℕ) → List ℕ → Option (ℕ × ℕ)
longest_from state len found [] = found
longest_from state len found (c ∷ cs) =
    if next_of state c == DEAD then found
    else longest_from (next_of state c) (len + 1)
    (if is_whole (next_of state c) then Some (next_of state c, len + 1) else found) cs

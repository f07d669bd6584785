-- How forms begin (Go specification, Identifiers; Keywords; Operators and punctuation; Rune literals; String literals).
use Rattle.std.specs.Prelude.{ℕ, Bool, ◌||◌, List, codes}
use Rattle.go_tree.specs.GoWords.Tokens.Characters.{is_letter, is_listed}

-- what begins an operand or a type, but a letter and a digit
abbrev pub first_signs : List ℕ
first_signs = codes "([{*-+!^&'\"`"

-- a form may begin with the character
abbrev pub may_begin : ℕ → Bool
may_begin c = is_letter c || is_listed first_signs c

-- Which bytes a part of a file takes: from the start of its first token to the end of its last.
use Rattle.std.specs.Prelude.{ℕ, ◌-◌, List, [], ◌∷◌, length, take}
use Rattle.go_tree.specs.declared.spans.Span.{Span}
use Rattle.go_tree.specs.GoWords.Terminals.{Lexeme, lex}

-- where the first token starts
abbrev pub start_of : List Lexeme → ℕ
start_of [] = 0
start_of (lex s _ ∷ _) = s.start

-- where the last token ends, or this place where there is none
abbrev pub end_after : ℕ → List Lexeme → ℕ
end_after place [] = place
end_after place (lex s _ ∷ tokens) = end_after s.end tokens

-- the span of the tokens before `rest`; where there are none, the empty one at the start of the token after them
abbrev pub span_to : List Lexeme → List Lexeme → Span
span_to tokens rest =
    record { start = start_of tokens; end = end_after (start_of tokens) (take (length tokens - length rest) tokens) }

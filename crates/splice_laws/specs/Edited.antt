-- The terminals of a text in parts, and parts that are an import (Go specification, Import declarations, Semicolons).
use Rattle.std.specs.Prelude.{ℕ, ◌+◌, Bool, true, false, List, [], ◌∷◌, ◌++◌, Option, Some, None}
use Rattle.go_tree.specs.GoWords.Terminals.{Terminal, lex, lexemes}
use Rattle.go_read.specs.SpellsTypes.{Lexemes}
use Rattle.go_tree.specs.GoWords.Tokens.{tokens_from, pieces_size}
use Rattle.go_tree.specs.GoWords.Tokens.Pieces.{Piece}
use Rattle.splice_laws.specs.Joints.{given, due_behind}

-- tokens without their spans
abbrev pub terminals : Lexemes → List Terminal
terminals [] = []
terminals (lex s x ∷ ts) = x ∷ terminals ts

-- those of parts before a span, within it, and behind it
abbrev pub given_terminals : ℕ → List Piece → List Piece → List Piece → List Terminal
given_terminals at before inside behind =
    terminals (lexemes (given at None before))
    ++ (terminals (lexemes (given (at + pieces_size before) (due_behind at None before) inside))
    ++ terminals (lexemes (tokens_from (at + pieces_size before + pieces_size inside)
    (due_behind (at + pieces_size before) (due_behind at None before) inside) behind)))

-- a newline would give a semicolon
abbrev pub gives_semicolon : Option ℕ → Bool
gives_semicolon None = false
gives_semicolon (Some at) = true

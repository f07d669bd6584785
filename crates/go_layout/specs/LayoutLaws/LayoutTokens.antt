-- The tokens of a layout.
use Rattle.std.specs.Prelude.{ℕ, true, false, List, ◌∷◌}
use Rattle.go_tree.specs.declared.spans.Span.{Span}
use Rattle.go_tree.specs.declared.tokens.TokenKind.{TokenKind}
use Rattle.go_tree.specs.GoWords.Terminals.{lex, terminal_of, semicolon}
use Rattle.go_read.specs.SpellsTypes.{Lexemes}
use Rattle.go_layout.specs.Layouts.{Layout, no_text, a_token, gap, line, ◌⊕◌}

-- The tokens before `rest` are those of the layout, wherever they stand. A newline that ends a statement is a
-- semicolon.
pub data HasTokens : Layout → Lexemes → Lexemes → Type 0 where
  of_nothing : {r : Lexemes} → HasTokens no_text r r
  of_token : {s : Span} {kind : TokenKind} {spelling : List ℕ} {r : Lexemes} →
      HasTokens (a_token kind spelling) (lex s (terminal_of kind spelling) ∷ r) r
  of_gap : {r : Lexemes} → HasTokens gap r r
  of_line : {indent : List ℕ} {r : Lexemes} → HasTokens (line false indent) r r
  of_end : {s : Span} {indent : List ℕ} {r : Lexemes} → HasTokens (line true indent) (lex s semicolon ∷ r) r
  of_both : {a b : Layout} {ts mid r : Lexemes} → HasTokens a ts mid → HasTokens b mid r → HasTokens (a ⊕ b) ts r

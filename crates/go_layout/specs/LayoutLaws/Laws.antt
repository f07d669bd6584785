-- What is written for a tree spells the tree.
use Rattle.std.specs.Prelude.{◌≡◌, ℕ, ◌+◌, ◌≤◌, ◌==◌, Bool, true, false, not, ◌&&◌, List, []}
use Rattle.std.specs.Prelude.{◌∷◌, ◌++◌, Option, None, is_some, encode_utf8_all}
use Rattle.std.specs.Str.{all_scalars}
use Rattle.go_tree.specs.declared.spans.Span.{Span}
use Rattle.go_tree.specs.declared.tokens.Token.{Token}
use Rattle.go_tree.specs.declared.tokens.Comment.{Comment}
use Rattle.go_tree.specs.Tree.{TypeExpr, Sig, Expr, Stmts, no_stmts, stmt_and}
use Rattle.go_tree.specs.Bare.{bare_type, bare_sig, bare_expr, bare_stmts}
use Rattle.go_tree.specs.GoWords.Tokens.Characters.{is_word}
use Rattle.go_tree.specs.GoWords.Tokens.{TokensOf, tokens_from, pieces_size}
use Rattle.go_tree.specs.GoWords.Tokens.Pieces.{Piece, CutsTo}
use Rattle.go_tree.specs.GoWords.Terminals.{lex, lexemes, semicolon, end_brace}
use Rattle.go_read.specs.SpellsTypes.{Lexemes, SpellsType, SpellsSig}
use Rattle.go_read.specs.Spells.{SpellsOperand, SpellsStmts}
use Rattle.go_read.specs.SpellsSpans.{span_to}
use Rattle.go_read.specs.Bareness.{nowhere}
use Rattle.go_layout.specs.Layouts.{Layout, text_of}
use Rattle.go_layout.specs.TypeLayout.{type_layout, sig_layout}
use Rattle.go_layout.specs.TreeLayout.{operand_layout, stmts_layout, gives_semicolon}
use Rattle.go_layout.specs.LayoutLaws.LayoutPieces.{due_of, due_behind}

-- ---- trees that some tokens spell

-- tokens of a text, from some place on
pub record TokensFrom (ts : Lexemes) : Type 0 where
  pub text : List ℕ
  pub tokens : List Token
  pub comments : List Comment
  pub front : Lexemes
  pub of_text : TokensOf text tokens comments
  pub from_there : lexemes tokens ≡ front ++ ts

-- Some tokens of a text spell the type.
pub record IsSpelledType (t : TypeExpr Span) : Type 0 where
  pub tokens : Lexemes
  pub rest : Lexemes
  pub of_text : TokensFrom tokens
  pub spelled : SpellsType span_to t tokens rest

-- Some tokens of a text spell the signature.
pub record IsSpelledSig (variadic : Bool) (g : Sig Span) : Type 0 where
  pub tokens : Lexemes
  pub rest : Lexemes
  pub of_text : TokensFrom tokens
  pub spelled : SpellsSig span_to variadic g tokens rest

-- Some tokens of a text spell the expression, in a place of some level.
pub record IsSpelledExpr (e : Expr Span) : Type 0 where
  pub tokens : Lexemes
  pub rest : Lexemes
  pub level : ℕ
  pub header : Bool
  pub of_text : TokensFrom tokens
  pub spelled : SpellsOperand span_to level header e tokens rest

-- Some tokens of a text spell the statements.
pub record IsSpelledStmts (xs : Stmts Span) : Type 0 where
  pub tokens : Lexemes
  pub rest : Lexemes
  pub of_text : TokensFrom tokens
  pub spelled : SpellsStmts span_to xs tokens rest

-- ---- a text in front of what follows it

-- the text ends here, or a character follows that goes on with no name, number or operator at the end of a tree's text
abbrev pub may_follow : List ℕ → Bool
may_follow [] = true
may_follow (c ∷ cs) = not (is_word c) && not (c == 46)

-- Wherever the layout's text stands in front of what may follow it, these are its pieces, and their tokens are so. A
-- text that is cut up to the layout's first character goes on with them, for a cut is made from the left. What stands
-- behind has the tokens that its pieces give from the end of the layout's text on; a semicolon is due there exactly
-- where the layout says so.
pub record Stands (a : Layout) (are : Lexemes → Lexemes → Type 0) : Type 0 where
  pub characters : List ℕ
  pub pieces : List Piece
  pub scalars : all_scalars characters ≡ true
  pub encoded : encode_utf8_all characters ≡ text_of a
  pub cut : (more : List ℕ) (others : List Piece) (rest : List ℕ) → may_follow more ≡ true → CutsTo more others rest →
      CutsTo (characters ++ more) (pieces ++ others) rest
  pub tokens : (at : ℕ) (due : Option ℕ) (others : List Piece) →
      are (lexemes (tokens_from at due (pieces ++ others)))
      (lexemes (tokens_from (at + pieces_size pieces) (due_behind at due pieces) others))
  pub semicolon_due : (at : ℕ) (due : Option ℕ) → is_some (due_behind at due pieces) ≡ due_of a (is_some due)

-- The layout's text by itself has tokens, and they are so. At the end of the text stands the semicolon that is inserted
-- there.
pub record StandsAlone (a : Layout) (are : Lexemes → Lexemes → Type 0) : Type 0 where
  pub tokens : List Token
  pub of_text : TokensOf (text_of a) tokens []
  pub semicolon_at : Span
  pub are_so : are (lexemes tokens) (lex semicolon_at semicolon ∷ [])

-- the tokens spell the expression in any place that needs at most this level and header rule
abbrev pub SpellsWithin : ℕ → Bool → Expr (Unit {0}) → Lexemes → Lexemes → Type 0
SpellsWithin level header e ts r = (l : ℕ) (h : Bool) → l ≤ level → (h ≡ true → header ≡ true) →
    SpellsOperand nowhere l h e ts r

-- ---- the laws

-- a newline behind the layout gives a semicolon, whatever stands before it
abbrev pub AsksSemicolon : Layout → Type 0
AsksSemicolon a = (due : Bool) → due_of a due ≡ true

-- a type's text spells the type
pub record TypeIsWritten (t : TypeExpr Span) : Type 0 where
  pub alone : StandsAlone (type_layout t) (SpellsType nowhere (bare_type t))
  pub stands : Stands (type_layout t) (SpellsType nowhere (bare_type t))
  pub asks : AsksSemicolon (type_layout t)

-- a signature's text spells the signature, which may be variadic or not
pub record SigIsWritten (variadic : Bool) (g : Sig Span) : Type 0 where
  pub alone : StandsAlone (sig_layout g) (SpellsSig nowhere variadic (bare_sig g))
  pub stands : Stands (sig_layout g) (SpellsSig nowhere variadic (bare_sig g))
  pub asks : AsksSemicolon (sig_layout g)

-- an expression's text, written for a level and a header rule, spells the expression
pub record ExprIsWritten (e : Expr Span) (indent : List ℕ) (level : ℕ) (header : Bool) : Type 0 where
  pub alone : StandsAlone (operand_layout indent level header false e) (SpellsWithin level header (bare_expr e))
  pub stands : Stands (operand_layout indent level header false e) (SpellsWithin level header (bare_expr e))
  pub asks : AsksSemicolon (operand_layout indent level header false e)

-- a newline after the last statement gives a semicolon
abbrev pub last_gives : {S : Type 0} → Stmts S → Bool
last_gives no_stmts = false
last_gives (stmt_and x no_stmts) = gives_semicolon x
last_gives (stmt_and x (stmt_and y xs)) = last_gives (stmt_and y xs)

-- The tokens spell the statements: with the semicolon after them, or as they are where a brace follows, or where the
-- text
-- is empty or ends in a semicolon.
pub record SpellsList (xs : Stmts (Unit {0})) (ts mid : Lexemes) : Type 0 where
  pub before_semicolon : (s : Span) (r : Lexemes) → last_gives xs ≡ true → mid ≡ lex s semicolon ∷ r →
      SpellsStmts nowhere xs ts r
  pub before_brace : (s : Span) (r : Lexemes) → mid ≡ lex s end_brace ∷ r → SpellsStmts nowhere xs ts mid
  pub closed : last_gives xs ≡ false → SpellsStmts nowhere xs ts mid

-- The text of statements spells them. Where none is due before them, as behind a brace or a newline, a newline behind
-- them gives a semicolon exactly where one behind the last statement does.
pub record StmtsAreWritten (xs : Stmts Span) (indent : List ℕ) : Type 0 where
  pub tokens : List Token
  pub of_text : TokensOf (text_of (stmts_layout indent None xs)) tokens []
  pub alone : SpellsStmts nowhere (bare_stmts xs) (lexemes tokens) []
  pub stands : Stands (stmts_layout indent None xs) (SpellsList (bare_stmts xs))
  pub asks : due_of (stmts_layout indent None xs) false ≡ last_gives (bare_stmts xs)

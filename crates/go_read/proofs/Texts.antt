-- Texts whose tokens stand one space apart, for checks by evaluation.
use Rattle.std.proofs.Common.{ℕ, ◌+◌, Bool, true, false, List, [], ◌∷◌, ◌++◌, length, nat_eq, nat_le, if◌then◌else◌, ◌&&◌, ◌||◌, Option, Some, None}
use Rattle.std.specs.Prelude.{bytes_eq}
use Rattle.go_tree.specs.declared.tokens.Token.{Token}
use Rattle.go_tree.specs.declared.tokens.TokenKind.{TokenKind}
use Rattle.go_tree.specs.declared.tokens.TokenKind.TheVariants.{Ident, Keyword, Operator, Integer, Rune, Str}
use Rattle.go_tree.specs.Tree.{NameAt, TypeExpr, Expr, Exprs, Stmt, Stmts, named, ident, int_lit, no_exprs, expr_and, no_stmts, stmt_and}
use Rattle.go_tree.specs.GoWords.Terminals.{Terminal, keywords, lexemes}
use Rattle.go_read.specs.SpellsTypes.{Lexemes}
use Rattle.go_read.specs.Goals.{Goal, Answer}
use Rattle.go_read.specs.Bareness.{nowhere}
use Rattle.go_read.specs.Reading.{at, reads}
use Rattle.go_read.specs.ReadTypes.{type_step, fields_step, entries_step, named_step, unnamed_step, params_step, sig_step, names_step}
use Rattle.go_read.specs.ReadExprs.{expr_step, more_step, unary_step, postfix_step, operand_step, exprs_step, args_step, elems_step, elem_step, value_step}
use Rattle.go_read.specs.ReadStmts.{simple_step, simple_after_step, clause_step, stmt_step, stmts_step, block_step, arm_step, if_step, cases_step, decl_step, specs_step, spec_step}
use Rattle.go_read.specs.ReadFiles.{import_spec_step, import_specs_step, import_step, type_spec_step, type_specs_step, receiver_step, top_step, imports_step, tops_step, front_step}

-- the words between spaces, the one that is begun in front
abbrev pub words : List ℕ → List ℕ → List (List ℕ)
words word [] = word ∷ []
words word (c ∷ cs) = if nat_eq c 32 then word ∷ words [] cs else words (word ++ c ∷ []) cs

abbrev pub is_keyword : List (List ℕ × Terminal) → List ℕ → Bool
is_keyword [] w = false
is_keyword (row ∷ rows) w = if bytes_eq row.0 w then true else is_keyword rows w

abbrev pub kind_of : List ℕ → TokenKind
kind_of [] = Operator
kind_of (c ∷ cs) =
    if is_keyword keywords (c ∷ cs) then Keyword
    else (if (nat_le 97 c && nat_le c 122) || ((nat_le 65 c && nat_le c 90) || nat_eq c 95) then Ident
    else (if nat_le 48 c && nat_le c 57 then Integer
    else (if nat_eq c 34 || nat_eq c 96 then Str
    else (if nat_eq c 39 then Rune else Operator))))

abbrev pub tokens_from : ℕ → List (List ℕ) → List Token
tokens_from n [] = []
tokens_from n (w ∷ ws) = record { span = record { start = n; end = n + length w }; kind = kind_of w; spelling = w } ∷ tokens_from (n + length w + 1) ws

abbrev pub lexed : List ℕ → Lexemes
lexed text = lexemes (tokens_from 0 (words [] text))

-- what is read of a text, where all of it is read
abbrev pub whole_of : {A : Type 0} → Option (A × Lexemes) → Option A
whole_of (Some (x, [])) = Some x
whole_of _ = None

unfoldable pub reading : (g : Goal (Unit {0})) → List ℕ → Option (Answer g)
unfolding at reads type_step fields_step entries_step named_step unnamed_step params_step sig_step names_step expr_step more_step unary_step postfix_step operand_step exprs_step args_step elems_step elem_step value_step simple_step simple_after_step clause_step stmt_step stmts_step block_step arm_step if_step cases_step decl_step specs_step spec_step import_spec_step import_specs_step import_step type_spec_step type_specs_step receiver_step top_step imports_step tops_step front_step
reading g text = whole_of (at nowhere g (lexed text))

-- trees without spans
abbrev pub var : List ℕ → Expr (Unit {0})
var n = ident tt n

abbrev pub num : List ℕ → Expr (Unit {0})
num n = int_lit tt n

abbrev pub name : List ℕ → NameAt (Unit {0})
name n = record { span = tt; name = n }

abbrev pub type : List ℕ → TypeExpr (Unit {0})
type n = named tt None (name n)

abbrev pub list : List (Expr (Unit {0})) → Exprs (Unit {0})
list [] = no_exprs
list (e ∷ es) = expr_and e (list es)

abbrev pub block : List (Stmt (Unit {0})) → Stmts (Unit {0})
block [] = no_stmts
block (x ∷ xs) = stmt_and x (block xs)

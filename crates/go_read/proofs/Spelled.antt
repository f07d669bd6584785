-- What spells a tree: a front of the tokens, and the tree without its spans too.
use Rattle.std.proofs.Common.{◌≡◌, ℕ, Bool, List, [], ◌++◌}
use Rattle.go_tree.specs.declared.spans.Span.{Span}
use Rattle.go_tree.specs.declared.tokens.Token.{Token}
use Rattle.go_tree.specs.Tree.{TypeExpr, Expr, Stmt}
use Rattle.go_tree.specs.Bare.{bare_type, bare_expr, bare_stmt}
use Rattle.go_tree.specs.File.{File}
use Rattle.go_tree.specs.FileBare.{bare_file}
use Rattle.go_tree.specs.GoWords.Terminals.{lexemes}
use Rattle.go_read.specs.SpellsSpans.{span_to}
use Rattle.go_read.specs.SpellsTypes.{Lexemes, SpellsType}
use Rattle.go_read.specs.Spells.{SpellsOperand, SpellsStmt}
use Rattle.go_read.specs.SpellsFiles.{SpellsFront, SpellsFile}
use Rattle.go_read.specs.Bareness.{nowhere}
use Rattle.go_read.proofs.Suffixes.{front_of, type_suffix, operand_suffix, stmt_suffix, file_suffix}
use Rattle.go_read.proofs.SpansAside.{type_bare, operand_bare, stmt_bare, file_bare}

pub type_in_front : (t : TypeExpr Span) (ts r : Lexemes) → SpellsType span_to t ts r → (front : Lexemes) × (ts ≡ front ++ r)
type_in_front t ts r d = front_of (type_suffix span_to d)

pub operand_in_front : (l : ℕ) (h : Bool) (e : Expr Span) (ts r : Lexemes) → SpellsOperand span_to l h e ts r → (front : Lexemes) × (ts ≡ front ++ r)
operand_in_front l h e ts r d = front_of (operand_suffix span_to d)

pub stmt_in_front : (x : Stmt Span) (ts r : Lexemes) → SpellsStmt span_to x ts r → (front : Lexemes) × (ts ≡ front ++ r)
stmt_in_front x ts r d = front_of (stmt_suffix span_to d)

pub file_in_front : (f : File Span) (ts r : Lexemes) → SpellsFront span_to f ts r → (front : Lexemes) × (ts ≡ front ++ r)
file_in_front f ts r d = front_of (file_suffix span_to d)

pub type_aside : (t : TypeExpr Span) (ts r : Lexemes) → SpellsType span_to t ts r → SpellsType nowhere (bare_type t) ts r
type_aside t ts r d = type_bare span_to d

pub operand_aside : (l : ℕ) (h : Bool) (e : Expr Span) (ts r : Lexemes) → SpellsOperand span_to l h e ts r → SpellsOperand nowhere l h (bare_expr e) ts r
operand_aside l h e ts r d = operand_bare span_to d

pub stmt_aside : (x : Stmt Span) (ts r : Lexemes) → SpellsStmt span_to x ts r → SpellsStmt nowhere (bare_stmt x) ts r
stmt_aside x ts r d = stmt_bare span_to d

pub file_aside : (tokens : List Token) (f : File Span) → SpellsFile tokens f → SpellsFront nowhere (bare_file f) (lexemes tokens) []
file_aside tokens f d = file_bare span_to d

-- Statements without a newline after the last.
use Rattle.std.proofs.Common.{◌≡◌, ℕ, Bool, true, false, List, [], ◌∷◌, ◌++◌, None, refl, sym, subst}
use Rattle.go_tree.specs.declared.spans.Span.{Span}
use Rattle.go_tree.specs.Tree.{Stmt, Stmts, no_stmts, stmt_and, const_decl, var_decl, empty, eval, step, assign, define, return_, break_, continue_, inner, if_, for_, range_, switch, defer, label}
use Rattle.go_tree.specs.GoWords.Terminals.{lex, semicolon, end_brace}
use Rattle.go_read.specs.SpellsTypes.{Lexemes}
use Rattle.go_read.specs.Spells.{is_empty, SpellsStmts, simple_rule, no_stmts_rule, last_stmt_rule, more_stmts_rule}
use Rattle.go_read.specs.Bareness.{nowhere}
use Rattle.go_layout.specs.Layouts.{Layout, no_text, line, ◌⊕◌}
use Rattle.go_layout.specs.TreeLayout.{gives_semicolon, stmt_layout, stmts_layout}
use Rattle.go_layout.specs.LayoutLaws.Formed.{is_simple, FormedStmts}
use Rattle.go_layout.specs.LayoutLaws.LayoutTokens.{HasTokens, of_nothing, of_both}
use Rattle.go_layout.specs.LayoutLaws.LayoutPieces.{letters_of, due_of}
use Rattle.go_layout.specs.LayoutLaws.Laid.{is_indent, Laid}
use Rattle.go_layout.specs.LayoutLaws.Laws.{last_gives, SpellsList}
use Rattle.go_layout.proofs.LayoutLaws.SpelledTypes.{U}
use Rattle.go_layout.proofs.LayoutLaws.SpelledParts.{Says, ended, simple_gives}
use Rattle.go_layout.proofs.LayoutLaws.SpelledTrees.{stmt_spelled}
use Rattle.go_layout.proofs.LayoutLaws.Due.{stmt_due}
use Rattle.go_layout.proofs.LayoutLaws.LaidTokens.{line_laid}
use Rattle.go_layout.proofs.LayoutLaws.LaidTypes.{ends_ok, ends_with}
use Rattle.go_layout.proofs.LayoutLaws.LaidPlaces.{stmts_start}
use Rattle.go_layout.proofs.LayoutLaws.LaidTrees.{stmt_laid}

-- ---- spelling

-- what stands after the last statement
pub data Ends : Bool → Lexemes → Lexemes → Type 0 where
  at_semicolon : {s : Span} {r : Lexemes} → Ends true (lex s semicolon ∷ r) r
  at_brace : {s : Span} {r : Lexemes} → Ends true (lex s end_brace ∷ r) (lex s end_brace ∷ r)
  after_semicolon : {r : Lexemes} → Ends false r r

full : (x : Stmt U) → gives_semicolon x ≡ true → is_empty x ≡ false
full (const_decl _ _ _) q = refl
full (var_decl _ _ _) q = refl
full (empty _) q = absurd cc
full (eval _ _) q = refl
full (step _ _ _) q = refl
full (assign _ _ _ _) q = refl
full (define _ _ _) q = refl
full (return_ _ _) q = refl
full (break_ _ _) q = refl
full (continue_ _ _) q = refl
full (inner _ _) q = refl
full (if_ _ _ _) q = refl
full (for_ _ _ _ _ _ _) q = refl
full (range_ _ _ _ _ _) q = refl
full (switch _ _ _ _) q = refl
full (defer _ _) q = refl
full (label _ _ _) q = refl

last_spelled : (x : Stmt U) (simple gives : Bool) (ts mid r : Lexemes) → (simple ≡ true → gives ≡ true) → (gives ≡ true → is_empty x ≡ false) → Says simple gives false x ts mid → Ends gives mid r → SpellsStmts nowhere (stmt_and x no_stmts) ts r
last_spelled x true true ts mid r q n d at_semicolon = more_stmts_rule (simple_rule d) no_stmts_rule
last_spelled x true true ts mid r q n d at_brace = last_stmt_rule (n refl) (simple_rule d)
last_spelled x false true ts mid r q n d at_semicolon = more_stmts_rule d no_stmts_rule
last_spelled x false true ts mid r q n d at_brace = last_stmt_rule (n refl) d
last_spelled x false false ts mid r q n d after_semicolon = more_stmts_rule d.1 no_stmts_rule
last_spelled x true false ts mid r q n d e = absurd (nope (q refl))
  where
    nope : false ≡ true → ⊥
    nope e = cc

one_more : (x : Stmt U) (xs : Stmts U) (a b : Layout) (i : List ℕ) (ts mid r : Lexemes) → ((ts2 r2 : Lexemes) → HasTokens a ts2 r2 → Says (is_simple x) (gives_semicolon x) false x ts2 r2)
    → ((ts2 : Lexemes) → HasTokens b ts2 mid → SpellsStmts nowhere xs ts2 r) → HasTokens (a ⊕ line (gives_semicolon x) i ⊕ b) ts mid → SpellsStmts nowhere (stmt_and x xs) ts r
one_more x xs a b i ts mid r s k (of_both u (of_both v w)) = more_stmts_rule (ended (is_simple x) (gives_semicolon x) x i ts _ _ (simple_gives x) (s ts _ u) v).1 (k _ w)

one_last : (x : Stmt U) (a : Layout) (ts mid r : Lexemes) → ((ts2 r2 : Lexemes) → HasTokens a ts2 r2 → Says (is_simple x) (gives_semicolon x) false x ts2 r2) → Ends (gives_semicolon x) mid r
    → HasTokens (a ⊕ no_text ⊕ no_text) ts mid → SpellsStmts nowhere (stmt_and x no_stmts) ts r
one_last x a ts mid r s e (of_both u (of_both of_nothing of_nothing)) = last_spelled x (is_simple x) (gives_semicolon x) ts mid r (simple_gives x) (full x) (s ts mid u) e

none_spelled : (ts mid r : Lexemes) → HasTokens no_text ts mid → Ends false mid r → SpellsStmts nowhere no_stmts ts r
none_spelled ts mid r of_nothing after_semicolon = no_stmts_rule

open_spelled : (xs : Stmts U) → FormedStmts xs → (i : List ℕ) (ts mid r : Lexemes) → HasTokens (stmts_layout i None xs) ts mid → Ends (last_gives xs) mid r → SpellsStmts nowhere xs ts r
open_spelled no_stmts f i ts mid r w e = none_spelled ts mid r w e
open_spelled (stmt_and x no_stmts) f i ts mid r w e = one_last x (stmt_layout i false x) ts mid r (stmt_spelled x f.0 i false) e w
open_spelled (stmt_and x (stmt_and y xs)) f i ts mid r w e =
    one_more x (stmt_and y xs) (stmt_layout i false x) (stmts_layout i None (stmt_and y xs)) i ts mid r (stmt_spelled x f.0 i false) (λ ts2 u. open_spelled (stmt_and y xs) f.1 i ts2 mid r u e) w

ends_at_semicolon : (b : Bool) (s : Span) (mid r : Lexemes) → b ≡ true → mid ≡ lex s semicolon ∷ r → Ends b mid r
ends_at_semicolon true s mid r q e = subst (λ (ms : Lexemes). Ends true ms r) (sym e) at_semicolon
ends_at_semicolon false s mid r q e = absurd cc

ends_at_brace : (b : Bool) (s : Span) (mid r : Lexemes) → mid ≡ lex s end_brace ∷ r → Ends b mid mid
ends_at_brace true s mid r e = subst (λ (ms : Lexemes). Ends true ms ms) (sym e) at_brace
ends_at_brace false s mid r e = after_semicolon

ends_closed : (b : Bool) (mid : Lexemes) → b ≡ false → Ends b mid mid
ends_closed true mid q = absurd cc
ends_closed false mid q = after_semicolon

pub list_spelled : (xs : Stmts U) → FormedStmts xs → (i : List ℕ) (ts mid : Lexemes) → HasTokens (stmts_layout i None xs) ts mid → SpellsList xs ts mid
list_spelled xs f i ts mid w = record {
  before_semicolon = λ s r q e. open_spelled xs f i ts mid r w (ends_at_semicolon (last_gives xs) s mid r q e);
  before_brace = λ s r e. open_spelled xs f i ts mid mid w (ends_at_brace (last_gives xs) s mid r e);
  closed = λ q. open_spelled xs f i ts mid mid w (ends_closed (last_gives xs) mid q);
}

-- ---- the cut

pub open_laid : (xs : Stmts U) → FormedStmts xs → (i : List ℕ) → is_indent i ≡ true → (d : Bool) (more : List ℕ) → ends_ok false more ≡ true → Laid (stmts_layout i None xs) d more
open_laid no_stmts f i sp d more off = tt
open_laid (stmt_and x no_stmts) f i sp d more off = (stmt_laid x f.0 i sp false d more off, (tt, tt))
open_laid (stmt_and x (stmt_and y xs)) f i sp d more off =
    let rest = letters_of (stmts_layout i None (stmt_and y xs)) more in
    (stmt_laid x f.0 i sp false d (10 ∷ (i ++ rest)) (ends_with false 10 [] refl), ((sym (stmt_due x f.0 i false d), line_laid i rest sp (stmts_start y xs i None more f.1)), open_laid (stmt_and y xs) f.1 i sp false more off))

-- where nothing is written, no newline gives a semicolon
pub open_due : (xs : Stmts U) → FormedStmts xs → (i : List ℕ) → due_of (stmts_layout i None xs) false ≡ last_gives xs
open_due no_stmts f i = refl
open_due (stmt_and x no_stmts) f i = stmt_due x f.0 i false false
open_due (stmt_and x (stmt_and y xs)) f i = open_due (stmt_and y xs) f.1 i

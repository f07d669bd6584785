-- What spells the node that a swap takes away, and what has to spell the one that it puts in.
use Rattle.std.specs.Prelude.{◌≡◌, ℕ, ◌≤◌, Bool, true, false}
use Rattle.go_tree.specs.Tree.{Expr, Stmt, ident, int_lit, rune_lit, str_lit, composite, selector, index, slice, call}
use Rattle.go_tree.specs.Tree.{func_lit, type_operand, unary, binary, star, const_decl, var_decl, empty, eval, step}
use Rattle.go_tree.specs.Tree.{assign, define, return_, break_, continue_, inner, if_, for_, range_, switch, defer}
use Rattle.go_tree.specs.Tree.{label}
use Rattle.go_tree.specs.Bare.{bare_type, bare_expr, bare_stmt}
use Rattle.go_read.specs.SpellsTypes.{Lexemes, type_mark, SpellsType}
use Rattle.go_read.specs.Spells.{is_empty, follows_type, SpellsLiteralType, SpellsBare, SpellsExpr, SpellsStmt}
use Rattle.go_read.specs.Bareness.{nowhere}
use Rattle.go_layout.specs.LayoutLaws.Formed.{is_call}
use Rattle.go_layout.specs.LayoutLaws.Laws.{SpellsWithin}
use Rattle.splice_laws.specs.Swaps.{Swap, an_operand, a_callee, a_type, a_literal_type, a_stmt, a_deferred}

-- what a node has for its span
module _ {S : Type 0} where
  -- what an expression has for its span
  abbrev pub expr_mark : Expr S → S
  expr_mark (ident s _) = s
  expr_mark (int_lit s _) = s
  expr_mark (rune_lit s _) = s
  expr_mark (str_lit s _) = s
  expr_mark (composite s _ _) = s
  expr_mark (selector s _ _) = s
  expr_mark (index s _ _) = s
  expr_mark (slice s _ _ _) = s
  expr_mark (call s _ _ _) = s
  expr_mark (func_lit s _ _ _) = s
  expr_mark (type_operand s _) = s
  expr_mark (unary s _ _) = s
  expr_mark (binary s _ _ _) = s
  expr_mark (star s _) = s

  -- what a statement has for its span
  abbrev pub stmt_mark : Stmt S → S
  stmt_mark (const_decl s _ _) = s
  stmt_mark (var_decl s _ _) = s
  stmt_mark (empty s) = s
  stmt_mark (eval s _) = s
  stmt_mark (step s _ _) = s
  stmt_mark (assign s _ _ _) = s
  stmt_mark (define s _ _) = s
  stmt_mark (return_ s _) = s
  stmt_mark (break_ s _) = s
  stmt_mark (continue_ s _) = s
  stmt_mark (inner s _) = s
  stmt_mark (if_ s _ _) = s
  stmt_mark (for_ s _ _ _ _ _) = s
  stmt_mark (range_ s _ _ _ _) = s
  stmt_mark (switch s _ _ _) = s
  stmt_mark (defer s _) = s
  stmt_mark (label s _ _) = s

  -- of the node that the swap takes away
  abbrev pub swap_mark : Swap S → S
  swap_mark (an_operand _ _ e _) = expr_mark e
  swap_mark (a_callee _ e _) = expr_mark e
  swap_mark (a_type t _) = type_mark t
  swap_mark (a_literal_type _ t _) = type_mark t
  swap_mark (a_stmt x _) = stmt_mark x
  swap_mark (a_deferred e _) = expr_mark e

  -- The tokens spell the node that the swap takes away, without parentheses around it. In parentheses it needs less
  -- than its place says. Behind what is called stands a parenthesis.
  abbrev pub SpellsOld : (Lexemes → Lexemes → S) → Swap S → Lexemes → Lexemes → Type 0
  SpellsOld mark (an_operand l h e _) ts r = (m : ℕ) × (j : Bool) × (m ≤ l) × (j ≡ true → h ≡ true)
      × SpellsBare mark m j e ts r
  SpellsOld mark (a_callee h e _) ts r = (m : ℕ) × (j : Bool) × (j ≡ true → h ≡ true) × (follows_type r ≡ true)
      × SpellsBare mark m j e ts r
  SpellsOld mark (a_type t _) ts r = SpellsType mark t ts r
  SpellsOld mark (a_literal_type h t _) ts r = (j : Bool) × (j ≡ true → h ≡ true) × SpellsLiteralType mark j t ts r
  SpellsOld mark (a_stmt x _) ts r = SpellsStmt mark x ts r
  SpellsOld mark (a_deferred e _) ts r = SpellsBare mark 1 false e ts r

  -- the tokens spell the node that the swap puts in, in any place that needs at most what its place says
  abbrev pub SpellsNew : Swap S → Lexemes → Lexemes → Type 0
  SpellsNew (an_operand l h _ f) ts r = SpellsWithin l h (bare_expr f) ts r
  SpellsNew (a_callee h _ f) ts r = (m : ℕ) (j : Bool) → m ≤ 7 → (j ≡ true → h ≡ true)
      → SpellsExpr nowhere m j (bare_expr f) ts r
  SpellsNew (a_type _ u) ts r = SpellsType nowhere (bare_type u) ts r
  SpellsNew (a_literal_type h _ u) ts r = (j : Bool) → (j ≡ true → h ≡ true)
      → SpellsLiteralType nowhere j (bare_type u) ts r
  SpellsNew (a_stmt _ y) ts r = (is_empty (bare_stmt y) ≡ false) × SpellsStmt nowhere (bare_stmt y) ts r
  SpellsNew (a_deferred _ f) ts r = (is_call (bare_expr f) ≡ true) × SpellsBare nowhere 1 false (bare_expr f) ts r

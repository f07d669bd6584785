-- How the node that a swap puts in is written (go/printer of the Go standard library; Go specification, Operator
-- precedence).
use Rattle.std.specs.Prelude.{◌≡◌, ◌⊎◌, ℕ, Bool, true, false, ◌&&◌, ◌||◌, List}
use Rattle.go_tree.specs.Tree.{TypeExpr, named, Expr}
use Rattle.go_tree.specs.Bare.{bare_type, bare_expr, bare_stmt}
use Rattle.go_layout.specs.Layouts.{Layout, within}
use Rattle.go_layout.specs.TypeLayout.{type_layout}
use Rattle.go_layout.specs.Parens.{needs_parens, is_integer, ends_in_integer, header_within, closed_within}
use Rattle.go_layout.specs.TreeLayout.{expr_layout, stmt_layout, gives_semicolon}
use Rattle.go_layout.specs.LayoutLaws.Formed.{is_call, FormedType, FormedLiteralType, FormedExpr, FormedOperand, FormedStmt}
use Rattle.splice_laws.specs.Swaps.{Swap, an_operand, a_callee, a_type, a_literal_type, a_stmt, a_deferred}

-- a name, perhaps of a package
abbrev pub is_named_type : {S : Type 0} → TypeExpr S → Bool
is_named_type (named _ _ _) = true
is_named_type _ = false

-- Parentheses around an operand: where its place needs them, around an integer before a dot, and where that is said,
-- as around `-x` under `-`.
abbrev pub takes_parens : {S : Type 0} → ℕ → Bool → Bool → Bool → Expr S → Bool
takes_parens level header dotted wrapped f = needs_parens level header false f || ((dotted && is_integer f) || wrapped)

module _ {S : Type 0} where
  -- At this indent; `dotted` says that a dot follows. A layout is the same for trees that differ in their spans
  -- alone.
  abbrev pub new_layout : List ℕ → Bool → Bool → Swap S → Layout
  new_layout i dotted wrapped (an_operand l h _ f) =
      let p = takes_parens l h dotted wrapped (bare_expr f) in within p
      (expr_layout i (header_within p h) (closed_within p false) (bare_expr f))
  new_layout i dotted wrapped (a_callee h _ f) =
      let p = needs_parens 7 h true (bare_expr f) in within p
      (expr_layout i (header_within p h) (closed_within p true) (bare_expr f))
  new_layout i dotted wrapped (a_type _ u) = type_layout (bare_type u)
  new_layout i dotted wrapped (a_literal_type _ _ u) = type_layout (bare_type u)
  new_layout i dotted wrapped (a_stmt _ y) = stmt_layout i false (bare_stmt y)
  new_layout i dotted wrapped (a_deferred _ f) = expr_layout i false false (bare_expr f)

  -- The new node is well formed. A dot follows only what is selected from, and dots follow the last argument of a
  -- call; there the new node ends in no integer. A name is no type of a composite literal in a header. A newline
  -- after a new statement gives a semicolon. What is deferred is a call.
  abbrev pub FormedNew : Bool → Swap S → Type 0
  FormedNew dotted (an_operand l h _ f) = FormedOperand (bare_expr f)
      × (dotted ≡ true → (l ≡ 7) ⊎ (ends_in_integer h false (bare_expr f) ≡ false))
  FormedNew dotted (a_callee _ _ f) = FormedExpr (bare_expr f) × (dotted ≡ false)
  FormedNew dotted (a_type _ u) = FormedType (bare_type u)
  FormedNew dotted (a_literal_type h _ u) = FormedLiteralType (bare_type u)
      × (h ≡ true → is_named_type (bare_type u) ≡ false)
  FormedNew dotted (a_stmt _ y) = FormedStmt (bare_stmt y) × (gives_semicolon (bare_stmt y) ≡ true) × (dotted ≡ false)
  FormedNew dotted (a_deferred _ f) = (is_call (bare_expr f) ≡ true) × FormedExpr (bare_expr f) × (dotted ≡ false)

  -- a newline after the old node gives a semicolon, as it does after each but a label of an empty statement
  abbrev pub AsksOld : Swap S → Type 0
  AsksOld (a_stmt x _) = gives_semicolon x ≡ true
  AsksOld _ = Unit {0}

-- What spells an expression in a place spells it in each place that needs no more.
use Rattle.std.proofs.Common.{◌≡◌, ℕ, ◌≤◌, Bool, true, false, refl, arith}
use Rattle.go_tree.specs.Tree.{TypeExpr, Expr}
use Rattle.go_read.specs.SpellsTypes.{Lexemes}
use Rattle.go_read.specs.Spells.{SpellsLiteralType, SpellsBare, SpellsExpr, SpellsOperand, type_literal_rule, ident_rule, int_rule, rune_rule, text_rule, composite_rule, func_rule, type_rule, selector_rule, index_rule, slice_rule, call_rule, unary_rule, star_rule, binary_rule, bare_rule, parens_rule, operand_rule}

module _ {S : Type 0} (mark : Lexemes → Lexemes → S) where
  literal_outside : {t : TypeExpr S} {ts r : Lexemes} → SpellsLiteralType mark true t ts r → SpellsLiteralType mark false t ts r
  literal_outside (type_literal_rule p d) = type_literal_rule p d

  mutual
    bare_outside : {l : ℕ} {e : Expr S} {ts r : Lexemes} → SpellsBare mark l true e ts r → SpellsBare mark l false e ts r
    bare_outside ident_rule = ident_rule
    bare_outside int_rule = int_rule
    bare_outside rune_rule = rune_rule
    bare_outside text_rule = text_rule
    bare_outside (composite_rule a b) = composite_rule (literal_outside a) b
    bare_outside (func_rule a b) = func_rule a b
    bare_outside (type_rule a b c) = type_rule a b c
    bare_outside (selector_rule a) = selector_rule (operand_outside a)
    bare_outside (index_rule a b) = index_rule (operand_outside a) b
    bare_outside (slice_rule a b c) = slice_rule (operand_outside a) b c
    bare_outside (call_rule a b) = call_rule (expr_outside a) b
    bare_outside (unary_rule a b) = unary_rule a (operand_outside b)
    bare_outside (star_rule a b) = star_rule a (operand_outside b)
    bare_outside (binary_rule a b c) = binary_rule a (operand_outside b) (operand_outside c)

    expr_outside : {l : ℕ} {e : Expr S} {ts r : Lexemes} → SpellsExpr mark l true e ts r → SpellsExpr mark l false e ts r
    expr_outside (bare_rule a) = bare_rule (bare_outside a)
    expr_outside (parens_rule a) = parens_rule a

    operand_outside : {l : ℕ} {e : Expr S} {ts r : Lexemes} → SpellsOperand mark l true e ts r → SpellsOperand mark l false e ts r
    operand_outside (operand_rule p d) = operand_rule p (expr_outside d)

  bare_below : {l m : ℕ} {h : Bool} {e : Expr S} {ts r : Lexemes} → m ≤ l → SpellsBare mark l h e ts r → SpellsBare mark m h e ts r
  bare_below le ident_rule = ident_rule
  bare_below le int_rule = int_rule
  bare_below le rune_rule = rune_rule
  bare_below le text_rule = text_rule
  bare_below le (composite_rule a b) = composite_rule a b
  bare_below le (func_rule a b) = func_rule a b
  bare_below le (type_rule a b c) = type_rule a b c
  bare_below le (selector_rule a) = selector_rule a
  bare_below le (index_rule a b) = index_rule a b
  bare_below le (slice_rule a b c) = slice_rule a b c
  bare_below le (call_rule a b) = call_rule a b
  bare_below le (unary_rule a b) = unary_rule (omega (arith, le, a)) b
  bare_below le (star_rule a b) = star_rule (omega (arith, le, a)) b
  bare_below le (binary_rule a b c) = binary_rule (omega (arith, le, a)) b c

  expr_below : {l m : ℕ} {h : Bool} {e : Expr S} {ts r : Lexemes} → m ≤ l → SpellsExpr mark l h e ts r → SpellsExpr mark m h e ts r
  expr_below le (bare_rule a) = bare_rule (bare_below le a)
  expr_below le (parens_rule a) = parens_rule a

  -- the place needs at most this level and header rule
  pub expr_weak : (l m : ℕ) (h j : Bool) (e : Expr S) (ts r : Lexemes) → m ≤ l → (j ≡ true → h ≡ true) → SpellsExpr mark l h e ts r → SpellsExpr mark m j e ts r
  expr_weak l m true true e ts r le q d = expr_below le d
  expr_weak l m true false e ts r le q d = expr_below le (expr_outside d)
  expr_weak l m false false e ts r le q d = expr_below le d
  expr_weak l m false true e ts r le q d = absurd (nope (q refl))
    where
      nope : false ≡ true → ⊥
      nope e = cc

  pub operand_weak : (l m : ℕ) (h j : Bool) (e : Expr S) (ts r : Lexemes) → m ≤ l → (j ≡ true → h ≡ true) → SpellsOperand mark l h e ts r → SpellsOperand mark m j e ts r
  operand_weak l m h j e ts r le q (operand_rule p d) = operand_rule p (expr_weak l m h j e ts r le q d)

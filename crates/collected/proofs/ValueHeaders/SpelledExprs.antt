-- Literals of well-formed trees are well spelled.
use Rattle.go_tree.specs.declared.spans.Span.{Span}
use Rattle.go_tree.specs.Tree.{Expr, ident, int_lit, rune_lit, str_lit, composite, selector, index, slice, call, func_lit, type_operand, unary, binary, star, Exprs, no_exprs, expr_and, ExprOption, no_expr, some_expr, Elems, no_elems, elem, Value, plain, braced, ValueOption, no_value, some_value}
use Rattle.go_layout.specs.LayoutLaws.Formed.{FormedElems, FormedExpr, FormedExprs, FormedKey, FormedOption, FormedValue}
use Rattle.initial_values.specs.Spelled.{AllHaveGoodLiterals, BoundHasGoodLiterals, ElemsHaveGoodLiterals, HasGoodLiterals, KeyHasGoodLiterals, ValueHasGoodLiterals}
use Rattle.collected.proofs.ValueHeaders.SpelledLiterals.{integer_spelled, rune_spelled, string_spelled}

mutual
  pub expr_spelled : (e : Expr Span) → FormedExpr e → HasGoodLiterals e
  expr_spelled (ident s n) f = tt
  expr_spelled (int_lit s n) f = integer_spelled n f
  expr_spelled (rune_lit s n) f = rune_spelled n f
  expr_spelled (str_lit s n) f = string_spelled n f
  expr_spelled (composite s t es) f = elems_spelled es f.1
  expr_spelled (selector s e n) f = expr_spelled e f.1
  expr_spelled (index s e i) f = (expr_spelled e f.1, expr_spelled i f.3)
  expr_spelled (slice s e i j) f = (expr_spelled e f.1, option_spelled i f.2, option_spelled j f.3)
  expr_spelled (call s g xs r) f = (expr_spelled g f.0, all_spelled xs f.1)
  expr_spelled (func_lit s g b body) f = tt
  expr_spelled (type_operand s t) f = tt
  expr_spelled (unary s op e) f = expr_spelled e f.1
  expr_spelled (binary s op x y) f = (expr_spelled x f.1, expr_spelled y f.3)
  expr_spelled (star s e) f = expr_spelled e f.1

  pub all_spelled : (es : Exprs Span) → FormedExprs es → AllHaveGoodLiterals es
  all_spelled no_exprs f = tt
  all_spelled (expr_and e es) f = (expr_spelled e f.1, all_spelled es f.2)

  option_spelled : (o : ExprOption Span) → FormedOption o → BoundHasGoodLiterals o
  option_spelled no_expr f = tt
  option_spelled (some_expr e) f = expr_spelled e f.1

  elems_spelled : (es : Elems Span) → FormedElems es → ElemsHaveGoodLiterals es
  elems_spelled no_elems f = tt
  elems_spelled (elem s k v es) f = (key_spelled k f.0, value_spelled v f.1, elems_spelled es f.2)

  key_spelled : (k : ValueOption Span) → FormedKey k → KeyHasGoodLiterals k
  key_spelled no_value f = tt
  key_spelled (some_value v) f = value_spelled v f

  value_spelled : (v : Value Span) → FormedValue v → ValueHasGoodLiterals v
  value_spelled (plain e) f = expr_spelled e f.1
  value_spelled (braced s es) f = elems_spelled es f

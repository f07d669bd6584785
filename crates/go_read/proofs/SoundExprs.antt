-- What is read as an expression is spelled so.
use Rattle.std.proofs.Common.{◌≡◌, ℕ, ◌+◌, ◌*◌, ◌<◌, ◌≤◌, Bool, true, false, nat_le, List, [], ◌∷◌, length, Some, None, refl, arith}
use Rattle.std.proofs.lemmas.Bool.Decides.{nat_tests}
use Rattle.go_tree.specs.declared.spans.Span.{Span}
use Rattle.go_tree.specs.declared.operators.BinOp.{BinOp}
use Rattle.go_tree.specs.declared.operators.BinOp.TheVariants.{Mul, Div, Rem, Shl, Shr, And, AndNot, Add, Sub, Or, Xor, Eq, Ne, Lt, Le, Gt, Ge, LogAnd, LogOr}
use Rattle.go_tree.specs.declared.operators.UnOp.{UnOp}
use Rattle.go_tree.specs.declared.operators.UnOp.TheVariants.{Plus, Minus, Not, Flip, Address}
use Rattle.go_tree.specs.declared.exprs.Rest.{Rest}
use Rattle.go_tree.specs.Tree.{TypeExpr, named, Expr, Exprs, ExprOption, Value, ValueOption, ident, int_lit, rune_lit, str_lit, composite, selector, index, slice, call, func_lit, type_operand, star, expr_and, no_expr, some_expr}
use Rattle.go_tree.specs.GoWords.Terminals as terminal
use Rattle.go_tree.specs.GoWords.Terminals.{lex, binary_op, not_, comma, colon, dot, ellipsis, paren, end_paren, bracket, end_bracket, brace, end_brace, key_func, key_map, key_struct, level_of, unary_sign}
use Rattle.go_read.specs.SpellsTypes.{Lexemes, name_here}
use Rattle.go_read.specs.Spells.{is_func_lit, starts_type, SpellsOperand, SpellsOption, SpellsArgs, SpellsLiteralType, named_literal_rule, qualified_literal_rule, type_literal_rule, ident_rule, int_rule, rune_rule, text_rule, composite_rule, func_rule, type_rule, selector_rule, index_rule, slice_rule, call_rule, unary_rule, star_rule, binary_rule, parens_rule, operand_rule, no_expr_rule, some_expr_rule, last_expr_rule, more_exprs_rule, no_args_rule, args_rule, comma_args_rule, rest_args_rule, comma_rest_args_rule, no_elems_rule, last_elem_rule, more_elems_rule, value_rule, keyed_rule, plain_rule, braced_rule}
use Rattle.go_read.specs.Goals.{read_type, read_expr, read_more, read_unary, read_postfix, read_operand, read_exprs, read_args, read_elems, read_elem, read_value}
use Rattle.go_read.specs.Programs.{give, ask, unless}
use Rattle.go_read.specs.ReadExprs.{expr_step, binary_step, more_step, then_postfix, composite_step, word_step, type_after, type_first, prefix_step, unary_step, bracket_high, bracket_after, bracket_step, postfix_step, operand_step, exprs_after, exprs_step, args_after, args_step, elems_after, elems_step, elem_after, elem_step, value_step}
use Rattle.go_read.proofs.Means.{Stops, Low, low_of_stops, Held, held_expr, weaken, Good, Fine, Step, fine_if, fine_unless, fine_end_brace, fine_end_bracket, fine_end_paren}

pub level_most : (op : BinOp) → level_of op ≤ 5
level_most Mul = omega arith
level_most Div = omega arith
level_most Rem = omega arith
level_most Shl = omega arith
level_most Shr = omega arith
level_most And = omega arith
level_most AndNot = omega arith
level_most Add = omega arith
level_most Sub = omega arith
level_most Or = omega arith
level_most Xor = omega arith
level_most Eq = omega arith
level_most Ne = omega arith
level_most Lt = omega arith
level_most Le = omega arith
level_most Gt = omega arith
level_most Ge = omega arith
level_most LogAnd = omega arith
level_most LogOr = omega arith

pub le_true : (a b : ℕ) → nat_le a b ≡ true → a ≤ b
le_true a b e = grind (arith, nat_tests, e)

pub le_false : (a b : ℕ) → nat_le a b ≡ false → b < a
le_false a b e = grind (arith, nat_tests, e)

low_six : (ts : Lexemes) → Low 6 ts
low_six (lex _ (binary_op op) ∷ _) = omega (arith, level_most op)
low_six _ = tt

module _ {S : Type 0} (mark : Lexemes → Lexemes → S) where
  pub expr_fine : (l : ℕ) (h : Bool) (ts : Lexemes) → Step mark (read_expr l h) ts (expr_step mark l h ts)
  unfolding expr_step
  expr_fine l h ts =
      (omega arith, λ x r g. (omega (arith, g.0), λ y r2 k. (omega (arith, g.0, k.0), λ six. k.1 6 six six g.1 (low_six r))))

  binary_fine : (l : ℕ) (h : Bool) (whole : Lexemes) (left : Expr S) (bare : Bool) (s : Span) (op : BinOp) (ts : Lexemes) → l ≤ level_of op → is_func_lit left ≡ false
      → Fine mark (8 * length (lex s (binary_op op) ∷ ts) + 0) (Good mark (read_more l h whole left bare) (lex s (binary_op op) ∷ ts)) (binary_step mark l h whole left op ts)
  binary_fine l h whole left bare s op ts le no_left = (
    omega arith,
    λ x r g. fine_unless mark _ _ (is_func_lit x.0) _ (λ no_right. (
      omega (arith, g.0),
      λ y r2 k. (
        omega (arith, g.0, k.0),
        λ q six lq held low.
            let right = g.1 (omega (arith, level_most op)) in
            k.1 (level_of op) six le
            (binary_rule (omega arith) (operand_rule no_left (held_expr mark bare (level_of op) h left whole (lex s (binary_op op) ∷ ts) (weaken mark bare q (level_of op) h left whole (lex s (binary_op op) ∷ ts) low held)))
            (operand_rule no_right (held_expr mark x.1 (level_of op + 1) h x.0 ts r right.0)))
            (low_of_stops (level_of op) r right.1),
      ),
    )),
  )

  no_more : (l : ℕ) (h : Bool) (whole : Lexemes) (left : Expr S) (bare : Bool) (ts : Lexemes) → Stops l ts → Good mark (read_more l h whole left bare) ts (left, bare) ts
  no_more l h whole left bare ts stops = (omega arith, λ q six lq held low. (weaken mark bare q l h left whole ts lq held, stops))

  pub more_fine : (l : ℕ) (h : Bool) (whole : Lexemes) (left : Expr S) (bare : Bool) (ts : Lexemes) → Step mark (read_more l h whole left bare) ts (more_step mark l h whole left bare ts)
  unfolding more_step
  more_fine l h whole left bare (lex s (binary_op op) ∷ ts) =
      fine_if mark _ _ (nat_le l (level_of op)) _ _
      (λ le. fine_unless mark _ _ (is_func_lit left) _ (λ no_left. binary_fine l h whole left bare s op ts (le_true l (level_of op) le) no_left))
      (λ gt. no_more l h whole left bare (lex s (binary_op op) ∷ ts) (le_false l (level_of op) gt))
  more_fine l h whole left bare [] = no_more l h whole left bare [] tt
  more_fine l h whole left bare (lex s t ∷ ts) = no_more l h whole left bare (lex s t ∷ ts) tt

  -- an operand, and what follows it, read as a unary expression
  based : (h : Bool) (ts : Lexemes) (e : Expr S) (bare : Bool) (r : Lexemes) → length r + 1 ≤ length ts → Held mark bare 7 h e ts r
      → Fine mark (8 * length ts + 1) (Good mark (read_unary h) ts) (then_postfix mark h ts e bare r)
  based h ts e bare r le held = (omega (arith, le), λ y r2 g. (omega (arith, le, g.0), weaken mark y.1 7 6 h y.0 ts r2 (omega arith) (g.1 held)))

  composite_fine : (h : Bool) (ts : Lexemes) (t : TypeExpr S) (b : Span) (mid : Lexemes) → length mid + 2 ≤ length ts → SpellsLiteralType mark h t ts (lex b brace ∷ mid)
      → Fine mark (8 * length ts + 1) (Good mark (read_unary h) ts) (composite_step mark h ts t mid)
  composite_fine h ts t b mid le d = (
    omega (arith, le),
    λ es r g. fine_end_brace mark _ _ (λ z. Good mark read_elems mid es z) r _ g (λ e r g.
        based h ts (composite (mark ts r) t es) true r (omega (arith, le, g.0)) (composite_rule d g.1)),
  )

  word_fine : (h : Bool) (s : Span) (n : List ℕ) (ts : Lexemes) → Fine mark (8 * length (lex s (terminal.ident n) ∷ ts) + 1) (Good mark (read_unary h) (lex s (terminal.ident n) ∷ ts)) (word_step mark h s n ts)
  word_fine false s n (lex b brace ∷ ts) = composite_fine false (lex s (terminal.ident n) ∷ lex b brace ∷ ts) (named (mark (lex s (terminal.ident n) ∷ lex b brace ∷ ts) (lex b brace ∷ ts)) None (name_here mark s n (lex b brace ∷ ts))) b ts (omega arith) named_literal_rule
  word_fine false s p (lex d dot ∷ lex s2 (terminal.ident n) ∷ lex b brace ∷ ts) =
      composite_fine false (lex s (terminal.ident p) ∷ lex d dot ∷ lex s2 (terminal.ident n) ∷ lex b brace ∷ ts)
      (named (mark (lex s (terminal.ident p) ∷ lex d dot ∷ lex s2 (terminal.ident n) ∷ lex b brace ∷ ts) (lex b brace ∷ ts)) (Some (name_here mark s p (lex d dot ∷ lex s2 (terminal.ident n) ∷ lex b brace ∷ ts))) (name_here mark s2 n (lex b brace ∷ ts)))
      b ts (omega arith) qualified_literal_rule
  word_fine h s n ts = based h (lex s (terminal.ident n) ∷ ts) (ident (mark (lex s (terminal.ident n) ∷ ts) ts) n) true ts (omega arith) ident_rule

  type_after_fine : (h : Bool) (ts : Lexemes) (t : TypeExpr S) (r : Lexemes) → starts_type ts ≡ true → Good mark read_type ts t r → Fine mark (8 * length ts + 1) (Good mark (read_unary h) ts) (type_after mark h ts t r)
  type_after_fine h ts t (lex b brace ∷ r) starts g = composite_fine h ts t b r (omega (arith, g.0)) (type_literal_rule starts g.1)
  type_after_fine h ts t (lex b paren ∷ r) starts g = based h ts (type_operand (mark ts (lex b paren ∷ r)) t) true (lex b paren ∷ r) (omega (arith, g.0)) (type_rule starts g.1 refl)
  type_after_fine h ts t (lex b comma ∷ r) starts g = based h ts (type_operand (mark ts (lex b comma ∷ r)) t) true (lex b comma ∷ r) (omega (arith, g.0)) (type_rule starts g.1 refl)
  type_after_fine h ts t (lex b end_paren ∷ r) starts g = based h ts (type_operand (mark ts (lex b end_paren ∷ r)) t) true (lex b end_paren ∷ r) (omega (arith, g.0)) (type_rule starts g.1 refl)
  type_after_fine h ts t _ starts g = tt

  type_first_fine : (h : Bool) (ts : Lexemes) → starts_type ts ≡ true → Fine mark (8 * length ts + 1) (Good mark (read_unary h) ts) (type_first mark h ts)
  type_first_fine h ts starts = (omega arith, λ t r g. type_after_fine h ts t r starts g)

  prefix_fine : (h : Bool) (s : Span) (op : UnOp) (ts : Lexemes)
      → Fine mark (8 * length (lex s (unary_sign op) ∷ ts) + 1) (Good mark (read_unary h) (lex s (unary_sign op) ∷ ts)) (prefix_step mark h (lex s (unary_sign op) ∷ ts) op ts)
  prefix_fine h s op ts =
      (omega arith, λ x r g. fine_unless mark _ _ (is_func_lit x.0) _ (λ free. (omega (arith, g.0), unary_rule (omega arith) (operand_rule free (held_expr mark x.1 6 h x.0 ts r g.1)))))

  star_fine : (h : Bool) (s : Span) (ts : Lexemes)
      → Fine mark (8 * length (lex s (binary_op Mul) ∷ ts) + 1) (Good mark (read_unary h) (lex s (binary_op Mul) ∷ ts)) (ask (read_unary h) ts (λ x r. unless (is_func_lit x.0) (give (star (mark (lex s (binary_op Mul) ∷ ts) r) x.0, true) r)))
  star_fine h s ts =
      (omega arith, λ x r g. fine_unless mark _ _ (is_func_lit x.0) _ (λ free. (omega (arith, g.0), star_rule (omega arith) (operand_rule free (held_expr mark x.1 6 h x.0 ts r g.1)))))

  pub unary_fine : (h : Bool) (ts : Lexemes) → Step mark (read_unary h) ts (unary_step mark h ts)
  unfolding unary_step
  unary_fine h (lex s (terminal.ident n) ∷ ts) = word_fine h s n ts
  unary_fine h (lex s (terminal.int_lit n) ∷ ts) = based h (lex s (terminal.int_lit n) ∷ ts) (int_lit (mark (lex s (terminal.int_lit n) ∷ ts) ts) n) true ts (omega arith) int_rule
  unary_fine h (lex s (terminal.rune_lit n) ∷ ts) = based h (lex s (terminal.rune_lit n) ∷ ts) (rune_lit (mark (lex s (terminal.rune_lit n) ∷ ts) ts) n) true ts (omega arith) rune_rule
  unary_fine h (lex s (terminal.str_lit n) ∷ ts) = based h (lex s (terminal.str_lit n) ∷ ts) (str_lit (mark (lex s (terminal.str_lit n) ∷ ts) ts) n) true ts (omega arith) text_rule
  unary_fine h (lex s paren ∷ ts) = (
    omega arith,
    λ x r g. fine_end_paren mark _ _ (λ z. Good mark (read_expr 1 false) ts x z) r _ g (λ e r g.
        based h (lex s paren ∷ ts) x.0 false r (omega (arith, g.0)) (parens_rule (held_expr mark x.1 1 false x.0 ts (lex e end_paren ∷ r) (g.1 (omega arith)).0))),
  )
  unary_fine h (lex s key_func ∷ ts) =
      (omega arith, λ g mid k. (omega (arith, k.0), λ b r j. based h (lex s key_func ∷ ts) (func_lit (mark (lex s key_func ∷ ts) r) g b.0 b.1) true r (omega (arith, k.0, j.0)) (func_rule k.1 j.1)))
  unary_fine h (lex s bracket ∷ ts) = type_first_fine h (lex s bracket ∷ ts) refl
  unary_fine h (lex s key_map ∷ ts) = type_first_fine h (lex s key_map ∷ ts) refl
  unary_fine h (lex s key_struct ∷ ts) = type_first_fine h (lex s key_struct ∷ ts) refl
  unary_fine h (lex s (binary_op Mul) ∷ ts) = star_fine h s ts
  unary_fine h (lex s (binary_op Add) ∷ ts) = prefix_fine h s Plus ts
  unary_fine h (lex s (binary_op Sub) ∷ ts) = prefix_fine h s Minus ts
  unary_fine h (lex s (binary_op Xor) ∷ ts) = prefix_fine h s Flip ts
  unary_fine h (lex s (binary_op And) ∷ ts) = prefix_fine h s Address ts
  unary_fine h (lex s not_ ∷ ts) = prefix_fine h s Not ts
  unary_fine h _ = tt

  -- an operand with one postfix more, and what follows it
  onward : (h : Bool) (whole : Lexemes) (base : Expr S) (bare : Bool) (ts : Lexemes) (next : Expr S) (r : Lexemes) → length r + 1 ≤ length ts → (Held mark bare 7 h base whole ts → Held mark true 7 h next whole r)
      → Fine mark (8 * length ts + 0) (Good mark (read_postfix h whole base bare) ts) (then_postfix mark h whole next true r)
  onward h whole base bare ts next r le k = (omega (arith, le), λ y r2 g. (omega (arith, le, g.0), λ held. g.1 (k held)))

  operand_of : (h : Bool) (whole : Lexemes) (base : Expr S) (bare : Bool) (ts : Lexemes) → is_func_lit base ≡ false → Held mark bare 7 h base whole ts → SpellsOperand mark 7 h base whole ts
  operand_of h whole base bare ts free held = operand_rule free (held_expr mark bare 7 h base whole ts held)

  bracket_high_fine : (h : Bool) (whole : Lexemes) (base : Expr S) (bare : Bool) (s c : Span) (ts : Lexemes) (low : ExprOption S) (mid : Lexemes) → is_func_lit base ≡ false
      → length mid + 1 ≤ length ts → SpellsOption mark false low ts (lex c colon ∷ mid)
      → Fine mark (8 * length (lex s bracket ∷ ts) + 0) (Good mark (read_postfix h whole base bare) (lex s bracket ∷ ts)) (bracket_high mark h whole base low mid)
  bracket_high_fine h whole base bare s c ts low (lex e end_bracket ∷ r) free le d =
      onward h whole base bare (lex s bracket ∷ ts) (slice (mark whole r) base low no_expr) r (omega (arith, le)) (λ held. slice_rule (operand_of h whole base bare (lex s bracket ∷ ts) free held) d no_expr_rule)
  bracket_high_fine h whole base bare s c ts low mid free le d = (
    omega (arith, le),
    λ x r g. fine_end_bracket mark _ _ (λ z. Good mark (read_operand false) mid x z) r _ g (λ e r g.
        onward h whole base bare (lex s bracket ∷ ts) (slice (mark whole r) base low (some_expr x)) r (omega (arith, le, g.0)) (λ held. slice_rule (operand_of h whole base bare (lex s bracket ∷ ts) free held) d (some_expr_rule g.1))),
  )

  bracket_after_fine : (h : Bool) (whole : Lexemes) (base : Expr S) (bare : Bool) (s : Span) (ts : Lexemes) (x : Expr S) (r : Lexemes) → is_func_lit base ≡ false → Good mark (read_operand false) ts x r
      → Fine mark (8 * length (lex s bracket ∷ ts) + 0) (Good mark (read_postfix h whole base bare) (lex s bracket ∷ ts)) (bracket_after mark h whole base x r)
  bracket_after_fine h whole base bare s ts x (lex e end_bracket ∷ r) free g =
      onward h whole base bare (lex s bracket ∷ ts) (index (mark whole r) base x) r (omega (arith, g.0)) (λ held. index_rule (operand_of h whole base bare (lex s bracket ∷ ts) free held) g.1)
  bracket_after_fine h whole base bare s ts x (lex c colon ∷ r) free g = bracket_high_fine h whole base bare s c ts (some_expr x) r free (omega (arith, g.0)) (some_expr_rule g.1)
  bracket_after_fine h whole base bare s ts x _ free g = tt

  bracket_fine : (h : Bool) (whole : Lexemes) (base : Expr S) (bare : Bool) (s : Span) (ts : Lexemes) → is_func_lit base ≡ false
      → Fine mark (8 * length (lex s bracket ∷ ts) + 0) (Good mark (read_postfix h whole base bare) (lex s bracket ∷ ts)) (bracket_step mark h whole base ts)
  bracket_fine h whole base bare s (lex c colon ∷ ts) free = bracket_high_fine h whole base bare s c (lex c colon ∷ ts) no_expr ts free (omega arith) no_expr_rule
  bracket_fine h whole base bare s ts free = (omega arith, λ x r g. bracket_after_fine h whole base bare s ts x r free g)

  pub postfix_fine : (h : Bool) (whole : Lexemes) (base : Expr S) (bare : Bool) (ts : Lexemes) → Step mark (read_postfix h whole base bare) ts (postfix_step mark h whole base bare ts)
  unfolding postfix_step
  postfix_fine h whole base bare (lex s paren ∷ ts) =
      (omega arith, λ x r g. onward h whole base bare (lex s paren ∷ ts) (call (mark whole r) base x.0 x.1) r (omega (arith, g.0)) (λ held. call_rule (held_expr mark bare 7 h base whole (lex s paren ∷ ts) held) g.1))
  postfix_fine h whole base bare (lex d dot ∷ lex s (terminal.ident n) ∷ r) =
      fine_unless mark _ _ (is_func_lit base) _ (λ free. onward h whole base bare (lex d dot ∷ lex s (terminal.ident n) ∷ r) (selector (mark whole r) base (name_here mark s n r)) r (omega arith) (λ held. selector_rule (operand_of h whole base bare (lex d dot ∷ lex s (terminal.ident n) ∷ r) free held)))
  postfix_fine h whole base bare (lex s bracket ∷ ts) = fine_unless mark _ _ (is_func_lit base) _ (λ free. bracket_fine h whole base bare s ts free)
  postfix_fine h whole base bare _ = (omega arith, λ held. held)

  pub operand_fine : (h : Bool) (ts : Lexemes) → Step mark (read_operand h) ts (operand_step mark h ts)
  unfolding operand_step
  operand_fine h ts =
      (omega arith, λ x r g. fine_unless mark _ _ (is_func_lit x.0) _ (λ free. (g.0, operand_rule free (held_expr mark x.1 1 h x.0 ts r (g.1 (omega arith)).0))))

  exprs_after_fine : (h : Bool) (ts : Lexemes) (e : Expr S) (r : Lexemes) → Good mark (read_operand h) ts e r → Fine mark (8 * length ts + 4) (Good mark (read_exprs h) ts) (exprs_after mark h e r)
  exprs_after_fine h ts e (lex c comma ∷ r) g = (omega (arith, g.0), λ es r k. (omega (arith, g.0, k.0), more_exprs_rule g.1 k.1))
  exprs_after_fine h ts e r g = (g.0, last_expr_rule g.1)

  pub exprs_fine : (h : Bool) (ts : Lexemes) → Step mark (read_exprs h) ts (exprs_step mark h ts)
  unfolding exprs_step
  exprs_fine h ts = (omega arith, λ e r g. exprs_after_fine h ts e r g)

  -- an argument before others
  args_and : {e : Expr S} {c : Span} {xs : Exprs S} {rest : Rest} {ts mid r : Lexemes} → SpellsOperand mark 1 false e ts (lex c comma ∷ mid) → SpellsArgs mark xs rest mid r → SpellsArgs mark (expr_and e xs) rest ts r
  args_and d no_args_rule = comma_args_rule (last_expr_rule d)
  args_and d (args_rule k) = args_rule (more_exprs_rule d k)
  args_and d (comma_args_rule k) = comma_args_rule (more_exprs_rule d k)
  args_and d (rest_args_rule k) = rest_args_rule (more_exprs_rule d k)
  args_and d (comma_rest_args_rule k) = comma_rest_args_rule (more_exprs_rule d k)

  args_after_fine : (ts : Lexemes) (e : Expr S) (r : Lexemes) → Good mark (read_operand false) ts e r → Fine mark (8 * length ts + 4) (Good mark read_args ts) (args_after mark e r)
  args_after_fine ts e (lex c comma ∷ r) g = (omega (arith, g.0), λ x r k. (omega (arith, g.0, k.0), args_and g.1 k.1))
  args_after_fine ts e (lex c end_paren ∷ r) g = (omega (arith, g.0), args_rule (last_expr_rule g.1))
  args_after_fine ts e (lex d ellipsis ∷ lex c end_paren ∷ r) g = (omega (arith, g.0), rest_args_rule (last_expr_rule g.1))
  args_after_fine ts e (lex d ellipsis ∷ lex b comma ∷ lex c end_paren ∷ r) g = (omega (arith, g.0), comma_rest_args_rule (last_expr_rule g.1))
  args_after_fine ts e _ g = tt

  pub args_fine : (ts : Lexemes) → Step mark read_args ts (args_step mark ts)
  unfolding args_step
  args_fine (lex c end_paren ∷ r) = (omega arith, no_args_rule)
  args_fine ts = (omega arith, λ e r g. args_after_fine ts e r g)

  elems_after_fine : (ts : Lexemes) (x : ValueOption S × Value S) (r : Lexemes) → Good mark read_elem ts x r → Fine mark (8 * length ts + 6) (Good mark read_elems ts) (elems_after mark ts x r)
  elems_after_fine ts x (lex c comma ∷ r) g = (omega (arith, g.0), λ es r k. (omega (arith, g.0, k.0), more_elems_rule g.1 k.1))
  elems_after_fine ts x r g = (omega (arith, g.0), last_elem_rule g.1)

  pub elems_fine : (ts : Lexemes) → Step mark read_elems ts (elems_step mark ts)
  unfolding elems_step
  elems_fine (lex c end_brace ∷ ts) = (omega arith, no_elems_rule)
  elems_fine ts = (omega arith, λ x r g. elems_after_fine ts x r g)

  elem_after_fine : (ts : Lexemes) (v : Value S) (r : Lexemes) → Good mark read_value ts v r → Fine mark (8 * length ts + 5) (Good mark read_elem ts) (elem_after mark v r)
  elem_after_fine ts v (lex c colon ∷ r) g = (omega (arith, g.0), λ w r k. (omega (arith, g.0, k.0), keyed_rule g.1 k.1))
  elem_after_fine ts v r g = (g.0, value_rule g.1)

  pub elem_fine : (ts : Lexemes) → Step mark read_elem ts (elem_step mark ts)
  unfolding elem_step
  elem_fine ts = (omega arith, λ v r g. elem_after_fine ts v r g)

  pub value_fine : (ts : Lexemes) → Step mark read_value ts (value_step mark ts)
  unfolding value_step
  value_fine (lex s brace ∷ ts) =
      (omega arith, λ es r g. fine_end_brace mark _ _ (λ z. Good mark read_elems ts es z) r _ g (λ e r g. (omega (arith, g.0), braced_rule g.1)))
  value_fine ts = (omega arith, λ e r g. (g.0, plain_rule g.1))

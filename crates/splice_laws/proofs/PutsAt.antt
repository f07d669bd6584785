-- The node of a swap with other tokens in its place.
use Rattle.std.proofs.Common.{◌≡◌, ℕ, ◌+◌, ◌≤◌, Bool, true, false, [], ◌∷◌, refl, sym, subst, arith}
use Rattle.go_tree.specs.declared.spans.Span.{Span}
use Rattle.go_tree.specs.declared.operators.BinOp.{BinOp}
use Rattle.go_tree.specs.declared.operators.BinOp.TheVariants.{Mul, Div, Rem, Shl, Shr, And, AndNot, Add, Sub, Or, Xor, Eq, Ne, Lt, Le, Gt, Ge, LogAnd, LogOr}
use Rattle.go_tree.specs.Tree.{TypeExpr, Expr, Stmt, Stmts, defer}
use Rattle.go_tree.specs.Bare.{bare_type, bare_expr, bare_stmt}
use Rattle.go_tree.specs.GoWords.Terminals.{lex, comma, paren, end_paren, key_defer, level_of}
use Rattle.go_read.specs.SpellsTypes.{Lexemes, type_mark, SpellsType, named_rule, qualified_rule, pointer_rule, slice_type_rule, map_type_rule, struct_type_rule, type_parens_rule}
use Rattle.go_read.specs.Spells.{is_func_lit, is_empty, starts_type, follows_type, SpellsLiteralType, SpellsBare, SpellsExpr, SpellsOperand, SpellsSimple, SpellsStmt, SpellsBlock, ident_rule, int_rule, rune_rule, text_rule, composite_rule, func_rule, type_rule, selector_rule, index_rule, slice_rule, call_rule, unary_rule, star_rule, binary_rule, bare_rule, parens_rule, operand_rule, eval_rule, increment_rule, decrement_rule, assign_rule, define_rule, empty_rule, simple_rule, const_rule, var_rule, return_rule, return_values_rule, break_rule, break_label_rule, continue_rule, continue_label_rule, block_rule, if_rule, while_rule, for_rule, range_rule, switch_rule, defer_rule, label_rule, braces_rule}
use Rattle.go_read.specs.Bareness.{nowhere}
use Rattle.splice_laws.specs.Swaps.{Swap, an_operand, a_callee, a_type, a_literal_type, a_stmt, a_deferred, PartOfExpr, in_literal_type, in_elems, in_func_body, in_signature, in_type_operand, in_selected, in_indexed, in_index, in_sliced, in_low, in_high, in_called, in_args, in_unary, in_star, in_left, in_right, SimpleIn, in_eval, in_step, in_assigned, in_assign, in_define, PartOfStmt, in_simple, in_const, in_var, in_return, in_block, in_arms, in_else, in_for_first, in_for_test, in_for_post, in_for_body, in_range_left, in_range, in_range_body, in_switch_first, in_tag, in_cases, in_deferred, in_deferred_args, this_deferred, in_label}
use Rattle.splice_laws.specs.Fits.{expr_mark, stmt_mark, swap_mark, SpellsOld, SpellsNew}
use Rattle.go_layout.proofs.LayoutLaws.SpelledParts.{deferred}
use Rattle.splice_laws.specs.Ends.{ends_node}
use Rattle.splice_laws.proofs.Grafts.{U, Like, Graft, base, step}

-- ---- numbers

pub own_le : (n : ℕ) → n ≤ n
own_le n = omega arith

pub one_1 : 1 ≤ 1
one_1 = omega arith

pub one_6 : 1 ≤ 6
one_6 = omega arith

pub one_7 : 1 ≤ 7
one_7 = omega arith

pub one_level : (o : BinOp) → 1 ≤ level_of o
one_level Mul = omega arith
one_level Div = omega arith
one_level Rem = omega arith
one_level Shl = omega arith
one_level Shr = omega arith
one_level And = omega arith
one_level AndNot = omega arith
one_level Add = omega arith
one_level Sub = omega arith
one_level Or = omega arith
one_level Xor = omega arith
one_level Eq = omega arith
one_level Ne = omega arith
one_level Lt = omega arith
one_level Le = omega arith
one_level Gt = omega arith
one_level Ge = omega arith
one_level LogAnd = omega arith
one_level LogOr = omega arith

pub one_next : (o : BinOp) → 1 ≤ level_of o + 1
one_next o = omega arith

pub off : false ≡ true → false ≡ true
off e = e

pub never : {X : Type 0} → false ≡ true → X
never e = absurd cc

pub follows_ends : (r : Lexemes) → follows_type r ≡ true → ends_node r ≡ true
follows_ends [] q = absurd cc
follows_ends (lex s paren ∷ r) q = refl
follows_ends (lex s comma ∷ r) q = refl
follows_ends (lex s end_paren ∷ r) q = refl
follows_ends (lex s _ ∷ r) q = absurd (never q)

-- ---- a swap where it is made

-- the new node's tokens stand for the old one's, whatever they are
pub record PutIn {S : Type 0} (mark : Lexemes → Lexemes → S) (w : Swap S) (A : Lexemes → Lexemes → Type 0) (ts r : Lexemes) : Type 0 where
  pub node : Lexemes
  pub rest : Lexemes
  pub old : SpellsOld mark w node rest
  pub marked : swap_mark w ≡ mark node rest
  pub ends : (us : Lexemes) × Graft node node ts us
  pub follows : ends_node rest ≡ true
  pub new : (others : Lexemes) → SpellsNew w others rest → (us : Lexemes) × Graft node others ts us × A us r

module _ {S : Type 0} (mark : Lexemes → Lexemes → S) (w : Swap S) where
  abbrev Put : (Lexemes → Lexemes → Type 0) → Lexemes → Lexemes → Type 0
  Put A ts r = PutIn mark w A ts r

  pub forget : {A : Lexemes → Lexemes → Type 0} {ts r : Lexemes} → Put (λ us q. Like ts us × A us q) ts r → Put A ts r
  forget x = record { node = x.node; rest = x.rest; old = x.old; marked = x.marked; follows = x.follows; ends = x.ends; new = λ n f. let z = x.new n f in (z.0, z.1, z.2.1) }

  pub block_fine : {b : S} {xs : Stmts S} {ts r : Lexemes} → SpellsBlock mark b xs ts r → ends_node ts ≡ true
  block_fine (braces_rule d) = refl

  -- ---- spans

  pub bare_mark : {l : ℕ} {h : Bool} {e : Expr S} {ts r : Lexemes} → SpellsBare mark l h e ts r → expr_mark e ≡ mark ts r
  bare_mark ident_rule = refl
  bare_mark int_rule = refl
  bare_mark rune_rule = refl
  bare_mark text_rule = refl
  bare_mark (composite_rule a b) = refl
  bare_mark (func_rule a b) = refl
  bare_mark (type_rule a b c) = refl
  bare_mark (selector_rule a) = refl
  bare_mark (index_rule a b) = refl
  bare_mark (slice_rule a b c) = refl
  bare_mark (call_rule a b) = refl
  bare_mark (unary_rule a b) = refl
  bare_mark (star_rule a b) = refl
  bare_mark (binary_rule a b c) = refl

  simple_mark : {h : Bool} {x : Stmt S} {ts r : Lexemes} → SpellsSimple mark h x ts r → stmt_mark x ≡ mark ts r
  simple_mark (eval_rule a) = refl
  simple_mark (increment_rule a) = refl
  simple_mark (decrement_rule a) = refl
  simple_mark (assign_rule a b) = refl
  simple_mark (define_rule a b) = refl

  pub the_stmt_mark : {x : Stmt S} {ts r : Lexemes} → SpellsStmt mark x ts r → stmt_mark x ≡ mark ts r
  the_stmt_mark empty_rule = refl
  the_stmt_mark (simple_rule a) = simple_mark a
  the_stmt_mark (const_rule a) = refl
  the_stmt_mark (var_rule a) = refl
  the_stmt_mark return_rule = refl
  the_stmt_mark (return_values_rule a) = refl
  the_stmt_mark break_rule = refl
  the_stmt_mark break_label_rule = refl
  the_stmt_mark continue_rule = refl
  the_stmt_mark continue_label_rule = refl
  the_stmt_mark (block_rule (braces_rule a)) = refl
  the_stmt_mark (if_rule a) = refl
  the_stmt_mark (while_rule a b) = refl
  the_stmt_mark (for_rule a b c d) = refl
  the_stmt_mark (range_rule a b c) = refl
  the_stmt_mark (switch_rule a b c) = refl
  the_stmt_mark (defer_rule a) = refl
  the_stmt_mark (label_rule a) = refl

  -- a type that begins with a bracket stands in no parentheses
  pub bracket_mark : {t : TypeExpr S} {ts r : Lexemes} → SpellsType mark t ts r → starts_type ts ≡ true → type_mark t ≡ mark ts r
  bracket_mark named_rule q = refl
  bracket_mark qualified_rule q = refl
  bracket_mark (pointer_rule a) q = refl
  bracket_mark (slice_type_rule a) q = refl
  bracket_mark (map_type_rule a b) q = refl
  bracket_mark (struct_type_rule a) q = refl
  bracket_mark (type_parens_rule a) q = never q

  -- ---- the node itself

  pub type_now : {t u : TypeExpr S} {ts r : Lexemes} → w ≡ a_type t u → type_mark t ≡ mark ts r → SpellsType mark t ts r → ends_node r ≡ true → Put (SpellsType nowhere (bare_type u)) ts r
  type_now {t} {u} {ts} {r} e m d k = record {
    node = ts;
    rest = r;
    old = subst (λ (v : Swap S). SpellsOld mark v ts r) (sym e) d;
    marked = subst (λ (v : Swap S). swap_mark v ≡ mark ts r) (sym e) m;
    ends = (ts, base);
    follows = k;
    new = λ n f. (n, base, subst (λ (v : Swap S). SpellsNew v n r) e f);
  }

  pub literal_now : {h j : Bool} {t u : TypeExpr S} {ts r : Lexemes} → w ≡ a_literal_type h t u → (j ≡ true → h ≡ true) → type_mark t ≡ mark ts r → SpellsLiteralType mark j t ts r → ends_node r ≡ true → Put (SpellsLiteralType nowhere j (bare_type u)) ts r
  literal_now {h} {j} {t} {u} {ts} {r} e q m d k = record {
    node = ts;
    rest = r;
    old = subst (λ (v : Swap S). SpellsOld mark v ts r) (sym e) (j, q, d);
    marked = subst (λ (v : Swap S). swap_mark v ≡ mark ts r) (sym e) m;
    ends = (ts, base);
    follows = k;
    new = λ n f. (n, base, subst (λ (v : Swap S). SpellsNew v n r) e f j q);
  }

  pub stmt_now : {x y : Stmt S} {ts r : Lexemes} → w ≡ a_stmt x y → SpellsStmt mark x ts r → ends_node r ≡ true → Put (λ us q. (is_empty (bare_stmt y) ≡ false) × SpellsStmt nowhere (bare_stmt y) us q) ts r
  stmt_now {x} {y} {ts} {r} e d k = record {
    node = ts;
    rest = r;
    old = subst (λ (v : Swap S). SpellsOld mark v ts r) (sym e) d;
    marked = subst (λ (v : Swap S). swap_mark v ≡ mark ts r) (sym e) (the_stmt_mark d);
    ends = (ts, base);
    follows = k;
    new = λ n f. let g = subst (λ (v : Swap S). SpellsNew v n r) e f in (n, base, (g.0, g.1));
  }

  pub callee_here : {m : ℕ} {h j : Bool} {e f : Expr S} {ts r : Lexemes} → SpellsExpr mark m j e ts r → w ≡ a_callee h e f → m ≤ 7 → (j ≡ true → h ≡ true) → follows_type r ≡ true → Put (SpellsExpr nowhere m j (bare_expr f)) ts r
  callee_here {m} {h} {j} {e} {f} {ts} {r} (bare_rule d) q le on k = record {
    node = ts;
    rest = r;
    old = subst (λ (v : Swap S). SpellsOld mark v ts r) (sym q) (m, j, on, k, d);
    marked = subst (λ (v : Swap S). swap_mark v ≡ mark ts r) (sym q) (bare_mark d);
    ends = (ts, base);
    follows = follows_ends r k;
    new = λ n g. (n, base, subst (λ (v : Swap S). SpellsNew v n r) q g m j le on);
  }
  callee_here (parens_rule {s = s} d) q le on k =
      let x = callee_here d q (omega arith) (λ e. never e) refl in
      record { node = x.node; rest = x.rest; old = x.old; marked = x.marked; follows = x.follows; ends = let z = x.ends in (lex s paren ∷ z.0, step z.1); new = λ n f. let z = x.new n f in (lex s paren ∷ z.0, step z.1, parens_rule z.2) }

  pub operand_here : {l m : ℕ} {h j : Bool} {e f : Expr S} {ts r : Lexemes} → SpellsExpr mark m j e ts r → w ≡ an_operand l h e f → 1 ≤ l → m ≤ l → (j ≡ true → h ≡ true) → ends_node r ≡ true → Put (SpellsOperand nowhere m j (bare_expr f)) ts r
  operand_here {l} {m} {h} {j} {e} {f} {ts} {r} (bare_rule d) q one le on k = record {
    node = ts;
    rest = r;
    old = subst (λ (v : Swap S). SpellsOld mark v ts r) (sym q) (m, j, le, on, d);
    marked = subst (λ (v : Swap S). swap_mark v ≡ mark ts r) (sym q) (bare_mark d);
    ends = (ts, base);
    follows = k;
    new = λ n g. (n, base, subst (λ (v : Swap S). SpellsNew v n r) q g m j le on);
  }
  operand_here (parens_rule {s = s} d) q one le on k =
      let x = operand_here d q one one (λ e. never e) refl in
      record { node = x.node; rest = x.rest; old = x.old; marked = x.marked; follows = x.follows; ends = let z = x.ends in (lex s paren ∷ z.0, step z.1); new = λ n f. let z = x.new n f in (lex s paren ∷ z.0, step z.1, in_parens z.2) }
    where
      in_parens : {m : ℕ} {j : Bool} {s c : Span} {e : Expr U} {us q : Lexemes} → SpellsOperand nowhere 1 false e us (lex c end_paren ∷ q) → SpellsOperand nowhere m j e (lex s paren ∷ us) q
      in_parens (operand_rule p d) = operand_rule p (parens_rule d)

  pub deferred_here : {s : Span} {e f : Expr S} {ts r : Lexemes} → SpellsBare mark 1 false e ts r → w ≡ a_deferred e f → ends_node r ≡ true → Put (SpellsStmt nowhere (defer tt (bare_expr f))) (lex s key_defer ∷ ts) r
  deferred_here {s} {e} {f} {ts} {r} d q k = record {
    node = ts;
    rest = r;
    old = subst (λ (v : Swap S). SpellsOld mark v ts r) (sym q) d;
    marked = subst (λ (v : Swap S). swap_mark v ≡ mark ts r) (sym q) (bare_mark d);
    ends = (lex s key_defer ∷ ts, step base);
    follows = k;
    new = λ n g. let x = subst (λ (v : Swap S). SpellsNew v n r) q g in (lex s key_defer ∷ n, step base, deferred (bare_expr f) n r s x.0 x.1);
  }

  -- ---- what stays so

  pub keeps_literal : {h : Bool} {e f : Expr S} → PartOfExpr w h e f → is_func_lit e ≡ false → is_func_lit (bare_expr f) ≡ false
  keeps_literal (in_literal_type p) q = refl
  keeps_literal (in_elems p) q = refl
  keeps_literal (in_func_body p) q = q
  keeps_literal (in_signature p) q = q
  keeps_literal (in_type_operand p) q = refl
  keeps_literal (in_selected p) q = refl
  keeps_literal (in_indexed p) q = refl
  keeps_literal (in_index p) q = refl
  keeps_literal (in_sliced p) q = refl
  keeps_literal (in_low p) q = refl
  keeps_literal (in_high p) q = refl
  keeps_literal (in_called p) q = refl
  keeps_literal (in_args p) q = refl
  keeps_literal (in_unary p) q = refl
  keeps_literal (in_star p) q = refl
  keeps_literal (in_left p) q = refl
  keeps_literal (in_right p) q = refl

  pub keeps_full : {x y : Stmt S} → PartOfStmt w x y → is_empty x ≡ false → is_empty (bare_stmt y) ≡ false
  keeps_full (in_simple p) q = simple_full p
    where
      simple_full : {h : Bool} {x y : Stmt S} → SimpleIn w h x y → is_empty (bare_stmt y) ≡ false
      simple_full (in_eval p) = refl
      simple_full (in_step p) = refl
      simple_full (in_assigned p) = refl
      simple_full (in_assign p) = refl
      simple_full (in_define p) = refl
  keeps_full (in_const p) q = refl
  keeps_full (in_var p) q = refl
  keeps_full (in_return p) q = refl
  keeps_full (in_block p) q = refl
  keeps_full (in_arms p) q = refl
  keeps_full (in_else p) q = refl
  keeps_full (in_for_first p) q = refl
  keeps_full (in_for_test p) q = refl
  keeps_full (in_for_post p) q = refl
  keeps_full (in_for_body p) q = refl
  keeps_full (in_range_left p) q = refl
  keeps_full (in_range p) q = refl
  keeps_full (in_range_body p) q = refl
  keeps_full (in_switch_first p) q = refl
  keeps_full (in_tag p) q = refl
  keeps_full (in_cases p) q = refl
  keeps_full (in_deferred p) q = refl
  keeps_full (in_deferred_args p) q = refl
  keeps_full (this_deferred p) q = refl
  keeps_full (in_label p) q = refl

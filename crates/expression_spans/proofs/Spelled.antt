-- The spans of the expressions that tokens spell stand in their order, parts before their whole.
use Rattle.std.proofs.Common.{ℕ, Bool, List, ◌∷◌, ◌++◌, Option, refl}
use Rattle.go_tree.specs.declared.spans.Span.{Span}
use Rattle.go_tree.specs.declared.exprs.Rest.{Rest}
use Rattle.go_tree.specs.Tree.{NameAt, TypeExpr, Expr, Exprs, ExprOption, Elems, Value, ValueOption, Stmt, Stmts}
use Rattle.go_tree.specs.Tree.{StmtOption, BlockOption, RangeLeft, Arms, Cases, ValueSpecs}
use Rattle.go_tree.specs.GoWords.Terminals.{lex, ident, int_lit, rune_lit, str_lit, end_paren}
use Rattle.go_tree.specs.GoWords.Terminals.{end_bracket, end_brace}
use Rattle.go_read.specs.SpellsTypes.{Lexemes, SpellsType, SpellsNames, named_rule, qualified_rule, pointer_rule}
use Rattle.go_read.specs.SpellsTypes.{slice_type_rule, map_type_rule, struct_type_rule, type_parens_rule}
use Rattle.go_read.specs.SpellsTypes.{last_name_rule, more_names_rule}
use Rattle.go_read.specs.SpellsSpans.{start_of, span_to}
use Rattle.go_read.specs.Spells.{SpellsBare, SpellsExpr, SpellsOperand, SpellsOption, SpellsExprs, SpellsArgs}
use Rattle.go_read.specs.Spells.{SpellsElems, SpellsElem, SpellsValue, SpellsSimple, SpellsPart, SpellsFirst}
use Rattle.go_read.specs.Spells.{SpellsStmt, SpellsBlock, SpellsStmts, SpellsIf, SpellsArm, SpellsLeft, SpellsCases}
use Rattle.go_read.specs.Spells.{SpellsDecl, SpellsSpecs, SpellsSpec, ident_rule, int_rule, rune_rule, text_rule}
use Rattle.go_read.specs.Spells.{composite_rule, func_rule, type_rule, selector_rule, index_rule, slice_rule, call_rule}
use Rattle.go_read.specs.Spells.{unary_rule, star_rule, binary_rule, bare_rule, parens_rule, operand_rule, no_expr_rule}
use Rattle.go_read.specs.Spells.{some_expr_rule, last_expr_rule, more_exprs_rule, no_args_rule, args_rule}
use Rattle.go_read.specs.Spells.{comma_args_rule, rest_args_rule, comma_rest_args_rule, no_elems_rule, last_elem_rule}
use Rattle.go_read.specs.Spells.{more_elems_rule, value_rule, keyed_rule, plain_rule, braced_rule, eval_rule}
use Rattle.go_read.specs.Spells.{increment_rule, decrement_rule, assign_rule, define_rule, no_part_rule, part_rule}
use Rattle.go_read.specs.Spells.{no_first_rule, first_rule, empty_rule, simple_rule, const_rule, var_rule, return_rule}
use Rattle.go_read.specs.Spells.{return_values_rule, break_rule, break_label_rule, continue_rule, continue_label_rule}
use Rattle.go_read.specs.Spells.{block_rule, if_rule, while_rule, for_rule, range_rule, switch_rule, defer_rule}
use Rattle.go_read.specs.Spells.{label_rule, braces_rule, no_stmts_rule, last_stmt_rule, more_stmts_rule}
use Rattle.go_read.specs.Spells.{only_arm_rule, else_rule, else_if_rule, arm_rule, no_left_rule, assigns_rule}
use Rattle.go_read.specs.Spells.{defines_rule, no_cases_rule, case_rule, default_rule, single_rule, group_rule}
use Rattle.go_read.specs.Spells.{no_specs_rule, last_spec_rule, more_specs_rule, repeated_rule, typed_var_rule}
use Rattle.go_read.specs.Spells.{values_rule, typed_values_rule}
use Rattle.go_read.proofs.Suffixes.{Suffix, whole, after, type_suffix, fields_suffix, names_suffix, sig_suffix}
use Rattle.go_read.proofs.Suffixes.{literal_suffix, operand_suffix, expr_suffix, option_suffix, exprs_suffix}
use Rattle.go_read.proofs.Suffixes.{elems_suffix, value_suffix, part_suffix, first_suffix, stmt_suffix, block_suffix}
use Rattle.go_read.proofs.Suffixes.{stmts_suffix, if_suffix, arm_suffix, left_suffix, cases_suffix}
use Rattle.go_read.proofs.Suffixes.{specs_suffix, spec_suffix, elem_suffix}
use Rattle.expression_spans.specs.Spans.{expr_spans, exprs_spans, option_spans, elems_spans, key_spans, value_spans}
use Rattle.expression_spans.specs.Spans.{stmt_spans, stmts_spans, first_spans, block_spans, left_spans, arms_spans}
use Rattle.expression_spans.specs.Spans.{cases_spans, specs_spans}
use Rattle.expression_spans.proofs.TokensLie.{Lie, rest-of, Full, full, More, more, onto, skip}
use Rattle.expression_spans.proofs.TokensLie.{full-more, full-on, lie-on, past-more, itself, starts-up}
use Rattle.expression_spans.proofs.Ascents.{place, Stand, empty, lower}
use Rattle.expression_spans.proofs.Parts.{Op, Ends, Closed, To, ends-nil, none-to, behind-one, before-one}
use Rattle.expression_spans.proofs.Parts.{two, next, op-ends, ends-to, op-to, closed-to, closed-ends, ends-on, closed-on}
use Rattle.expression_spans.proofs.Parts.{no-ends, ends-up, tail, leaf, closing, late, between, within, a-type, sign-plain}

-- ---- what has tokens

type_more : {t : TypeExpr Span} {ts r : Lexemes} → SpellsType span_to t ts r → More r ts
type_more named_rule = more whole
type_more qualified_rule = more (after (after whole))
type_more (pointer_rule d) = more (type_suffix span_to d)
type_more (slice_type_rule d) = more (after (type_suffix span_to d))
type_more (map_type_rule d k) = more (after (onto (type_suffix span_to k) (skip (type_suffix span_to d))))
type_more (struct_type_rule d) = more (after (skip (fields_suffix span_to d)))
type_more (type_parens_rule d) = more (skip (type_suffix span_to d))

names_more : {ns : List (NameAt Span)} {ts r : Lexemes} → SpellsNames span_to ns ts r → More r ts
names_more last_name_rule = more whole
names_more (more_names_rule d) = more (after (names_suffix span_to d))

-- ---- closing tokens

close-with : {c : Span} {xs : List Span} {ts r : Lexemes} → Suffix (lex c end_paren ∷ r) ts →
    Stand (start_of ts) xs (place c.start) → Closed xs ts r
close-with {c} a q = record { close = c; word = end_paren; written = refl; upto = a; stand = q }

close-bracket : {c : Span} {xs : List Span} {ts r : Lexemes} → Suffix (lex c end_bracket ∷ r) ts →
    Stand (start_of ts) xs (place c.start) → Closed xs ts r
close-bracket {c} a q = record { close = c; word = end_bracket; written = refl; upto = a; stand = q }

close-brace : {c : Span} {xs : List Span} {ts r : Lexemes} → Suffix (lex c end_brace ∷ r) ts →
    Stand (start_of ts) xs (place c.start) → Closed xs ts r
close-brace {c} a q = record { close = c; word = end_brace; written = refl; upto = a; stand = q }

close-name : {c : Span} {n : List ℕ} {xs : List Span} {ts r : Lexemes} → Suffix (lex c (ident n) ∷ r) ts →
    Stand (start_of ts) xs (place c.start) → Closed xs ts r
close-name {c} {n} a q = record { close = c; word = ident n; written = refl; upto = a; stand = q }

-- ---- expressions and statements

mutual
  bare_op : {l : ℕ} {h : Bool} {e : Expr Span} {ts r : Lexemes} → SpellsBare span_to l h e ts r → Lie ts →
      Op (expr_spans e) ts r
  bare_op (ident_rule {s = s} {n = n}) g = leaf s (ident n) refl g
  bare_op (int_rule {s = s} {n = n}) g = leaf s (int_lit n) refl g
  bare_op (rune_rule {s = s} {n = n}) g = leaf s (rune_lit n) refl g
  bare_op (text_rule {s = s} {n = n}) g = leaf s (str_lit n) refl g
  bare_op (composite_rule d k) g =
      let a = literal_suffix span_to d in
      let c = elems_suffix span_to k in
      closing g (closed-on (skip a) g (close-brace c (elems_to k (lie-on (skip a) g) full)))
  bare_op (func_rule d k) g =
      let a = after (sig_suffix span_to d) in closing g (closed-on a g (block_closed k (lie-on a g)))
  bare_op (type_rule p d q) g = a-type p (type_more d) g
  bare_op (selector_rule {d = d} d1) g =
      let a = operand_suffix span_to d1 in
      closing g (close-name (skip a) (before-one d a g full (op-to g full (operand_op d1 g))))
  bare_op (index_rule d k) g =
      let a = operand_suffix span_to d in
      let c = operand_suffix span_to k in
      let ga = lie-on (skip a) g in
      closing g
      (close-bracket (onto c (skip a))
      (two a g (full-on c full) (op-to g full (operand_op d g)) (op-to ga full (operand_op k ga))))
  bare_op (slice_rule d i j) g =
      let a = operand_suffix span_to d in
      let b = option_suffix span_to i in
      let c = option_suffix span_to j in
      let ga = lie-on (skip a) g in
      let gb = lie-on (skip b) ga in
      closing g
      (close-bracket (onto (onto c (skip b)) (skip a))
      (two b ga (full-on c full)
      (two a g (full-on b full) (op-to g full (operand_op d g)) (option_to i ga full)) (option_to j gb full)))
  bare_op (call_rule d k) g =
      let a = expr_suffix span_to d in
      let c = args_closed k (lie-on (skip a) g) in
      closing g
      (record {
        close = c.close;
        word = c.word;
        written = c.written;
        upto = onto c.upto (skip a);
        stand = two a g (full-on c.upto full) (op-to g full (expr_op d g)) c.stand;
      })
  bare_op (unary_rule {op = op} p d) g = late (sign-plain op) g (operand_op d (rest-of g))
  bare_op (star_rule p d) g = late refl g (operand_op d (rest-of g))
  bare_op (binary_rule p d k) g =
      let a = operand_suffix span_to d in between refl a g (operand_op d g) (operand_op k (lie-on (skip a) g))

  expr_op : {l : ℕ} {h : Bool} {e : Expr Span} {ts r : Lexemes} → SpellsExpr span_to l h e ts r → Lie ts →
      Op (expr_spans e) ts r
  expr_op (bare_rule d) g = bare_op d g
  expr_op (parens_rule d) g = within refl (expr_suffix span_to d) g (expr_op d (rest-of g))

  operand_op : {l : ℕ} {h : Bool} {e : Expr Span} {ts r : Lexemes} → SpellsOperand span_to l h e ts r → Lie ts →
      Op (expr_spans e) ts r
  operand_op (operand_rule p d) g = expr_op d g

  option_to : {h : Bool} {o : ExprOption Span} {ts r : Lexemes} → SpellsOption span_to h o ts r → Lie ts → Full r →
      To (option_spans o) ts r
  option_to no_expr_rule g f = none-to
  option_to (some_expr_rule d) g f = op-to g f (operand_op d g)

  exprs_ends : {h : Bool} {xs : Exprs Span} {ts r : Lexemes} → SpellsExprs span_to h xs ts r → Lie ts →
      Ends (exprs_spans xs) ts r
  exprs_ends (last_expr_rule d) g = ends-nil (op-ends (operand_op d g))
  exprs_ends (more_exprs_rule d k) g =
      let a = operand_suffix span_to d in
      let rest = exprs_ends k (lie-on (skip a) g) in
      let all = ends-on (skip a) g rest in
      record {
        has = all.has;
        stand = ends-up (skip a) rest.has (two a g (full-more rest.has) (op-to g full (operand_op d g)) rest.stand);
      }

  args_closed : {xs : Exprs Span} {rest : Rest} {ts r : Lexemes} → SpellsArgs span_to xs rest ts r → Lie ts →
      Closed (exprs_spans xs) ts r
  args_closed no_args_rule g = close-with whole (empty itself)
  args_closed (args_rule d) g = close-with (exprs_suffix span_to d) (ends-to g full (exprs_ends d g))
  args_closed (comma_args_rule {c = c} d) g =
      let a = exprs_suffix span_to d in
      close-with (skip a) (before-one c a g full (ends-to g full (exprs_ends d g)))
  args_closed (rest_args_rule {d = d} d1) g =
      let a = exprs_suffix span_to d1 in
      close-with (skip a) (before-one d a g full (ends-to g full (exprs_ends d1 g)))
  args_closed (comma_rest_args_rule {d = d} {c = c} d1) g =
      let a = exprs_suffix span_to d1 in
      close-with (skip (skip a))
      (before-one c (skip a) g full (before-one d a g full (ends-to g full (exprs_ends d1 g))))

  elems_to : {es : Elems Span} {ts r : Lexemes} → SpellsElems span_to es ts r → Lie ts → Full r →
      To (elems_spans es) ts r
  elems_to no_elems_rule g f = none-to
  elems_to (last_elem_rule d) g f = next (elem_to d g f) none-to
  elems_to (more_elems_rule d k) g f =
      let a = elem_suffix span_to d in
      two a g (full-on (elems_suffix span_to k) f) (elem_to d g full) (elems_to k (lie-on (skip a) g) f)

  elem_to : {k : ValueOption Span} {v : Value Span} {ts r : Lexemes} → SpellsElem span_to k v ts r → Lie ts →
      Full r → To (key_spans k ++ value_spans v) ts r
  elem_to (value_rule d) g f = op-to g f (value_op d g)
  elem_to (keyed_rule d k) g f =
      let a = value_suffix span_to d in
      let ga = lie-on (skip a) g in
      two a g (full-on (value_suffix span_to k) f) (op-to g full (value_op d g)) (op-to ga f (value_op k ga))

  value_op : {v : Value Span} {ts r : Lexemes} → SpellsValue span_to v ts r → Lie ts → Op (value_spans v) ts r
  value_op (plain_rule d) g = operand_op d g
  value_op (braced_rule d) g =
      let a = elems_suffix span_to d in
      closing g (close-brace (after a) (behind-one g (full-on a full) (elems_to d (rest-of g) full)))

  simple_to : {h : Bool} {x : Stmt Span} {ts r : Lexemes} → SpellsSimple span_to h x ts r → Lie ts → Full r →
      To (stmt_spans x) ts r
  simple_to (eval_rule d) g f = op-to g f (operand_op d g)
  simple_to (increment_rule {s = s} d) g f =
      before-one s (operand_suffix span_to d) g f (op-to g full (operand_op d g))
  simple_to (decrement_rule {s = s} d) g f =
      before-one s (operand_suffix span_to d) g f (op-to g full (operand_op d g))
  simple_to (assign_rule d k) g f =
      let a = exprs_suffix span_to d in
      let ga = lie-on (skip a) g in
      two a g (full-on (exprs_suffix span_to k) f) (ends-to g full (exprs_ends d g)) (ends-to ga f (exprs_ends k ga))
  simple_to (define_rule d k) g f =
      let a = skip (names_suffix span_to d) in ends-to g f (ends-on a g (exprs_ends k (lie-on a g)))

  part_to : {i : StmtOption Span} {ts r : Lexemes} → SpellsPart span_to i ts r → Lie ts → Full r →
      To (first_spans i) ts r
  part_to no_part_rule g f = none-to
  part_to (part_rule d) g f = simple_to d g f

  first_to : {i : StmtOption Span} {ts r : Lexemes} → SpellsFirst span_to i ts r → Lie ts → Full r →
      To (first_spans i) ts r
  first_to no_first_rule g f = none-to
  first_to (first_rule {s = s} d) g f = before-one s (part_suffix span_to d) g f (part_to d g full)

  stmt_to : {x : Stmt Span} {ts r : Lexemes} → SpellsStmt span_to x ts r → Lie ts → Full r → To (stmt_spans x) ts r
  stmt_to empty_rule g f = none-to
  stmt_to (simple_rule d) g f = simple_to d g f
  stmt_to (const_rule d) g f = tail g f (decl_ends d (rest-of g))
  stmt_to (var_rule d) g f = tail g f (decl_ends d (rest-of g))
  stmt_to return_rule g f = empty (starts-up (after whole) g f)
  stmt_to (return_values_rule d) g f = tail g f (exprs_ends d (rest-of g))
  stmt_to break_rule g f = empty (starts-up (after whole) g f)
  stmt_to break_label_rule g f = empty (starts-up (after (after whole)) g f)
  stmt_to continue_rule g f = empty (starts-up (after whole) g f)
  stmt_to continue_label_rule g f = empty (starts-up (after (after whole)) g f)
  stmt_to (block_rule d) g f = closed-to g f (block_closed d g)
  stmt_to (if_rule d) g f = if_to d g f
  stmt_to (while_rule d k) g f =
      let a = option_suffix span_to d in
      let fm = full-on (block_suffix span_to k) f in
      behind-one g (full-on a fm)
      (next (next (option_to d (rest-of g) fm) none-to)
      (closed-to (lie-on a (rest-of g)) f (block_closed k (lie-on a (rest-of g)))))
  stmt_to (for_rule i t p b) g f =
      let wi = part_suffix span_to i in
      let wt = option_suffix span_to t in
      let wp = part_suffix span_to p in
      let ga = rest-of g in
      let gt = lie-on (skip wi) ga in
      let gp = lie-on (skip wt) gt in
      let gb = lie-on wp gp in
      let fb = full-on (block_suffix span_to b) f in
      behind-one g (full-on wi full)
      (next
      (two wt gt (full-on wp fb) (two wi ga (full-on wt full) (part_to i ga full) (option_to t gt full))
      (part_to p gp fb)) (closed-to gb f (block_closed b gb)))
  stmt_to (range_rule l e b) g f =
      let wl = left_suffix span_to l in
      let we = operand_suffix span_to e in
      let ga = rest-of g in
      let ge = lie-on (skip wl) ga in
      let gb = lie-on we ge in
      let fb = full-on (block_suffix span_to b) f in
      behind-one g (full-on wl full)
      (next (two wl ga (full-on we fb) (left_to l ga full) (op-to ge fb (operand_op e ge)))
      (closed-to gb f (block_closed b gb)))
  stmt_to (switch_rule {e = e} i t cs) g f =
      let wi = first_suffix span_to i in
      let wt = option_suffix span_to t in
      let wc = cases_suffix span_to cs in
      let ga = rest-of g in
      let gt = lie-on wi ga in
      let gc = lie-on (skip wt) gt in
      behind-one g (full-on wi (full-on wt full))
      (two wt gt (full-on wc full) (next (first_to i ga (full-on wt full)) (option_to t gt full))
      (before-one e wc gc f (cases_to cs gc full)))
  stmt_to (defer_rule d) g f = tail g f (op-ends (bare_op d (rest-of g)))
  stmt_to (label_rule d) g f =
      let fm = full-on (stmt_suffix span_to d) f in
      lower (starts-up (after (after whole)) g fm) (stmt_to d (rest-of (rest-of g)) f)

  pub block_closed : {s : Span} {b : Stmts Span} {ts r : Lexemes} → SpellsBlock span_to s b ts r → Lie ts →
      Closed (stmts_spans b) ts r
  block_closed (braces_rule d) g =
      let a = stmts_suffix span_to d in
      close-brace (after a) (behind-one g (full-on a full) (stmts_to d (rest-of g) full))

  stmts_to : {b : Stmts Span} {ts r : Lexemes} → SpellsStmts span_to b ts r → Lie ts → Full r →
      To (stmts_spans b) ts r
  stmts_to no_stmts_rule g f = none-to
  stmts_to (last_stmt_rule p d) g f = next (stmt_to d g f) none-to
  stmts_to (more_stmts_rule d k) g f =
      let a = stmt_suffix span_to d in
      two a g (full-on (stmts_suffix span_to k) f) (stmt_to d g full) (stmts_to k (lie-on (skip a) g) f)

  if_to : {bs : Arms Span} {z : BlockOption Span} {ts r : Lexemes} → SpellsIf span_to bs z ts r → Lie ts → Full r →
      To (arms_spans (block_spans z) bs) ts r
  if_to (only_arm_rule d) g f = next (arm_to d g f) none-to
  if_to (else_rule d k) g f =
      let a = arm_suffix span_to d in
      let gb = lie-on (skip a) g in
      two a g (full-on (block_suffix span_to k) f) (arm_to d g full) (closed-to gb f (block_closed k gb))
  if_to (else_if_rule d k) g f =
      let a = arm_suffix span_to d in
      two a g (full-on (if_suffix span_to k) f) (arm_to d g full) (if_to k (lie-on (skip a) g) f)

  arm_to : {i : StmtOption Span} {t : Expr Span} {s : Span} {b : Stmts Span} {ts r : Lexemes} →
      SpellsArm span_to i t s b ts r → Lie ts → Full r →
      To (first_spans i ++ expr_spans t ++ stmts_spans b) ts r
  arm_to (arm_rule i t b) g f =
      let wi = first_suffix span_to i in
      let wt = operand_suffix span_to t in
      let ga = rest-of g in
      let gt = lie-on wi ga in
      let gb = lie-on wt gt in
      let fb = full-on (block_suffix span_to b) f in
      behind-one g (full-on wi (full-on wt fb))
      (next (next (first_to i ga (full-on wt fb)) (op-to gt fb (operand_op t gt))) (closed-to gb f (block_closed b gb)))

  left_to : {x : RangeLeft Span} {ts r : Lexemes} → SpellsLeft span_to x ts r → Lie ts → Full r →
      To (left_spans x) ts r
  left_to no_left_rule g f = none-to
  left_to (assigns_rule {s = s} d) g f =
      before-one s (exprs_suffix span_to d) g f (ends-to g full (exprs_ends d g))
  left_to (defines_rule d) g f = empty (starts-up (skip (names_suffix span_to d)) g f)

  cases_to : {cs : Cases Span} {ts r : Lexemes} → SpellsCases span_to cs ts r → Lie ts → Full r →
      To (cases_spans cs) ts r
  cases_to no_cases_rule g f = none-to
  cases_to (case_rule x b cs) g f =
      let wx = exprs_suffix span_to x in
      let wb = stmts_suffix span_to b in
      let ga = rest-of g in
      let gb = lie-on (skip wx) ga in
      let fm = full-on (cases_suffix span_to cs) f in
      behind-one g (full-on wx full)
      (next (two wx ga (full-on wb fm) (ends-to ga full (exprs_ends x ga)) (stmts_to b gb fm))
      (cases_to cs (lie-on wb gb) f))
  cases_to (default_rule b cs) g f =
      let wb = stmts_suffix span_to b in
      let gb = rest-of (rest-of g) in
      let fm = full-on (cases_suffix span_to cs) f in
      lower (starts-up (after (after whole)) g (full-on wb fm)) (next (stmts_to b gb fm) (cases_to cs (lie-on wb gb) f))

  pub decl_ends : {constant grouped : Bool} {ss : ValueSpecs Span} {ts r : Lexemes} →
      SpellsDecl span_to constant grouped ss ts r → Lie ts → Ends (specs_spans ss) ts r
  decl_ends (single_rule d) g = ends-nil (spec_ends d g)
  decl_ends (group_rule d) g =
      let a = specs_suffix span_to d in
      closed-ends g (close-with (after a) (behind-one g (full-on a full) (specs_to d (rest-of g) full)))

  specs_to : {constant : Bool} {ss : ValueSpecs Span} {ts r : Lexemes} → SpellsSpecs span_to constant ss ts r →
      Lie ts → Full r → To (specs_spans ss) ts r
  specs_to no_specs_rule g f = none-to
  specs_to (last_spec_rule d) g f = next (ends-to g f (spec_ends d g)) none-to
  specs_to (more_specs_rule d k) g f =
      let a = spec_suffix span_to d in
      two a g (full-on (specs_suffix span_to k) f) (ends-to g full (spec_ends d g)) (specs_to k (lie-on (skip a) g) f)

  spec_ends : {constant : Bool} {ns : List (NameAt Span)} {t : Option (TypeExpr Span)} {xs : Exprs Span}
      {ts r : Lexemes} → SpellsSpec span_to constant ns t xs ts r → Lie ts → Ends (exprs_spans xs) ts r
  spec_ends (repeated_rule d) g = no-ends (names_more d) g
  spec_ends (typed_var_rule d k) g = no-ends (past-more (names_more d) (type_suffix span_to k)) g
  spec_ends (values_rule d k) g =
      let a = skip (names_suffix span_to d) in ends-on a g (exprs_ends k (lie-on a g))
  spec_ends (typed_values_rule d t k) g =
      let a = skip (onto (type_suffix span_to t) (names_suffix span_to d)) in ends-on a g (exprs_ends k (lie-on a g))

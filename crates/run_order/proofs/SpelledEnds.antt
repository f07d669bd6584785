-- The parts of a tree that tokens spell stand one behind the other: where what may be a use ends.
use Rattle.std.proofs.Common.{◌≤◌, arith, ℕ, Bool, List, ◌∷◌, Option}
use Rattle.go_tree.specs.declared.spans.Span.{Span}
use Rattle.go_tree.specs.declared.exprs.Rest.{Rest}
use Rattle.go_tree.specs.Tree.{NameAt, TypeExpr, Expr, Exprs, ExprOption, no_expr, some_expr, Elems, Value, ValueOption, Stmt, Stmts, StmtOption, no_stmt, some_stmt, BlockOption, RangeLeft, Arms, Cases, ValueSpecs}
use Rattle.go_tree.specs.File.{TypeSpec, Receiver, Decl, File}
use Rattle.go_tree.specs.GoWords.Terminals.{Lexeme, lex, ident}
use Rattle.go_read.specs.SpellsTypes.{Lexemes}
use Rattle.go_read.specs.SpellsSpans.{start_of, span_to}
use Rattle.go_read.specs.Spells.{SpellsBare, SpellsExpr, SpellsOperand, SpellsOption, SpellsExprs, SpellsArgs, SpellsElems, SpellsElem, SpellsValue, SpellsSimple, SpellsPart, SpellsFirst, SpellsStmt, SpellsBlock, SpellsStmts, SpellsIf, SpellsArm, SpellsLeft, SpellsCases, SpellsDecl, SpellsSpecs, SpellsSpec, ident_rule, int_rule, rune_rule, text_rule, composite_rule, func_rule, type_rule, selector_rule, index_rule, slice_rule, call_rule, unary_rule, star_rule, binary_rule, bare_rule, parens_rule, operand_rule, no_expr_rule, some_expr_rule, last_expr_rule, more_exprs_rule, no_args_rule, args_rule, comma_args_rule, rest_args_rule, comma_rest_args_rule, no_elems_rule, last_elem_rule, more_elems_rule, value_rule, keyed_rule, plain_rule, braced_rule, eval_rule, increment_rule, decrement_rule, assign_rule, define_rule, no_part_rule, part_rule, no_first_rule, first_rule, empty_rule, simple_rule, const_rule, var_rule, return_rule, return_values_rule, break_rule, break_label_rule, continue_rule, continue_label_rule, block_rule, if_rule, while_rule, for_rule, range_rule, switch_rule, defer_rule, label_rule, braces_rule, no_stmts_rule, last_stmt_rule, more_stmts_rule, only_arm_rule, else_rule, else_if_rule, arm_rule, no_left_rule, assigns_rule, defines_rule, no_cases_rule, case_rule, default_rule, single_rule, group_rule, no_specs_rule, last_spec_rule, more_specs_rule, repeated_rule, typed_var_rule, values_rule, typed_values_rule}
use Rattle.go_read.specs.SpellsFiles.{SpellsTypeSpec, SpellsTypeSpecs, SpellsReceiver, SpellsTop, SpellsTops, SpellsFront, type_spec_rule, alias_spec_rule, no_type_specs_rule, last_type_spec_rule, more_type_specs_rule, receiver_rule, pointer_receiver_rule, named_receiver_rule, named_pointer_receiver_rule, top_const_rule, top_var_rule, top_type_rule, top_type_group_rule, top_func_rule, top_method_rule, no_tops_rule, more_tops_rule, front_rule}
use Rattle.splice_laws.proofs.Grafts.{Within, here, later, drop, both_within}
use Rattle.splice_laws.proofs.Pasts.{type_past, names_past, sig_past, literal_past, operand_past, expr_past, bare_past, option_past, exprs_past, elems_past, elem_past, value_past, part_past, first_past, stmt_past, block_past, stmts_past, if_past, arm_past, left_past, cases_past, decl_past, specs_past, spec_past, type_spec_past, type_specs_past, receiver_past, top_past, imports_past}
use Rattle.order_runs.proofs.RunSteps.TokenPlaces.{Full, full, le-le, itself, full-within, starts-up}
use Rattle.order_runs.proofs.RunSteps.SpanPlaces.{One, Two}
use Rattle.run_order.proofs.EndPlaces.{Ends, Closed, OneType, ExprIn, OpIn, ExprsIn, OptionIn, ElemsIn, KeyIn, ValueIn, StmtIn, StmtsIn, BodyIn, FirstIn, BlockIn, LeftIn, ArmsIn, ArmIn, CasesIn, SpecsIn, ValuesIn, TypesIn, DeclIn, DeclsIn}
use Rattle.run_order.proofs.TokenEnds.{Stands, rest-of, stands-within, ends-at, closed, exact, two, next, behind-one, before-one, within-one}
use Rattle.run_order.proofs.SpelledTypes.{type_in, sig_in, literal_in, names_in}

-- ---- parts of expressions

first-before : {x : Lexeme} {r ts : Lexemes} (i : StmtOption Span) → Within (x ∷ r) ts → Stands ts → Full r
    → FirstIn (start_of ts) (start_of (x ∷ r)) i → FirstIn (start_of ts) (start_of r) i
first-before no_stmt w g f h = tt
first-before (some_stmt s) w g f h = before-one w g f h

option-before : {x : Lexeme} {r ts : Lexemes} (o : ExprOption Span) → Within (x ∷ r) ts → Stands ts → Full r
    → OptionIn (start_of ts) (start_of (x ∷ r)) o → OptionIn (start_of ts) (start_of r) o
option-before no_expr w g f h = tt
option-before (some_expr e) w g f h = before-one w g f h

mutual
  bare_in : {l : ℕ} {h : Bool} {e : Expr Span} {ts r : Lexemes} → SpellsBare span_to l h e ts r → Stands ts → Full r
      → ExprIn (start_of ts) (start_of r) e
  bare_in ident_rule g f = ends-at here g f (λ e. cc)
  bare_in int_rule g f = tt
  bare_in rune_rule g f = tt
  bare_in text_rule g f = tt
  bare_in (composite_rule d k) g f =
      let a = literal_past span_to _ d here in
      let c = elems_past span_to _ k here in
      two a (drop c) g f (literal_in d g full) (before-one c (stands-within (drop a) g) f (exact (elems_in k (stands-within (drop a) g) full)))
  bare_in (func_rule d k) g f =
      let a = sig_past span_to _ d here in
      let c = block_past span_to _ k here in
      let fm = full-within c f in
      behind-one g (full-within a fm) (exact (next a c (rest-of g) f (sig_in d (rest-of g) fm) (block_in k (stands-within a (rest-of g)) f)))
  bare_in (type_rule p d q) g f = type_in d g f
  bare_in (selector_rule d) g f = let a = operand_past span_to _ d here in closed (drop a) g f (λ e. cc) (before-one a g full (operand_in d g full))
  bare_in (index_rule d k) g f =
      let a = operand_past span_to _ d here in
      let c = operand_past span_to _ k here in
      two a (drop c) g f (operand_in d g full) (before-one c (stands-within (drop a) g) f (operand_in k (stands-within (drop a) g) full))
  bare_in (slice_rule {j = o} d i j) g f =
      let a = operand_past span_to _ d here in
      let b = option_past span_to _ i here in
      let c = option_past span_to _ j here in
      let ga = stands-within (drop a) g in
      let gc = stands-within (drop b) ga in
      two (both_within b (drop a)) (drop c) g f (two a b g full (operand_in d g full) (option_in i ga full)) (option-before o c gc f (option_in j gc full))
  bare_in (call_rule {f = e} d k) g f = let a = expr_past span_to _ d here in call_in e k a g f (expr_in d g full)
  bare_in (unary_rule p d) g f = let c = operand_past span_to _ d here in behind-one g (full-within c f) (operand_in d (rest-of g) f)
  bare_in (star_rule p d) g f = let c = operand_past span_to _ d here in behind-one g (full-within c f) (operand_in d (rest-of g) f)
  bare_in (binary_rule p d k) g f =
      let a = operand_past span_to _ d here in
      two a (operand_past span_to _ k here) g f (operand_in d g full) (operand_in k (stands-within (drop a) g) f)

  expr_in : {l : ℕ} {h : Bool} {e : Expr Span} {ts r : Lexemes} → SpellsExpr span_to l h e ts r → Stands ts → Full r
      → OpIn (start_of ts) (start_of r) e
  expr_in (bare_rule d) g f = exact (bare_in d g f)
  expr_in (parens_rule d) g f =
      let a = expr_past span_to _ d here in
      behind-one g (full-within a full) (before-one a (rest-of g) f (expr_in d (rest-of g) full))

  operand_in : {l : ℕ} {h : Bool} {e : Expr Span} {ts r : Lexemes} → SpellsOperand span_to l h e ts r → Stands ts
      → Full r → OpIn (start_of ts) (start_of r) e
  operand_in (operand_rule p d) g f = expr_in d g f

  option_in : {h : Bool} {o : ExprOption Span} {ts r : Lexemes} → SpellsOption span_to h o ts r → Stands ts → Full r
      → OptionIn (start_of ts) (start_of r) o
  option_in no_expr_rule g f = tt
  option_in (some_expr_rule d) g f = operand_in d g f

  exprs_in : {h : Bool} {xs : Exprs Span} {ts r : Lexemes} → SpellsExprs span_to h xs ts r → Stands ts → Full r
      → ExprsIn (start_of ts) (start_of r) xs
  exprs_in (last_expr_rule d) g f = next (operand_past span_to _ d here) here g f (operand_in d g f) tt
  exprs_in (more_exprs_rule d k) g f = let a = operand_past span_to _ d here in two a (exprs_past span_to _ k here) g f (operand_in d g full) (exprs_in k (stands-within (drop a) g) f)

  call_in : (e : Expr Span) {xs : Exprs Span} {rest : Rest} {x : Lexeme} {mid ts r : Lexemes}
      → SpellsArgs span_to xs rest mid r → Within (x ∷ mid) ts → Stands ts → Full r
      → OpIn (start_of ts) (start_of (x ∷ mid)) e
      → Closed (span_to ts r) (start_of ts) (start_of r) (λ v w. Two v w (λ a c. OpIn a c e) (λ d h. One d h (λ y z. ExprsIn y z xs)))
  call_in e no_args_rule a g f p = closed (drop a) g f (λ z. cc) (two a here g full p (exact tt))
  call_in e (args_rule d) a g f p =
      let w = exprs_past span_to _ d here in
      closed (both_within w (drop a)) g f (λ z. cc) (two a w g full p (exact (exprs_in d (stands-within (drop a) g) full)))
  call_in e (comma_args_rule d) a g f p =
      let w = exprs_past span_to _ d here in
      closed (both_within (drop w) (drop a)) g f (λ z. cc) (two a (drop w) g full p (before-one w (stands-within (drop a) g) full (exact (exprs_in d (stands-within (drop a) g) full))))
  call_in e (rest_args_rule d) a g f p =
      let w = exprs_past span_to _ d here in
      closed (both_within (drop w) (drop a)) g f (λ z. cc) (two a (drop w) g full p (before-one w (stands-within (drop a) g) full (exact (exprs_in d (stands-within (drop a) g) full))))
  call_in e (comma_rest_args_rule d) a g f p =
      let w = exprs_past span_to _ d here in
      closed (both_within (drop (drop w)) (drop a)) g f (λ z. cc)
      (two a (drop (drop w)) g full p (before-one (drop w) (stands-within (drop a) g) full (before-one w (stands-within (drop a) g) full (exact (exprs_in d (stands-within (drop a) g) full)))))

  elems_in : {es : Elems Span} {ts r : Lexemes} → SpellsElems span_to es ts r → Stands ts → Full r
      → ElemsIn (start_of ts) (start_of r) es
  elems_in no_elems_rule g f = tt
  elems_in (last_elem_rule d) g f = next (elem_past span_to _ d here) here g f (elem_in d g f) tt
  elems_in (more_elems_rule d k) g f = let a = elem_past span_to _ d here in two a (elems_past span_to _ k here) g f (elem_in d g full) (elems_in k (stands-within (drop a) g) f)

  elem_in : {k : ValueOption Span} {v : Value Span} {ts r : Lexemes} → SpellsElem span_to k v ts r → Stands ts
      → Full r → Two (start_of ts) (start_of r) (λ c d. KeyIn c d k) (λ c d. ValueIn c d v)
  elem_in (value_rule d) g f = next here (value_past span_to _ d here) g f tt (value_in d g f)
  elem_in (keyed_rule d k) g f = let a = value_past span_to _ d here in two a (value_past span_to _ k here) g f (value_in d g full) (value_in k (stands-within (drop a) g) f)

  value_in : {v : Value Span} {ts r : Lexemes} → SpellsValue span_to v ts r → Stands ts → Full r
      → ValueIn (start_of ts) (start_of r) v
  value_in (plain_rule d) g f = operand_in d g f
  value_in (braced_rule d) g f =
      let a = elems_past span_to _ d here in
      behind-one g (full-within a full) (before-one a (rest-of g) f (exact (elems_in d (rest-of g) full)))

  simple_in : {h : Bool} {x : Stmt Span} {ts r : Lexemes} → SpellsSimple span_to h x ts r → Stands ts → Full r
      → StmtIn (start_of ts) (start_of r) x
  simple_in (eval_rule d) g f = operand_in d g f
  simple_in (increment_rule d) g f = before-one (operand_past span_to _ d here) g f (operand_in d g full)
  simple_in (decrement_rule d) g f = before-one (operand_past span_to _ d here) g f (operand_in d g full)
  simple_in (assign_rule d k) g f = let a = exprs_past span_to _ d here in two a (exprs_past span_to _ k here) g f (exprs_in d g full) (exprs_in k (stands-within (drop a) g) f)
  simple_in (define_rule d k) g f = let a = names_past span_to _ d here in two a (exprs_past span_to _ k here) g f (names_in d g full) (exprs_in k (stands-within (drop a) g) f)

  part_in : {i : StmtOption Span} {ts r : Lexemes} → SpellsPart span_to i ts r → Stands ts → Full r
      → FirstIn (start_of ts) (start_of r) i
  part_in no_part_rule g f = tt
  part_in (part_rule d) g f = exact (simple_in d g f)

  first_in : {i : StmtOption Span} {ts r : Lexemes} → SpellsFirst span_to i ts r → Stands ts → Full r
      → FirstIn (start_of ts) (start_of r) i
  first_in no_first_rule g f = tt
  first_in (first_rule {i = i} d) g f = first-before i (part_past span_to _ d here) g f (part_in d g full)

  stmt_in : {x : Stmt Span} {ts r : Lexemes} → SpellsStmt span_to x ts r → Stands ts → Full r
      → StmtIn (start_of ts) (start_of r) x
  stmt_in empty_rule g f = tt
  stmt_in (simple_rule d) g f = simple_in d g f
  stmt_in (const_rule d) g f = behind-one g (full-within (decl_past span_to _ d here) f) (decl_in d (rest-of g) f)
  stmt_in (var_rule d) g f = behind-one g (full-within (decl_past span_to _ d here) f) (decl_in d (rest-of g) f)
  stmt_in return_rule g f = exact tt
  stmt_in (return_values_rule d) g f = behind-one g (full-within (exprs_past span_to _ d here) f) (exact (exprs_in d (rest-of g) f))
  stmt_in break_rule g f = tt
  stmt_in break_label_rule g f = tt
  stmt_in continue_rule g f = tt
  stmt_in continue_label_rule g f = tt
  stmt_in (block_rule d) g f = block_in d g f
  stmt_in (if_rule d) g f = if_in d g f
  stmt_in (while_rule d k) g f =
      let a = option_past span_to _ d here in
      let c = block_past span_to _ k here in
      let ga = (rest-of g) in
      let fm = full-within c f in
      behind-one g (full-within a fm) (exact (next a c ga f (next a here ga fm (next here a ga fm tt (option_in d ga fm)) tt) (block_in k (stands-within a ga) f)))
  stmt_in (for_rule i t p b) g f =
      let wi = part_past span_to _ i here in
      let wt = option_past span_to _ t here in
      let wp = part_past span_to _ p here in
      let wb = block_past span_to _ b here in
      let ga = (rest-of g) in
      let at = both_within wt (drop wi) in
      let ap = both_within wp (drop at) in
      let f4 = full-within wb f in
      behind-one g (full-within ap f4)
      (exact (next ap wb ga f (two at wp ga f4 (two wi wt ga full (part_in i ga full) (option_in t (stands-within (drop wi) ga) full)) (part_in p (stands-within (drop at) ga) f4)) (block_in b (stands-within ap ga) f)))
  stmt_in (range_rule l e b) g f =
      let wl = left_past span_to _ l here in
      let we = operand_past span_to _ e here in
      let wb = block_past span_to _ b here in
      let ga = (rest-of g) in
      let ae = both_within we (drop wl) in
      let f3 = full-within wb f in
      behind-one g (full-within ae f3) (exact (next ae wb ga f (two wl we ga f3 (left_in l ga full) (operand_in e (stands-within (drop wl) ga) f3)) (block_in b (stands-within ae ga) f)))
  stmt_in (switch_rule i t cs) g f =
      let wi = first_past span_to _ i here in
      let wt = option_past span_to _ t here in
      let wc = cases_past span_to _ cs here in
      let ga = (rest-of g) in
      let at = both_within wt wi in
      behind-one g (full-within at full)
      (before-one (both_within wc (drop at)) ga f (exact (two at wc ga full (next wi wt ga full (first_in i ga (full-within wt full)) (option_in t (stands-within wi ga) full)) (cases_in cs (stands-within (drop at) ga) full))))
  stmt_in (defer_rule d) g f = behind-one g (full-within (bare_past span_to _ d here) f) (exact (bare_in d (rest-of g) f))
  stmt_in (label_rule d) g f =
      let w = full-within (stmt_past span_to _ d here) f in
      behind-one g full (behind-one (rest-of g) w (exact (stmt_in d (rest-of (rest-of g)) f)))

  block_in : {s : Span} {b : Stmts Span} {ts r : Lexemes} → SpellsBlock span_to s b ts r → Stands ts → Full r
      → BodyIn (start_of ts) (start_of r) b
  block_in (braces_rule d) g f =
      let a = stmts_past span_to _ d here in
      behind-one g (full-within a full) (before-one a (rest-of g) f (exact (stmts_in d (rest-of g) full)))

  stmts_in : {b : Stmts Span} {ts r : Lexemes} → SpellsStmts span_to b ts r → Stands ts → Full r
      → StmtsIn (start_of ts) (start_of r) b
  stmts_in no_stmts_rule g f = tt
  stmts_in (last_stmt_rule p d) g f = next (stmt_past span_to _ d here) here g f (stmt_in d g f) tt
  stmts_in (more_stmts_rule d k) g f = let a = stmt_past span_to _ d here in two a (stmts_past span_to _ k here) g f (stmt_in d g full) (stmts_in k (stands-within (drop a) g) f)

  if_in : {bs : Arms Span} {z : BlockOption Span} {ts r : Lexemes} → SpellsIf span_to bs z ts r → Stands ts → Full r
      → Two (start_of ts) (start_of r) (λ a b. ArmsIn a b bs) (λ a b. BlockIn a b z)
  if_in (only_arm_rule d) g f = let a = arm_past span_to _ d here in next a here g f (next a here g f (arm_in d g f) tt) tt
  if_in (else_rule d k) g f = let a = arm_past span_to _ d here in two a (block_past span_to _ k here) g f (next a here g full (arm_in d g full) tt) (block_in k (stands-within (drop a) g) f)
  if_in {ts = ts} (else_if_rule {c = c} {mid = mid} d k) g f =
      let a = arm_past span_to _ d here in
      let fm = full-within (if_past span_to _ k here) f in
      let rest = if_in k (stands-within (drop a) g) f in
      let up = starts-up (drop a) g.rises fm in
      let by = starts-up (later here) (stands-within a g).rises fm in
      record {
        mid = rest.mid;
        next = rest.next;
        up = le-le up rest.up;
        below = rest.below;
        apart = rest.apart;
        above = le-le up rest.above;
        one = record { mid = c.start; next = start_of mid; up = starts-up a g.rises full; below = le-le by rest.up; apart = by; above = up; one = arm_in d g full; two = rest.one };
        two = rest.two;
      }

  arm_in : {i : StmtOption Span} {t : Expr Span} {s : Span} {b : Stmts Span} {ts r : Lexemes}
      → SpellsArm span_to i t s b ts r → Stands ts → Full r → ArmIn (start_of ts) (start_of r) i t b
  arm_in (arm_rule i t b) g f =
      let wi = first_past span_to _ i here in
      let wt = operand_past span_to _ t here in
      let wb = block_past span_to _ b here in
      let ga = (rest-of g) in
      let at = both_within wt wi in
      let f3 = full-within wb f in
      behind-one g (full-within at f3) (exact (next at wb ga f (next wi wt ga f3 (first_in i ga (full-within wt f3)) (operand_in t (stands-within wi ga) f3)) (block_in b (stands-within at ga) f)))

  left_in : {x : RangeLeft Span} {ts r : Lexemes} → SpellsLeft span_to x ts r → Stands ts → Full r
      → LeftIn (start_of ts) (start_of r) x
  left_in no_left_rule g f = tt
  left_in (assigns_rule d) g f = before-one (exprs_past span_to _ d here) g f (exact (exprs_in d g full))
  left_in (defines_rule d) g f = tt

  cases_in : {cs : Cases Span} {ts r : Lexemes} → SpellsCases span_to cs ts r → Stands ts → Full r
      → CasesIn (start_of ts) (start_of r) cs
  cases_in no_cases_rule g f = tt
  cases_in (case_rule x b cs) g f =
      let wx = exprs_past span_to _ x here in
      let wb = stmts_past span_to _ b here in
      let wc = cases_past span_to _ cs here in
      let ga = (rest-of g) in
      let ab = both_within wb (drop wx) in
      let fm = full-within wc f in
      next (later ab) wc g f (behind-one g (full-within ab fm) (exact (two wx wb ga fm (exprs_in x ga full) (stmts_in b (stands-within (drop wx) ga) fm)))) (cases_in cs (stands-within ab ga) f)
  cases_in (default_rule b cs) g f =
      let wb = stmts_past span_to _ b here in
      let wc = cases_past span_to _ cs here in
      let ga = (rest-of (rest-of g)) in
      let fm = full-within wc f in
      next (later (later wb)) wc g f (behind-one g full (behind-one (rest-of g) (full-within wb fm) (exact (next here wb ga fm tt (stmts_in b ga fm))))) (cases_in cs (stands-within wb ga) f)

  decl_in : {constant grouped : Bool} {ss : ValueSpecs Span} {ts r : Lexemes}
      → SpellsDecl span_to constant grouped ss ts r → Stands ts → Full r
      → One (start_of ts) (start_of r) (λ a b. SpecsIn a b ss)
  decl_in (single_rule d) g f = exact (next (spec_past span_to _ d here) here g f (spec_in d g f) tt)
  decl_in (group_rule d) g f =
      let a = specs_past span_to _ d here in
      behind-one g (full-within a full) (before-one a (rest-of g) f (exact (specs_in d (rest-of g) full)))

  specs_in : {constant : Bool} {ss : ValueSpecs Span} {ts r : Lexemes} → SpellsSpecs span_to constant ss ts r
      → Stands ts → Full r → SpecsIn (start_of ts) (start_of r) ss
  specs_in no_specs_rule g f = tt
  specs_in (last_spec_rule d) g f = next (spec_past span_to _ d here) here g f (spec_in d g f) tt
  specs_in (more_specs_rule d k) g f = let a = spec_past span_to _ d here in two a (specs_past span_to _ k here) g f (spec_in d g full) (specs_in k (stands-within (drop a) g) f)

  spec_in : {constant : Bool} {ns : List (NameAt Span)} {t : Option (TypeExpr Span)} {xs : Exprs Span} {ts r : Lexemes}
      → SpellsSpec span_to constant ns t xs ts r → Stands ts → Full r → ValuesIn (start_of ts) (start_of r) t xs
  spec_in (repeated_rule d) g f = let a = names_past span_to _ d here in exact (next a here g f tt tt)
  spec_in (typed_var_rule d k) g f =
      let a = names_past span_to _ d here in
      let c = type_past span_to _ k here in
      within-one a g (full-within c f) (exact (next c here (stands-within a g) f (type_in k (stands-within a g) f) tt))
  spec_in (values_rule d k) g f =
      let a = drop (names_past span_to _ d here) in
      let c = exprs_past span_to _ k here in
      within-one a g (full-within c f) (exact (next here c (stands-within a g) f tt (exprs_in k (stands-within a g) f)))
  spec_in (typed_values_rule d t k) g f =
      let a = names_past span_to _ d here in
      let b = type_past span_to _ t here in
      let c = exprs_past span_to _ k here in
      let ga = stands-within a g in
      within-one a g (full-within b full) (exact (two b c ga f (type_in t ga full) (exprs_in k (stands-within (drop b) ga) f)))

-- ---- declarations

ends-wider : {lo a hi : ℕ} (s : Span) → lo ≤ a → Ends a hi s → Ends lo hi s
ends-wider s x h = (omega (arith, x, h.0), h.1)

receiver_in : {v : Receiver Span} {ts r : Lexemes} → SpellsReceiver span_to v ts r → Stands ts → Full r
    → Ends (start_of ts) (start_of r) v.of.span
receiver_in receiver_rule g f = ends-at here g f (λ e. cc)
receiver_in (pointer_receiver_rule {s = s} {n = n} {r = r}) g f = ends-wider (span_to (lex s (ident n) ∷ r) r) (starts-up (later here) g.rises full) (ends-at here (rest-of g) f (λ e. cc))
receiver_in (named_receiver_rule {s = s} {n = n} {r = r}) g f = ends-wider (span_to (lex s (ident n) ∷ r) r) (starts-up (later here) g.rises full) (ends-at here (rest-of g) f (λ e. cc))
receiver_in (named_pointer_receiver_rule {s = s} {n = n} {r = r}) g f = ends-wider (span_to (lex s (ident n) ∷ r) r) (starts-up (later (later here)) g.rises full) (ends-at here (rest-of (rest-of g)) f (λ e. cc))

type_spec_in : {t : TypeSpec Span} {ts r : Lexemes} → SpellsTypeSpec span_to t ts r → Stands ts → Full r
    → OneType (start_of ts) (start_of r) t.of
type_spec_in (type_spec_rule d) g f = behind-one g (full-within (type_past span_to _ d here) f) (type_in d (rest-of g) f)
type_spec_in (alias_spec_rule d) g f = behind-one g full (behind-one (rest-of g) (full-within (type_past span_to _ d here) f) (type_in d (rest-of (rest-of g)) f))

type_specs_in : {xs : List (TypeSpec Span)} {ts r : Lexemes} → SpellsTypeSpecs span_to xs ts r → Stands ts → Full r
    → TypesIn (start_of ts) (start_of r) xs
type_specs_in no_type_specs_rule g f = tt
type_specs_in (last_type_spec_rule d) g f = next (type_spec_past span_to _ d here) here g f (type_spec_in d g f) tt
type_specs_in (more_type_specs_rule d k) g f =
    let a = type_spec_past span_to _ d here in
    two a (type_specs_past span_to _ k here) g f (type_spec_in d g full) (type_specs_in k (stands-within (drop a) g) f)

top_in : {d : Decl Span} {ts r : Lexemes} → SpellsTop span_to d ts r → Stands ts → Full r
    → DeclIn (start_of ts) (start_of r) d
top_in (top_const_rule d) g f = behind-one g (full-within (decl_past span_to _ d here) f) (decl_in d (rest-of g) f)
top_in (top_var_rule d) g f = behind-one g (full-within (decl_past span_to _ d here) f) (decl_in d (rest-of g) f)
top_in (top_type_rule d) g f =
    let a = type_spec_past span_to _ d here in
    behind-one g (full-within a f) (exact (next a here (rest-of g) f (type_spec_in d (rest-of g) f) tt))
top_in (top_type_group_rule d) g f =
    let a = type_specs_past span_to _ d here in
    let ga = rest-of (rest-of g) in
    behind-one g full (behind-one (rest-of g) (full-within a full) (before-one a ga f (exact (type_specs_in d ga full))))
top_in (top_func_rule d b) g f =
    let a = sig_past span_to _ d here in
    let c = block_past span_to _ b here in
    let ga = rest-of (rest-of g) in
    let fm = full-within c f in
    behind-one g full (behind-one (rest-of g) (full-within a fm) (exact (next a c ga f (next here a ga fm tt (exact (sig_in d ga fm))) (block_in b (stands-within a ga) f))))
top_in (top_method_rule v d b) g f =
    let a = receiver_past span_to _ v here in
    let e = sig_past span_to _ d here in
    let c = block_past span_to _ b here in
    let ga = rest-of (rest-of g) in
    let fm = full-within c f in
    let gs = stands-within (drop a) ga in
    behind-one g full (behind-one (rest-of g) (full-within a full)
    (exact (next (both_within e (drop (drop a))) c ga f
    (two a (later e) ga fm (receiver_in v ga full) (behind-one gs (full-within e fm) (exact (sig_in d (rest-of gs) fm))))
    (block_in b (stands-within (both_within e (drop (drop a))) ga) f))))

-- declarations up to some place
pub record Upto (lo : ℕ) (ds : List (Decl Span)) : Type 0 where
  pub hi : ℕ
  pub up : lo ≤ hi
  pub it : DeclsIn lo hi ds

tops_in : {ds : List (Decl Span)} {ts r : Lexemes} → SpellsTops span_to ds ts r → Stands ts → Upto (start_of ts) ds
tops_in {ts = ts} no_tops_rule g = record { hi = start_of ts; up = itself; it = tt }
tops_in {ts = ts} (more_tops_rule {c = c} d no_tops_rule) g =
    let up = starts-up (top_past span_to _ d here) g.rises full in
    record { hi = c.start; up = up; it = record { mid = c.start; next = c.start; up = up; below = itself; apart = itself; above = up; one = top_in d g full; two = tt } }
tops_in {ts = ts} (more_tops_rule {c = c} {mid = mid} d (more_tops_rule e k)) g =
    let a = top_past span_to _ d here in
    let fm = full-within (top_past span_to _ e here) full in
    let rest = tops_in (more_tops_rule e k) (stands-within (drop a) g) in
    let up = starts-up a g.rises full in
    let by = starts-up (later here) (stands-within a g).rises fm in
    record {
      hi = rest.hi;
      up = le-le up (le-le by rest.up);
      it = record { mid = c.start; next = start_of mid; up = up; below = le-le by rest.up; apart = by; above = le-le up by; one = top_in d g full; two = rest.it };
    }

-- the declarations of a file
pub front_in : {x : File Span} {ts r : Lexemes} → SpellsFront span_to x ts r → Stands ts → (lo : ℕ) × Upto lo x.decls
front_in (front_rule {mid = mid} b is ds) g = (start_of mid, tops_in ds (stands-within (later (later (later (imports_past span_to _ is here)))) g))

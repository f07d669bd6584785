-- The parts of a tree that tokens spell stand one behind the other, each within the part around it.
use Rattle.std.proofs.Common.{◌≤◌, ℕ, Bool, List, ◌∷◌, Option}
use Rattle.go_tree.specs.declared.spans.Span.{Span}
use Rattle.go_tree.specs.declared.exprs.Rest.{Rest}
use Rattle.go_tree.specs.Tree.{NameAt, TypeExpr, Expr, Exprs, ExprOption, Elems, Value, ValueOption, Stmt, Stmts, StmtOption, no_stmt, some_stmt, BlockOption, RangeLeft, Arms, Cases, ValueSpecs}
use Rattle.go_tree.specs.File.{Decl, File}
use Rattle.go_tree.specs.GoWords.Terminals.{Lexeme, lex, colon}
use Rattle.go_read.specs.SpellsTypes.{Lexemes, SpellsType, SpellsNames, named_rule, qualified_rule, pointer_rule, slice_type_rule, map_type_rule, struct_type_rule, type_parens_rule, last_name_rule, more_names_rule}
use Rattle.go_read.specs.SpellsSpans.{start_of, span_to}
use Rattle.go_read.specs.Spells.{SpellsBare, SpellsExpr, SpellsOperand, SpellsOption, SpellsExprs, SpellsArgs, SpellsElems, SpellsElem, SpellsValue, SpellsSimple, SpellsPart, SpellsFirst, SpellsStmt, SpellsBlock, SpellsStmts, SpellsIf, SpellsArm, SpellsLeft, SpellsCases, SpellsDecl, SpellsSpecs, SpellsSpec, ident_rule, int_rule, rune_rule, text_rule, composite_rule, func_rule, type_rule, selector_rule, index_rule, slice_rule, call_rule, unary_rule, star_rule, binary_rule, bare_rule, parens_rule, operand_rule, no_expr_rule, some_expr_rule, last_expr_rule, more_exprs_rule, no_args_rule, args_rule, comma_args_rule, rest_args_rule, comma_rest_args_rule, no_elems_rule, last_elem_rule, more_elems_rule, value_rule, keyed_rule, plain_rule, braced_rule, eval_rule, increment_rule, decrement_rule, assign_rule, define_rule, no_part_rule, part_rule, no_first_rule, first_rule, empty_rule, simple_rule, const_rule, var_rule, return_rule, return_values_rule, break_rule, break_label_rule, continue_rule, continue_label_rule, block_rule, if_rule, while_rule, for_rule, range_rule, switch_rule, defer_rule, label_rule, braces_rule, no_stmts_rule, last_stmt_rule, more_stmts_rule, only_arm_rule, else_rule, else_if_rule, arm_rule, no_left_rule, assigns_rule, defines_rule, no_cases_rule, case_rule, default_rule, single_rule, group_rule, no_specs_rule, last_spec_rule, more_specs_rule, repeated_rule, typed_var_rule, values_rule, typed_values_rule}
use Rattle.go_read.specs.SpellsFiles.{SpellsTop, SpellsTops, SpellsFront, top_const_rule, top_var_rule, top_type_rule, top_type_group_rule, top_func_rule, top_method_rule, no_tops_rule, more_tops_rule, front_rule}
use Rattle.splice_laws.proofs.Grafts.{Within, here, later, drop, both_within}
use Rattle.splice_laws.proofs.Pasts.{type_past, fields_past, names_past, sig_past, literal_past, operand_past, expr_past, bare_past, option_past, exprs_past, args_past, elems_past, elem_past, value_past, part_past, first_past, stmt_past, block_past, stmts_past, if_past, arm_past, left_past, cases_past, decl_past, specs_past, spec_past, receiver_past, top_past, imports_past}
use Rattle.order_runs.proofs.RunSteps.TokenPlaces.{Behind, Rises, Full, full, behind-of, rest-of, step-up, More, more, lt-le, le-lt, le-le, as-le, itself, full-more, full-within, rises-within, within-more, more-at, more-past, past-more, starts-up, starts-behind, ends-by, ends-behind}
use Rattle.order_runs.proofs.RunSteps.SpanPlaces.{Fits, One, Two, Late, Cut, ExprIn, OpIn, ExprsIn, OptionIn, ElemsIn, KeyIn, ValueIn, StmtIn, StmtsIn, BodyIn, FirstIn, BlockIn, LeftIn, ArmsIn, ArmIn, CasesIn, SpecsIn, NamesIn, DeclIn, DeclsIn, one-in, wider}

-- ---- places by tokens

fits : {r ts : Lexemes} → More r ts → Rises ts → Full r → Fits (start_of ts) (start_of r) (span_to ts r)
fits m g f = (itself, starts-behind m g f, ends-by m g f)

exact : {lo hi : ℕ} {Q : ℕ → ℕ → Type 0} → Q lo hi → One lo hi Q
exact q = one-in itself itself q

-- a part, a token and a part
two : {Q R : ℕ → ℕ → Type 0} {x : Lexeme} {mid ts r : Lexemes} → Within (x ∷ mid) ts → Within r mid → Rises ts → Full r → Q (start_of ts) (start_of (x ∷ mid)) → R (start_of mid) (start_of r) → Two (start_of ts) (start_of r) Q R
two {x = x} {mid = mid} {ts = ts} {r = r} a e g f p q =
    let ga : Rises (x ∷ mid) = rises-within a g in
    let fm : Full mid = full-within e f in
    record { mid = start_of (x ∷ mid); next = start_of mid; up = starts-up a g full; below = starts-up (later e) ga f; apart = starts-up (later here) ga fm; above = starts-up (drop a) g fm; one = p; two = q }

-- a part and a part
next : {Q R : ℕ → ℕ → Type 0} {mid ts r : Lexemes} → Within mid ts → Within r mid → Rises ts → Full r → Q (start_of ts) (start_of mid) → R (start_of mid) (start_of r) → Two (start_of ts) (start_of r) Q R
next {mid = mid} {ts = ts} {r = r} a e g f p q =
    let fm : Full mid = full-within e f in
    record { mid = start_of mid; next = start_of mid; up = starts-up a g fm; below = starts-up e (rises-within a g) f; apart = itself; above = starts-up a g fm; one = p; two = q }

cut : {Q R : ℕ → ℕ → Type 0} {x : Lexeme} {mid ts rest r : Lexemes} → Within (x ∷ mid) ts → Within rest mid → More r rest → Rises ts → Full r → Q (start_of ts) (start_of (x ∷ mid)) → R (start_of mid) (start_of r) → Cut (span_to ts r) (start_of ts) (start_of r) Q R
unfolding two
cut {x = x} {mid = mid} {ts = ts} {rest = rest} {r = r} a e m g f p q =
    let ga : Rises (x ∷ mid) = rises-within a g in
    let fm : Full mid = full-within e (full-more m) in
    record {
      both = two a (both_within (within-more m) e) g f p q;
      before = lt-le (starts-behind (more e) ga (full-more m)) (ends-behind (both_within e (drop a)) m g);
      behind = le-lt (starts-up a g full) (starts-behind (more here) ga fm);
    }

late : {Q : ℕ → ℕ → Type 0} {mid ts r : Lexemes} → More mid ts → Within r mid → Rises ts → Full r → Q (start_of mid) (start_of r) → Late (span_to ts r) (start_of ts) (start_of r) Q
late {mid = mid} m e g f q = let b = starts-behind m g (full-within e f) in record { from = start_of mid; behind = b; above = as-le b; it = q }

-- behind a first token
behind-one : {Q : ℕ → ℕ → Type 0} {hi : ℕ} (s : Span) (ts : Lexemes) → Behind s ts → Full ts → One (start_of ts) hi Q → One s.start hi Q
behind-one s ts b f q = wider (step-up s ts f b) itself q

-- before a last token
before-one : {Q : ℕ → ℕ → Type 0} {x : Lexeme} {ts r : Lexemes} → Within (x ∷ r) ts → Rises ts → Full r → One (start_of ts) (start_of (x ∷ r)) Q → One (start_of ts) (start_of r) Q
before-one a g f q = wider itself (starts-up (later here) (rises-within a g) f) q

first-wider : {lo a b hi : ℕ} (i : StmtOption Span) → lo ≤ a → b ≤ hi → FirstIn a b i → FirstIn lo hi i
first-wider no_stmt x y h = tt
first-wider (some_stmt s) x y h = wider x y h

-- ---- what is spelled has tokens

type_more : {t : TypeExpr Span} {ts r : Lexemes} → SpellsType span_to t ts r → More r ts
type_more named_rule = more here
type_more qualified_rule = more (later (later here))
type_more (pointer_rule d) = more (type_past span_to _ d here)
type_more (slice_type_rule d) = more (later (type_past span_to _ d here))
type_more (map_type_rule d k) = more (later (both_within (type_past span_to _ k here) (drop (type_past span_to _ d here))))
type_more (struct_type_rule d) = more (later (drop (fields_past span_to _ d here)))
type_more (type_parens_rule d) = more (drop (type_past span_to _ d here))

bare_more : {l : ℕ} {h : Bool} {e : Expr Span} {ts r : Lexemes} → SpellsBare span_to l h e ts r → More r ts
bare_more ident_rule = more here
bare_more int_rule = more here
bare_more rune_rule = more here
bare_more text_rule = more here
bare_more (composite_rule d k) = more-at (both_within (elems_past span_to _ k here) (drop (literal_past span_to _ d here)))
bare_more (func_rule d k) = more (both_within (block_past span_to _ k here) (sig_past span_to _ d here))
bare_more (type_rule p d q) = type_more d
bare_more (selector_rule d) = more-at (drop (operand_past span_to _ d here))
bare_more (index_rule d k) = more-at (both_within (operand_past span_to _ k here) (drop (operand_past span_to _ d here)))
bare_more (slice_rule k i j) = more-at (both_within (option_past span_to _ j here) (drop (both_within (option_past span_to _ i here) (drop (operand_past span_to _ k here)))))
bare_more (call_rule d k) = past-more (more-at (expr_past span_to _ d here)) (args_past span_to _ k here)
bare_more (unary_rule p d) = more (operand_past span_to _ d here)
bare_more (star_rule p d) = more (operand_past span_to _ d here)
bare_more (binary_rule p d k) = past-more (more-at (operand_past span_to _ d here)) (operand_past span_to _ k here)

expr_more : {l : ℕ} {h : Bool} {e : Expr Span} {ts r : Lexemes} → SpellsExpr span_to l h e ts r → More r ts
expr_more (bare_rule d) = bare_more d
expr_more (parens_rule d) = more (drop (expr_past span_to _ d here))

operand_more : {l : ℕ} {h : Bool} {e : Expr Span} {ts r : Lexemes} → SpellsOperand span_to l h e ts r → More r ts
operand_more (operand_rule p d) = expr_more d

-- the parenthesis behind arguments
data Closes (r ts : Lexemes) : Type 0 where
  closes : {x : Lexeme} → Within (x ∷ r) ts → Closes r ts

args_close : {xs : Exprs Span} {rest : Rest} {ts r : Lexemes} → SpellsArgs span_to xs rest ts r → Closes r ts
args_close no_args_rule = closes here
args_close (args_rule d) = closes (exprs_past span_to _ d here)
args_close (comma_args_rule d) = closes (drop (exprs_past span_to _ d here))
args_close (rest_args_rule d) = closes (drop (exprs_past span_to _ d here))
args_close (comma_rest_args_rule d) = closes (drop (drop (exprs_past span_to _ d here)))

closed : {Q R : ℕ → ℕ → Type 0} {x : Lexeme} {mid ts r : Lexemes} → Closes r mid → Within (x ∷ mid) ts → Rises ts → Full r → Q (start_of ts) (start_of (x ∷ mid)) → R (start_of mid) (start_of r) → Fits (start_of ts) (start_of r) (span_to ts r) × Cut (span_to ts r) (start_of ts) (start_of r) Q R
closed (closes c) a g f p q = (fits (more-at (both_within c (drop a))) g f, cut a c (more here) g f p q)

-- ---- names

names_in : {ns : List (NameAt Span)} {ts r : Lexemes} → SpellsNames span_to ns ts r → Rises ts → Full r → NamesIn (start_of ts) (start_of r) ns
names_in last_name_rule g f = next (later here) here g f (fits (more here) g f) tt
names_in (more_names_rule {c = c} {ts = us} d) g f = two (later here) (names_past span_to _ d here) g f (fits (more here) g full) (names_in d (rises-within (later (later here)) g) f)

-- ---- expressions and statements

mutual
  bare_in : {l : ℕ} {h : Bool} {e : Expr Span} {ts r : Lexemes} → SpellsBare span_to l h e ts r → Rises ts → Full r → ExprIn (start_of ts) (start_of r) e
  bare_in ident_rule g f = fits (more here) g f
  bare_in int_rule g f = fits (more here) g f
  bare_in rune_rule g f = fits (more here) g f
  bare_in text_rule g f = fits (more here) g f
  bare_in (composite_rule d k) g f =
      let a = literal_past span_to _ d here in
      let c = elems_past span_to _ k here in
      (fits (more-at (both_within c (drop a))) g f, late (more-at a) (drop c) g f (before-one c (rises-within (drop a) g) f (exact (elems_in k (rises-within (drop a) g) full))))
  bare_in (func_rule d k) g f =
      let a = sig_past span_to _ d here in
      let c = block_past span_to _ k here in
      (fits (more (both_within c a)) g f, late (more a) c g f (block_in k (rises-within a (rest-of g)) f))
  bare_in (type_rule p d q) g f = fits (type_more d) g f
  bare_in (selector_rule {d = d} d1) g f =
      let a = operand_past span_to _ d1 here in
      let b = drop a in
      (fits (more-at b) g f, record { upto = d.start; before = lt-le (starts-behind (more here) (rises-within a g) full) (ends-behind b (more here) g); below = starts-up (later (later here)) (rises-within a g) f; it = operand_in d1 g full })
  bare_in (index_rule d k) g f =
      let a = operand_past span_to _ d here in
      let c = operand_past span_to _ k here in
      (fits (more-at (both_within c (drop a))) g f, cut a c (more here) g f (operand_in d g full) (before-one c (rises-within (drop a) g) f (operand_in k (rises-within (drop a) g) full)))
  bare_in (slice_rule d i j) g f =
      let a = operand_past span_to _ d here in
      let b = option_past span_to _ i here in
      let c = option_past span_to _ j here in
      let ga = rises-within (drop a) g in (
        fits (more-at (both_within c (drop (both_within b (drop a))))) g f,
        cut a (both_within c (drop b)) (more here) g f (operand_in d g full) (before-one (both_within c (drop b)) ga f (exact (two b c ga full (option_in i ga full) (option_in j (rises-within (drop b) ga) full)))),
      )
  bare_in (call_rule d k) g f = let a = expr_past span_to _ d here in closed (args_close k) a g f (expr_in d g full) (args_in k (rises-within (drop a) g) f)
  bare_in (unary_rule p d) g f =
      let c = operand_past span_to _ d here in
      (fits (more c) g f, late (more here) c g f (operand_in d (rest-of g) f))
  bare_in (star_rule p d) g f =
      let c = operand_past span_to _ d here in
      (fits (more c) g f, late (more here) c g f (operand_in d (rest-of g) f))
  bare_in (binary_rule p d k) g f =
      let a = operand_past span_to _ d here in
      let m = operand_more k in
      (fits (more-past (drop a) m) g f, cut a here m g f (operand_in d g full) (operand_in k (rises-within (drop a) g) f))

  expr_in : {l : ℕ} {h : Bool} {e : Expr Span} {ts r : Lexemes} → SpellsExpr span_to l h e ts r → Rises ts → Full r → OpIn (start_of ts) (start_of r) e
  expr_in (bare_rule d) g f = exact (bare_in d g f)
  expr_in (parens_rule {s = s} {ts = us} d) g f =
      let a = expr_past span_to _ d here in
      behind-one s us (behind-of g) (full-within a full) (before-one a (rest-of g) f (expr_in d (rest-of g) full))

  operand_in : {l : ℕ} {h : Bool} {e : Expr Span} {ts r : Lexemes} → SpellsOperand span_to l h e ts r → Rises ts → Full r → OpIn (start_of ts) (start_of r) e
  operand_in (operand_rule p d) g f = expr_in d g f

  option_in : {h : Bool} {o : ExprOption Span} {ts r : Lexemes} → SpellsOption span_to h o ts r → Rises ts → Full r → OptionIn (start_of ts) (start_of r) o
  option_in no_expr_rule g f = tt
  option_in (some_expr_rule d) g f = operand_in d g f

  exprs_in : {h : Bool} {xs : Exprs Span} {ts r : Lexemes} → SpellsExprs span_to h xs ts r → Rises ts → Full r → ExprsIn (start_of ts) (start_of r) xs
  exprs_in (last_expr_rule d) g f = next (operand_past span_to _ d here) here g f (operand_in d g f) tt
  exprs_in (more_exprs_rule d k) g f = let a = operand_past span_to _ d here in two a (exprs_past span_to _ k here) g f (operand_in d g full) (exprs_in k (rises-within (drop a) g) f)

  args_in : {xs : Exprs Span} {rest : Rest} {ts r : Lexemes} → SpellsArgs span_to xs rest ts r → Rises ts → Full r → One (start_of ts) (start_of r) (λ a b. ExprsIn a b xs)
  args_in no_args_rule g f = exact tt
  args_in (args_rule d) g f = before-one (exprs_past span_to _ d here) g f (exact (exprs_in d g full))
  args_in (comma_args_rule d) g f = let a = exprs_past span_to _ d here in before-one (drop a) g f (before-one a g full (exact (exprs_in d g full)))
  args_in (rest_args_rule d) g f = let a = exprs_past span_to _ d here in before-one (drop a) g f (before-one a g full (exact (exprs_in d g full)))
  args_in (comma_rest_args_rule d) g f = let a = exprs_past span_to _ d here in before-one (drop (drop a)) g f (before-one (drop a) g full (before-one a g full (exact (exprs_in d g full))))

  elems_in : {es : Elems Span} {ts r : Lexemes} → SpellsElems span_to es ts r → Rises ts → Full r → ElemsIn (start_of ts) (start_of r) es
  elems_in no_elems_rule g f = tt
  elems_in (last_elem_rule d) g f = next (elem_past span_to _ d here) here g f (elem_in d g f) tt
  elems_in (more_elems_rule d k) g f = let a = elem_past span_to _ d here in two a (elems_past span_to _ k here) g f (elem_in d g full) (elems_in k (rises-within (drop a) g) f)

  elem_in : {k : ValueOption Span} {v : Value Span} {ts r : Lexemes} → SpellsElem span_to k v ts r → Rises ts → Full r → Two (start_of ts) (start_of r) (λ c d. KeyIn c d k) (λ c d. ValueIn c d v)
  elem_in (value_rule d) g f = next here (value_past span_to _ d here) g f tt (value_in d g f)
  elem_in (keyed_rule d k) g f = let a = value_past span_to _ d here in two a (value_past span_to _ k here) g f (value_in d g full) (value_in k (rises-within (drop a) g) f)

  value_in : {v : Value Span} {ts r : Lexemes} → SpellsValue span_to v ts r → Rises ts → Full r → ValueIn (start_of ts) (start_of r) v
  value_in (plain_rule d) g f = operand_in d g f
  value_in (braced_rule {s = s} {ts = us} d) g f =
      let a = elems_past span_to _ d here in
      behind-one s us (behind-of g) (full-within a full) (before-one a (rest-of g) f (exact (elems_in d (rest-of g) full)))

  simple_in : {h : Bool} {x : Stmt Span} {ts r : Lexemes} → SpellsSimple span_to h x ts r → Rises ts → Full r → StmtIn (start_of ts) (start_of r) x
  simple_in (eval_rule d) g f = operand_in d g f
  simple_in (increment_rule d) g f = before-one (operand_past span_to _ d here) g f (operand_in d g full)
  simple_in (decrement_rule d) g f = before-one (operand_past span_to _ d here) g f (operand_in d g full)
  simple_in (assign_rule d k) g f = let a = exprs_past span_to _ d here in two a (exprs_past span_to _ k here) g f (exprs_in d g full) (exprs_in k (rises-within (drop a) g) f)
  simple_in (define_rule d k) g f = let a = names_past span_to _ d here in two a (exprs_past span_to _ k here) g f (names_in d g full) (exprs_in k (rises-within (drop a) g) f)

  part_in : {i : StmtOption Span} {ts r : Lexemes} → SpellsPart span_to i ts r → Rises ts → Full r → FirstIn (start_of ts) (start_of r) i
  part_in no_part_rule g f = tt
  part_in (part_rule d) g f = exact (simple_in d g f)

  first_in : {i : StmtOption Span} {ts r : Lexemes} → SpellsFirst span_to i ts r → Rises ts → Full r → FirstIn (start_of ts) (start_of r) i
  first_in no_first_rule g f = tt
  first_in (first_rule {i = i} d) g f = first-wider i itself (starts-up (later here) (rises-within (part_past span_to _ d here) g) f) (part_in d g full)

  stmt_in : {x : Stmt Span} {ts r : Lexemes} → SpellsStmt span_to x ts r → Rises ts → Full r → StmtIn (start_of ts) (start_of r) x
  stmt_in empty_rule g f = tt
  stmt_in (simple_rule d) g f = simple_in d g f
  stmt_in (const_rule {s = s} {ts = us} d) g f = behind-one s us (behind-of g) (full-within (decl_past span_to _ d here) f) (decl_in d (rest-of g) f)
  stmt_in (var_rule {s = s} {ts = us} d) g f = behind-one s us (behind-of g) (full-within (decl_past span_to _ d here) f) (decl_in d (rest-of g) f)
  stmt_in return_rule g f = exact tt
  stmt_in (return_values_rule {s = s} {ts = us} d) g f = behind-one s us (behind-of g) (full-within (exprs_past span_to _ d here) f) (exact (exprs_in d (rest-of g) f))
  stmt_in break_rule g f = tt
  stmt_in break_label_rule g f = tt
  stmt_in continue_rule g f = tt
  stmt_in continue_label_rule g f = tt
  stmt_in (block_rule d) g f = block_in d g f
  stmt_in (if_rule d) g f = if_in d g f
  stmt_in (while_rule {s = s} {ts = us} d k) g f =
      let a = option_past span_to _ d here in
      let c = block_past span_to _ k here in
      let ga = (rest-of g) in
      let fm = full-within c f in
      behind-one s us (behind-of g) (full-within a fm) (exact (next a c ga f (next a here ga fm (next here a ga fm tt (option_in d ga fm)) tt) (block_in k (rises-within a ga) f)))
  stmt_in (for_rule {s = s} {ts = us} i t p b) g f =
      let wi = part_past span_to _ i here in
      let wt = option_past span_to _ t here in
      let wp = part_past span_to _ p here in
      let wb = block_past span_to _ b here in
      let ga = (rest-of g) in
      let at = both_within wt (drop wi) in
      let ap = both_within wp (drop at) in
      let f4 = full-within wb f in
      behind-one s us (behind-of g) (full-within ap f4)
      (exact (next ap wb ga f (two at wp ga f4 (two wi wt ga full (part_in i ga full) (option_in t (rises-within (drop wi) ga) full)) (part_in p (rises-within (drop at) ga) f4)) (block_in b (rises-within ap ga) f)))
  stmt_in (range_rule {s = s} {ts = us} l e b) g f =
      let wl = left_past span_to _ l here in
      let we = operand_past span_to _ e here in
      let wb = block_past span_to _ b here in
      let ga = (rest-of g) in
      let ae = both_within we (drop wl) in
      let f3 = full-within wb f in
      behind-one s us (behind-of g) (full-within ae f3) (exact (next ae wb ga f (two wl we ga f3 (left_in l ga full) (operand_in e (rises-within (drop wl) ga) f3)) (block_in b (rises-within ae ga) f)))
  stmt_in (switch_rule {s = s} {ts = us} i t cs) g f =
      let wi = first_past span_to _ i here in
      let wt = option_past span_to _ t here in
      let wc = cases_past span_to _ cs here in
      let ga = (rest-of g) in
      let at = both_within wt wi in
      behind-one s us (behind-of g) (full-within at full)
      (before-one (both_within wc (drop at)) ga f (exact (two at wc ga full (next wi wt ga full (first_in i ga (full-within wt full)) (option_in t (rises-within wi ga) full)) (cases_in cs (rises-within (drop at) ga) full))))
  stmt_in (defer_rule {s = s} {ts = us} d) g f = behind-one s us (behind-of g) (full-within (bare_past span_to _ d here) f) (exact (bare_in d (rest-of g) f))
  stmt_in (label_rule {s = s} {c = c} {ts = us} d) g f =
      let w = full-within (stmt_past span_to _ d here) f in
      behind-one s (lex c colon ∷ us) (behind-of g) full (behind-one c us (behind-of (rest-of g)) w (exact (stmt_in d (rest-of (rest-of g)) f)))

  block_in : {s : Span} {b : Stmts Span} {ts r : Lexemes} → SpellsBlock span_to s b ts r → Rises ts → Full r → BodyIn (start_of ts) (start_of r) b
  block_in (braces_rule {s = s} {ts = us} d) g f =
      let a = stmts_past span_to _ d here in
      behind-one s us (behind-of g) (full-within a full) (before-one a (rest-of g) f (exact (stmts_in d (rest-of g) full)))

  stmts_in : {b : Stmts Span} {ts r : Lexemes} → SpellsStmts span_to b ts r → Rises ts → Full r → StmtsIn (start_of ts) (start_of r) b
  stmts_in no_stmts_rule g f = tt
  stmts_in (last_stmt_rule p d) g f = next (stmt_past span_to _ d here) here g f (stmt_in d g f) tt
  stmts_in (more_stmts_rule d k) g f = let a = stmt_past span_to _ d here in two a (stmts_past span_to _ k here) g f (stmt_in d g full) (stmts_in k (rises-within (drop a) g) f)

  if_in : {bs : Arms Span} {z : BlockOption Span} {ts r : Lexemes} → SpellsIf span_to bs z ts r → Rises ts → Full r → Two (start_of ts) (start_of r) (λ a b. ArmsIn a b bs) (λ a b. BlockIn a b z)
  if_in (only_arm_rule d) g f = let a = arm_past span_to _ d here in next a here g f (next a here g f (arm_in d g f) tt) tt
  if_in (else_rule d k) g f = let a = arm_past span_to _ d here in two a (block_past span_to _ k here) g f (next a here g full (arm_in d g full) tt) (block_in k (rises-within (drop a) g) f)
  if_in {ts = ts} (else_if_rule {c = c} {mid = mid} d k) g f =
      let a = arm_past span_to _ d here in
      let fm = full-within (if_past span_to _ k here) f in
      let rest = if_in k (rises-within (drop a) g) f in
      let up = starts-up (drop a) g fm in
      let by = starts-up (later here) (rises-within a g) fm in
      record {
        mid = rest.mid;
        next = rest.next;
        up = le-le up rest.up;
        below = rest.below;
        apart = rest.apart;
        above = le-le up rest.above;
        one = record { mid = c.start; next = start_of mid; up = starts-up a g full; below = le-le by rest.up; apart = by; above = up; one = arm_in d g full; two = rest.one };
        two = rest.two;
      }

  arm_in : {i : StmtOption Span} {t : Expr Span} {s : Span} {b : Stmts Span} {ts r : Lexemes} → SpellsArm span_to i t s b ts r → Rises ts → Full r → ArmIn (start_of ts) (start_of r) i t b
  arm_in (arm_rule {s = s} {ts = us} i t b) g f =
      let wi = first_past span_to _ i here in
      let wt = operand_past span_to _ t here in
      let wb = block_past span_to _ b here in
      let ga = (rest-of g) in
      let at = both_within wt wi in
      let f3 = full-within wb f in
      behind-one s us (behind-of g) (full-within at f3) (exact (next at wb ga f (next wi wt ga f3 (first_in i ga (full-within wt f3)) (operand_in t (rises-within wi ga) f3)) (block_in b (rises-within at ga) f)))

  left_in : {x : RangeLeft Span} {ts r : Lexemes} → SpellsLeft span_to x ts r → Rises ts → Full r → LeftIn (start_of ts) (start_of r) x
  left_in no_left_rule g f = tt
  left_in (assigns_rule d) g f = before-one (exprs_past span_to _ d here) g f (exact (exprs_in d g full))
  left_in (defines_rule d) g f = tt

  cases_in : {cs : Cases Span} {ts r : Lexemes} → SpellsCases span_to cs ts r → Rises ts → Full r → CasesIn (start_of ts) (start_of r) cs
  cases_in no_cases_rule g f = tt
  cases_in (case_rule {s = s} {ts = us} x b cs) g f =
      let wx = exprs_past span_to _ x here in
      let wb = stmts_past span_to _ b here in
      let wc = cases_past span_to _ cs here in
      let ga = (rest-of g) in
      let ab = both_within wb (drop wx) in
      let fm = full-within wc f in
      next (later ab) wc g f (behind-one s us (behind-of g) (full-within ab fm) (exact (two wx wb ga fm (exprs_in x ga full) (stmts_in b (rises-within (drop wx) ga) fm)))) (cases_in cs (rises-within ab ga) f)
  cases_in (default_rule {s = s} {c = c} {ts = us} b cs) g f =
      let wb = stmts_past span_to _ b here in
      let wc = cases_past span_to _ cs here in
      let ga = (rest-of (rest-of g)) in
      let fm = full-within wc f in
      next (later (later wb)) wc g f (behind-one s (lex c colon ∷ us) (behind-of g) full (behind-one c us (behind-of (rest-of g)) (full-within wb fm) (exact (next here wb ga fm tt (stmts_in b ga fm))))) (cases_in cs (rises-within wb ga) f)

  decl_in : {constant grouped : Bool} {ss : ValueSpecs Span} {ts r : Lexemes} → SpellsDecl span_to constant grouped ss ts r → Rises ts → Full r → One (start_of ts) (start_of r) (λ a b. SpecsIn a b ss)
  decl_in (single_rule d) g f = exact (next (spec_past span_to _ d here) here g f (spec_in d g f) tt)
  decl_in (group_rule {s = s} {ts = us} d) g f =
      let a = specs_past span_to _ d here in
      behind-one s us (behind-of g) (full-within a full) (before-one a (rest-of g) f (exact (specs_in d (rest-of g) full)))

  specs_in : {constant : Bool} {ss : ValueSpecs Span} {ts r : Lexemes} → SpellsSpecs span_to constant ss ts r → Rises ts → Full r → SpecsIn (start_of ts) (start_of r) ss
  specs_in no_specs_rule g f = tt
  specs_in (last_spec_rule d) g f = next (spec_past span_to _ d here) here g f (spec_in d g f) tt
  specs_in (more_specs_rule d k) g f = let a = spec_past span_to _ d here in two a (specs_past span_to _ k here) g f (spec_in d g full) (specs_in k (rises-within (drop a) g) f)

  spec_in : {constant : Bool} {ns : List (NameAt Span)} {t : Option (TypeExpr Span)} {xs : Exprs Span} {ts r : Lexemes} → SpellsSpec span_to constant ns t xs ts r → Rises ts → Full r → One (start_of ts) (start_of r) (λ a b. ExprsIn a b xs)
  spec_in (repeated_rule d) g f = exact tt
  spec_in (typed_var_rule d k) g f = exact tt
  spec_in (values_rule d k) g f =
      let a = drop (names_past span_to _ d here) in
      one-in (starts-up a g (full-within (exprs_past span_to _ k here) f)) itself (exprs_in k (rises-within a g) f)
  spec_in (typed_values_rule d t k) g f =
      let a = drop (both_within (type_past span_to _ t here) (names_past span_to _ d here)) in
      one-in (starts-up a g (full-within (exprs_past span_to _ k here) f)) itself (exprs_in k (rises-within a g) f)

-- ---- declarations

top_in : {d : Decl Span} {ts r : Lexemes} → SpellsTop span_to d ts r → Rises ts → Full r → DeclIn (start_of ts) (start_of r) d
top_in (top_const_rule {s = s} {ts = us} d) g f = behind-one s us (behind-of g) (full-within (decl_past span_to _ d here) f) (decl_in d (rest-of g) f)
top_in (top_var_rule {s = s} {ts = us} d) g f = behind-one s us (behind-of g) (full-within (decl_past span_to _ d here) f) (decl_in d (rest-of g) f)
top_in (top_type_rule d) g f = tt
top_in (top_type_group_rule d) g f = tt
top_in (top_func_rule d b) g f =
    let a = later (later (sig_past span_to _ d here)) in
    wider (starts-up a g (full-within (block_past span_to _ b here) f)) itself (block_in b (rises-within a g) f)
top_in (top_method_rule v d b) g f =
    let a = later (later (both_within (sig_past span_to _ d here) (drop (drop (receiver_past span_to _ v here))))) in
    wider (starts-up a g (full-within (block_past span_to _ b here) f)) itself (block_in b (rises-within a g) f)

tops_in : {ds : List (Decl Span)} {ts r : Lexemes} → SpellsTops span_to ds ts r → Rises ts → DeclsIn ds
tops_in no_tops_rule g = tt
tops_in {ts = ts} (more_tops_rule {c = c} d k) g = ((start_of ts, c.start, top_in d g full), tops_in k (rises-within (drop (top_past span_to _ d here)) g))

pub front_in : {f : File Span} {ts r : Lexemes} → SpellsFront span_to f ts r → Rises ts → DeclsIn f.decls
front_in (front_rule b is ds) g = tops_in ds (rises-within (later (later (later (imports_past span_to _ is here)))) g)

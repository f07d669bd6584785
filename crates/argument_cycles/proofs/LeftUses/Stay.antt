-- Where changes leave what is called and the values of what is declared, what is around a use stays.
use Rattle.std.proofs.Common.{◌≡◌, refl, ◌∙◌, ap, ℕ, true, false, List, [], ◌∷◌, ◌++◌, Some, None}
use Rattle.std.specs.Prelude.{slice_get}
use Rattle.go_tree.specs.Tree.{NameAt, Sig, Expr, call, func_lit, Exprs, Value, plain, Stmt, const_decl, var_decl, eval, define, return_, range_, Stmts, no_stmts, stmt_and, RangeLeft, ValueSpecs, no_specs, spec, ident}
use Rattle.go_tree.specs.File.{Func, func}
use Rattle.go_tree.specs.GoTypes.Declarations.{nothing_to_repeat}
use Rattle.go_tree.specs.GoTypes.Entities.{Env}
use Rattle.pkg_graph.specs.Package.{Package}
use Rattle.constant_steps.proofs.StepLaws.SpansKept.{value-kept}
use Rattle.run_rules.specs.FormTrees.{Form, as_expr, as_dropped, as_block, as_type, keep_span}
use Rattle.run_rules.specs.Places.{expr_seen, all_seen, written_seen, variables_seen, stmts_seen}
use Rattle.run_rules.specs.Programs.{body_place}
use Rattle.run_rules.specs.Quiet.{AllQuiet}
use Rattle.run_rules.specs.Respanned.{expr_with, exprs_with, left_with, specs_with, stmt_with}
use Rattle.run_rules.specs.Rewriting.{Changes, new_names, new_expr, new_variables}
use Rattle.run_rules.specs.Run.{Standing, Logged, Next}
use Rattle.run_rules.specs.Sites.{MarkRef, Where, part_span, called_mark}
use Rattle.run_rules.specs.Steps.{At, same_here, changes_for}
use Rattle.run_rules.specs.Surroundings.{Use, whole, called, other, Place, Seen, seen, seen_type, seen_stmt, alike, value_use, inner_slot, callee_place, after_stmt, in_heading, plain_slot, ranged, after_variables}
use Rattle.run_rules.proofs.WalksAlike.{expr-alike, all-alike, left-alike, constants-alike, variables-alike}
use Rattle.order_runs.specs.CycleRuns.ImportCycles.ImportSteps.{file_added, packages_added, where_added}
use Rattle.literal_cycles.specs.FormCycles.Bodies.{changes_of}
use Rattle.literal_cycles.specs.FormCycles.Puts.{CalleeStays, VariablesStay, StatementStays}
use Rattle.literal_cycles.specs.BodyForms.Steps.{AllStayThere}
use Rattle.argument_cycles.specs.FreeSteps.{StaysAround}
use Rattle.argument_cycles.specs.LeftUses.Left.{LeavesPart, AllLeft, LeavesBody, LeavesBodyThere}

-- ---- trees in which each span stays

abbrev first_stmt : Stmt At → Value At → Stmt At
first_stmt d (plain (func_lit s g z (stmt_and x ss))) = x
first_stmt d v = d

abbrev expr_of : Expr At → Stmt At → Expr At
expr_of d (eval s e) = e
expr_of d s = d

abbrev exprs_of : Exprs At → Stmt At → Exprs At
exprs_of d (return_ s es) = es
exprs_of d s = d

abbrev specs_of : ValueSpecs At → Stmt At → ValueSpecs At
specs_of d (var_decl s g ss) = ss
specs_of d s = d

abbrev left_of : RangeLeft At → Stmt At → RangeLeft At
left_of d (range_ s x e z b) = x
left_of d s = d

module _ (z : At) where
  stmt-same : (s : Stmt At) → stmt_with keep_span s ≡ s
  stmt-same s = ap (first_stmt s) (value-kept (plain (func_lit z (record { params = []; results = [] }) z (stmt_and s no_stmts))))

  expr-same : (e : Expr At) → expr_with keep_span e ≡ e
  expr-same e = ap (expr_of e) (stmt-same (eval z e))

  exprs-same : (es : Exprs At) → exprs_with keep_span es ≡ es
  exprs-same es = ap (exprs_of es) (stmt-same (return_ z es))

  specs-same : (ss : ValueSpecs At) → specs_with keep_span ss ≡ ss
  specs-same ss = ap (specs_of ss) (stmt-same (var_decl z false ss))

  left-same : (x : RangeLeft At) → left_with keep_span x ≡ x
  left-same x = ap (left_of x) (stmt-same (range_ z x (ident z []) z no_stmts))

-- ---- a literal of a function

-- what is made of it names nothing, as itself
literal-unnamed : (z : At) (f : Form At) (ps : List (Package At)) (marks : List MarkRef) (v : Where At) (p q : Place At) (u : Use) (s y : At) (g : Sig At) (b : Stmts At) → called_mark ps marks v p (new_expr (changes_for same_here z f) q u (func_lit s g y b)) ≡ None
literal-unnamed z (as_expr e) ps marks v p q u s y g b = refl
literal-unnamed z (as_dropped e) ps marks v p q u s y g b = refl
literal-unnamed z (as_block d) ps marks v p q u s y g b = refl
literal-unnamed z (as_type t) ps marks v p q u s y g b = refl

-- ---- one part

module _ (z : At) (f : Form At) (ps : List (Package At)) (marks : List MarkRef) (v : Where At) (at : ℕ) (m : MarkRef) where
  abbrev c : Changes At
  c = changes_for same_here z f

  back : (xs ys : List (Seen At)) → AllQuiet c (xs ++ ys) → AllQuiet c ys
  back [] ys h = h
  back (x ∷ xs) ys h = back xs ys h.1

  names-same : (ns : List (NameAt At)) → new_names c ns ≡ ns
  names-same [] = refl
  names-same (n ∷ ns) = λ w. n ∷ names-same ns w

  expr-stays : (p : Place At) (u : Use) (e : Expr At) → AllQuiet c (expr_seen p u e) → new_expr c p u e ≡ e
  expr-stays p u e h = expr-alike c p u e h ∙ expr-same z e

  specs-stay : (p : Place At) (ss : ValueSpecs At) → AllQuiet c (variables_seen p ss) → new_variables c p ss ≡ ss
  specs-stay p ss h = variables-alike c p ss h ∙ specs-same z ss

  -- what the first spec declares
  abbrev first_env : Place At → ValueSpecs At → Env
  first_env p no_specs = p.env
  first_env p (spec s ns t es ss) = (after_variables p ns t es).env

  variables-stay : (ss : ValueSpecs At) (p : Place At) → AllQuiet c (variables_seen p ss) → VariablesStay ps marks v at m c p ss
  variables-stay no_specs p h = tt
  variables-stay (spec s ns t es ss) p h = (
    (λ w. first_env p (specs-stay p (spec s ns t es ss) h w)),
    variables-stay ss (after_variables p ns t es) (back (written_seen p t ++ all_seen p (alike (value_use p.env t) ns) es) (variables_seen (after_variables p ns t es) ss) h),
  )

  callee-stays : (p : Place At) (u : Use) (y : Expr At) → LeavesPart c (seen p u y) → CalleeStays ps marks v at m c p y
  callee-stays p u (call s (func_lit s1 g y b) xs r) h = literal-unnamed z f ps marks v p (callee_place (inner_slot p.slot (call s (func_lit s1 g y b) xs r) 7 true false) (func_lit s1 g y b) p) called s1 y g b
  callee-stays p u (call s g xs r) h = λ w. called_mark ps marks v p (expr-stays (callee_place (inner_slot p.slot (call s g xs r) 7 true false) g p) called g h w)
  callee-stays p u y h = tt

  statement-stays : (p : Place At) (s : Stmt At) → LeavesPart c (seen_stmt p s) → StatementStays ps marks v at m c p s
  statement-stays p (const_decl s g ss) h = constants-alike c (plain_slot p) nothing_to_repeat 0 ss h ∙ specs-same z ss
  statement-stays p (var_decl s g ss) h = ((λ w. (after_stmt p (var_decl s g (specs-stay (plain_slot p) ss h w))).env), variables-stay ss (plain_slot p) h)
  statement-stays p (define s ns ys) h = λ w. (after_stmt p (define s (names-same ns w) ((all-alike c p (alike whole ns) ys h ∙ exprs-same z ys) w))).env
  statement-stays p (range_ s x e y b) h =
      λ w. (ranged p ((left-alike c (in_heading true p) x h.0 ∙ left-same z x) w) (expr-stays (in_heading true p) other e h.1 w)).env
  statement-stays p s h = tt

  -- so all parts of a list
  pub all-stay : (xs : List (Seen At)) → AllLeft c xs → AllStayThere c ps marks v at m xs
  all-stay [] h = tt
  all-stay (seen p u y ∷ xs) h = (callee-stays p u y h.0, all-stay xs h.1)
  all-stay (seen_type p t ∷ xs) h = (tt, all-stay xs h.1)
  all-stay (seen_stmt p s ∷ xs) h = (statement-stays p s h.0, all-stay xs h.1)

-- ---- a step

module _ (marks : List MarkRef) (st : Standing) (l : Logged) (after : Standing) (n : Next marks st l after) where
  pub stays-around : LeavesBody n → StaysAround n
  stays-around h g e =
      all-stay (part_span n.found.site.part) n.found.form st.packages marks n.found.site.at n.found.site.decl n.found.site.mark
      (stmts_seen (body_place st.packages n.found.site.at.number n.found.site.at.of n.found.site.at.source.tree g) g.body) (h g e)

  pub stays-there : LeavesBodyThere n → (g : Func At) → slice_get n.found.site.at.source.tree.decls n.found.site.decl ≡ Some (func g)
      → AllStayThere (changes_of n.found) (packages_added st.packages n.found) marks (where_added n.found) n.found.site.decl n.found.site.mark
      (stmts_seen (body_place (packages_added st.packages n.found) n.found.site.at.number (where_added n.found).of (file_added n.found) g) g.body)
  stays-there h g e =
      all-stay (part_span n.found.site.part) n.found.form (packages_added st.packages n.found) marks (where_added n.found) n.found.site.decl n.found.site.mark
      (stmts_seen (body_place (packages_added st.packages n.found) n.found.site.at.number (where_added n.found).of (file_added n.found) g) g.body) (h g e)

-- A call that becomes a literal in which an argument takes the place of its parameter and another stays the literal's, from the module, the marks and the use; it comes through by the law alone.
--   package main
--   func Log(a, b int) int { println(b, a); return a }   (marked)
--   func g() int { return 1 }                            (marked)
--   func h() int { return 2 }                            (marked)
--   func main() { println(Log(g(), h())) }
-- after the step: func main() { println(func(a int) int { println(h(), a); return a }(g())) }
use Rattle.std.proofs.Common.{◌≡◌, refl, sym, ap, ◌∙◌, ◌⊎◌, inl, inr, ℕ, Bool, true, false, List, [], ◌∷◌, Some, None, codes}
use Rattle.std.specs.Prelude.{is_some}
use Rattle.go_tree.specs.declared.exprs.Rest.TheVariants.{Plain}
use Rattle.go_tree.specs.Tree.{NameAt, named, Param, Expr, ident, int_lit, call, no_exprs, expr_and, Stmt, eval, return_, no_stmts, stmt_and}
use Rattle.go_tree.specs.File.{Func, func}
use Rattle.pkg_graph.specs.Package.{SourceTree, Package}
use Rattle.run_rules.specs.Calls.{given_params}
use Rattle.run_rules.specs.Cycles.{LeadsTo}
use Rattle.run_rules.specs.FormTrees.{LiteralForm}
use Rattle.run_rules.specs.Forms.{literal_tree}
use Rattle.run_rules.specs.Places.{expr_seen}
use Rattle.run_rules.specs.Programs.{body_place}
use Rattle.run_rules.specs.Sites.{MarkRef, is_among_marks, Where, Site, an_expr, called_mark}
use Rattle.run_rules.specs.Steps.{At, same_here}
use Rattle.run_rules.specs.Surroundings.{whole, other, Place, a_slot, in_slot, at_stmt}
use Rattle.run_rules.proofs.CaseTools.{mark}
use Rattle.order_runs.specs.CycleLaws.PutCalls.{called_among}
use Rattle.order_runs.proofs.CycleLaws.ConstantCycles.Examples.{node}
use Rattle.literal_cycles.specs.BodyForms.Uses.{CalledUse, call_of, chosen_of, names_for, Becomes}
use Rattle.literal_cycles.proofs.BodyForms.FormsWritten.{apart, expr_in}
use Rattle.argument_cycles.specs.Braces.{IsInside}
use Rattle.argument_cycles.specs.NamesAlone.{AllByNames}
use Rattle.argument_cycles.proofs.NamesAlone.{name_inside}
use Rattle.argument_cycles.proofs.GivenCalled.{arguments_led}
use Rattle.argument_cycles.specs.Literals.{PlacedLiteral}
use Rattle.argument_cycles.proofs.PlacedLiterals.{literal_comes}

abbrev name : At → List ℕ → NameAt At
name s n = record { span = s; name = n }

abbrev an_int : ℕ → Param At
an_int s = record { span = node s; name = None; rest = false; of = named (node s) None (name (node s) (codes "int")) }

abbrev parameter : ℕ → List ℕ → Param At
parameter s n = record (an_int s) { name = Some (name (node s) n) }

abbrev calling : ℕ → ℕ → List ℕ → Expr At
calling s z n = call (node s) (ident (node z) n) no_exprs Plain

-- println(.., a)
abbrev printing : (ℕ → At) → Expr At → Stmt At
printing at e = eval (at 14) (call (at 15) (ident (at 16) (codes "println")) (expr_and e (expr_and (ident (at 18) (codes "a")) no_exprs)) Plain)

abbrev log : Func At
log = record { span = node 10; receiver = None; name = name (node 10) (codes "Log"); sig = record { params = parameter 11 (codes "a") ∷ parameter 12 (codes "b") ∷ []; results = an_int 13 ∷ [] }; body_span = node 10; body = stmt_and (printing node (ident (node 17) (codes "b"))) (stmt_and (return_ (node 19) (expr_and (ident (node 22) (codes "a")) no_exprs)) no_stmts) }

abbrev constant : ℕ → List ℕ → List ℕ → Func At
constant s n k = record { span = node s; receiver = None; name = name (node s) n; sig = record { params = []; results = an_int s ∷ [] }; body_span = node s; body = stmt_and (return_ (node s) (expr_and (int_lit (node s) k) no_exprs)) no_stmts }

abbrev call_g : Expr At
call_g = calling 43 44 (codes "g")

abbrev call_h : Expr At
call_h = calling 45 46 (codes "h")

abbrev the_call : Expr At
the_call = call (node 41) (ident (node 42) (codes "Log")) (expr_and call_g (expr_and call_h no_exprs)) Plain

abbrev logging : Stmt At
logging = eval (node 40) (call (node 47) (ident (node 48) (codes "println")) (expr_and the_call no_exprs) Plain)

abbrev main : Func At
main = record { span = node 39; receiver = None; name = name (node 39) (codes "main"); sig = record { params = []; results = [] }; body_span = node 39; body = stmt_and logging no_stmts }

abbrev source : SourceTree At
source = record { path = codes "main.go"; tree = record { package_name = name (node 1) (codes "main"); imports = []; decls = func log ∷ func (constant 20 (codes "g") (codes "1")) ∷ func (constant 30 (codes "h") (codes "2")) ∷ func main ∷ [] } }

abbrev pk : Package At
pk = record { path = codes "m"; name = codes "main"; files = source ∷ [] }

abbrev rs : List (Package At)
rs = pk ∷ []

abbrev here : Where At
here = record { number = 0; of = pk; file_number = 0; source = source }

abbrev marks : List MarkRef
marks = mark 0 0 0 0 ∷ mark 0 0 1 0 ∷ mark 0 0 2 0 ∷ []

abbrev no_comments : ℕ → ℕ → At → Bool
no_comments k f s = false

abbrev there : Place At
there = in_slot (a_slot 1 false true) (at_stmt (body_place rs 0 pk source.tree main) logging)

abbrev use_of_log : Site At
use_of_log = record { at = here; decl = 3; place = there; use_ = whole; part = an_expr the_call; mark = mark 0 0 0 0 }

log_use : CalledUse same_here no_comments rs marks use_of_log
log_use = record { tree = the_call; part = refl; home = here; stands = refl; callee = log; declared = refl }

log_becomes : Becomes same_here no_comments rs marks use_of_log log_use LiteralForm
unfolding log_use
log_becomes = record {
  form = literal_tree same_here rs (call_of same_here no_comments rs marks use_of_log log_use) (names_for same_here no_comments rs marks use_of_log log_use LiteralForm) (chosen_of same_here no_comments rs marks use_of_log log_use);
  range = node 41;
  packages = [];
  reduces = refl;
}

literal : Expr At
unfolding log_use log_becomes
literal = expr_in the_call log_becomes.form

-- ---- by names alone

-- at each place inside `println` names no marked function, by the law
println_led : (q : Place At) → IsInside no_comments rs marks use_of_log log_use q → (b : MarkRef) → called_mark rs marks here q (ident (node 41) (codes "println")) ≡ Some b → LeadsTo rs marks (mark 0 0 0 0) b
println_led q i b e = go (name_inside no_comments rs marks use_of_log log_use q i (node 41) (codes "println"))
  where
    go : (called_mark rs marks here q (ident (node 41) (codes "println")) ≡ None) ⊎ (called_mark rs marks here q (ident (node 41) (codes "println")) ≡ called_mark rs marks here there (ident (node 41) (codes "println"))) → LeadsTo rs marks (mark 0 0 0 0) b
    go (inl n) = apart (ap is_some (sym n ∙ e))
    go (inr n) = apart (ap is_some (sym n ∙ e))

by_names : AllByNames no_comments rs marks use_of_log log_use (given_params same_here rs (call_of same_here no_comments rs marks use_of_log log_use))
unfolding log_use
by_names = (((refl, tt), λ w. refl), (((refl, tt), λ w. refl), tt))

log_placed : PlacedLiteral no_comments rs marks use_of_log log_use
unfolding log_use log_becomes literal
log_placed = record {
  becomes = log_becomes;
  literal = literal;
  is_literal = refl;
  callees = (tt, (tt, (tt, (λ q i b e f. println_led q i.0 b e, (tt, (tt, (tt, tt)))))));
  arguments = arguments_led no_comments rs marks use_of_log log_use LiteralForm by_names;
}

-- by the law alone: the literal calls what the call did, or what `Log` leads to
log_comes : (b : MarkRef) → is_among_marks (called_among rs marks here 3 (expr_seen there other literal)) b ≡ true → (is_among_marks (called_among rs marks here 3 (expr_seen there other the_call)) b ≡ true) ⊎ LeadsTo rs marks (mark 0 0 0 0) b
unfolding log_use log_becomes literal log_placed
log_comes b e = literal_comes no_comments rs marks use_of_log log_use log_placed 3 b e

-- what the arguments call is called still
log_stays : called_among rs marks here 3 (expr_seen there other literal) ≡ mark 0 0 2 0 ∷ mark 0 0 1 0 ∷ []
unfolding log_use log_becomes literal
log_stays = refl

-- The form that a run finds for a call, with the argument in the parameter's place: it calls through.
--   func F(a int) { G(a) }   (marked)
--   func G(b int) { G(b) }   (marked)
--   func H() { F(1) }
use Rattle.std.proofs.Common.{◌≡◌, refl, subst, inr, ℕ, suc, Bool, true, false, ◌||◌, List, [], ◌∷◌, map, Some, None, codes}
use Rattle.std.proofs.lemmas.Option.{same_Some}
use Rattle.go_tree.specs.declared.exprs.Rest.TheVariants.{Plain}
use Rattle.go_tree.specs.Tree.{NameAt, named, Expr, ident, int_lit, call, no_exprs, expr_and, eval, Stmts, no_stmts, stmt_and}
use Rattle.go_tree.specs.File.{Func, func, File}
use Rattle.pkg_graph.specs.Package.{SourceTree, Package}
use Rattle.run_rules.specs.Surroundings.{Place, at_stmt}
use Rattle.run_rules.specs.Places.{stmts_seen}
use Rattle.run_rules.specs.Programs.{body_place}
use Rattle.run_rules.specs.Rewriting.{new_stmts}
use Rattle.run_rules.specs.Sites.{MarkRef, same_mark, Where, part_span}
use Rattle.run_rules.specs.FormTrees.{as_expr}
use Rattle.run_rules.specs.Steps.{At, Found, same_here, changes_for, first_step}
use Rattle.run_rules.specs.Cycles.{LeadsTo, is_recursive}
use Rattle.run_rules.proofs.CaseTools.{mark, param, sig}
use Rattle.run_rules.proofs.Instances.{the}
use Rattle.order_runs.specs.CycleLaws.PutCalls.{GivesWayAmong, mark_there, called_among}
use Rattle.order_runs.proofs.CycleLaws.ConstantCycles.Examples.{node}
use Rattle.order_runs.proofs.CycleLaws.ConstantCycles.OffCycles.{one_mark}
use Rattle.literal_cycles.specs.FormCycles.Puts.{ExprCallsThrough, AllPutThrough}
use Rattle.literal_cycles.proofs.FormCycles.BodiesPut.{statements-give}

abbrev name_of : ℕ → List ℕ → NameAt At
name_of s n = record { span = node s; name = n }

abbrev calling : ℕ → List ℕ → Expr At → Expr At
calling s n e = call (node s) (ident (node (suc s)) n) (expr_and e no_exprs) Plain

abbrev only_stmt : ℕ → Expr At → Stmts At
only_stmt s e = stmt_and (eval (node s) e) no_stmts

-- func n(p int) { n's one statement }
abbrev taking : ℕ → List ℕ → List ℕ → Stmts At → Func At
taking s n p b = record { span = node s; receiver = None; name = name_of (suc s) n; sig = sig (param (node s) (Some (name_of (suc (suc s)) p)) (named (node s) None (name_of s (codes "int"))) ∷ []) []; body_span = node s; body = b }

abbrev use_ : Expr At
use_ = calling 35 (codes "F") (int_lit (node 37) (codes "1"))

abbrev caller : Func At
caller = record { span = node 30; receiver = None; name = name_of 31 (codes "H"); sig = sig [] []; body_span = node 32; body = only_stmt 34 use_ }

abbrev tree : File At
tree = record {
  package_name = name_of 0 (codes "m");
  imports = [];
  decls = func (taking 10 (codes "F") (codes "a") (only_stmt 14 (calling 15 (codes "G") (ident (node 17) (codes "a"))))) ∷ func (taking 20 (codes "G") (codes "b") (only_stmt 24 (calling 25 (codes "G") (ident (node 27) (codes "b"))))) ∷ func caller ∷ [];
}

abbrev file : SourceTree At
file = record { path = codes "m.go"; tree = tree }

abbrev package_ : Package At
package_ = record { path = codes "m"; name = codes "m"; files = file ∷ [] }

abbrev packages : List (Package At)
packages = package_ ∷ []

abbrev f : MarkRef
f = mark 0 0 0 0

abbrev g : MarkRef
g = mark 0 0 1 0

abbrev marks : List MarkRef
marks = f ∷ g ∷ []

abbrev w : Where At
w = record { number = 0; of = package_; file_number = 0; source = file }

abbrev start : Place At
start = body_place packages 0 package_ tree caller

-- the first use that becomes a form is the call of F, since G lies on a cycle
abbrev found : Found At
found = the (first_step same_here (λ k j a. false) packages marks) refl

found-there : part_span found.site.part ≡ node 35
found-there = refl

-- G(1)
abbrev put : Expr At
put = call (node 35) (ident (node 35) (codes "G")) (expr_and (int_lit (node 37) (codes "1")) no_exprs) Plain

form-is : found.form ≡ as_expr put
form-is = refl

only : (b m : MarkRef) → (same_mark b m || false) ≡ true → b ≡ m
only b m e = of (same_mark b m) refl e
  where
    of : (t : Bool) → same_mark b m ≡ t → (t || false) ≡ true → b ≡ m
    of true h e = one_mark b m h
    of false h e = cc

abbrev here : Place At
here = at_stmt start (eval (node 34) use_)

through : ExprCallsThrough packages marks w 2 f here put use_
through = record { comes = λ b e. inr e; stays = λ b e. inr (only b f e) }

puts : AllPutThrough packages marks w 2 f (changes_for same_here (node 35) (as_expr put)) (stmts_seen start caller.body)
puts = (
  (tt, λ y e. cc),
  (
    (tt, λ y e. cc),
    (
      (refl, λ y e. subst (λ (q : Expr At). ExprCallsThrough packages marks w 2 f here q use_) (same_Some put y e) through),
      (
        (tt, λ y e. cc),
        tt,
      ),
    ),
  ),
)

led : LeadsTo packages marks (mark_there w 2) f
led = refl

gives : GivesWayAmong packages marks (mark_there w 2) f (called_among packages marks w 2 (stmts_seen start (new_stmts (changes_for same_here (node 35) (as_expr put)) start caller.body))) (called_among packages marks w 2 (stmts_seen start caller.body))
gives = statements-give same_here (node 35) (as_expr put) tt packages marks w 2 f led start caller.body puts

cycles : map (is_recursive packages marks) marks ≡ false ∷ true ∷ []
cycles = refl

-- A call that becomes a literal of its function, in which some arguments take the places of parameters, and the others
-- stay its arguments (Go specification, Calls; Function literals).
use Rattle.std.specs.Prelude.{◌≡◌, ℕ, ◌⊎◌, Bool, true, List, [], Some, slice_get}
use Rattle.go_tree.specs.Tree.{Expr}
use Rattle.go_tree.specs.File.{Func, func}
use Rattle.pkg_graph.specs.Package.{Package}
use Rattle.run_rules.specs.Calls.{start_with, given_params}
use Rattle.run_rules.specs.FormTrees.{LiteralForm, as_expr}
use Rattle.run_rules.specs.Naming.{imports_added}
use Rattle.run_rules.specs.Places.{expr_seen, stmts_seen}
use Rattle.run_rules.specs.Programs.{body_place}
use Rattle.run_rules.specs.Run.{Standing, Logged, Next, is_commented}
use Rattle.run_rules.specs.Sites.{MarkRef, is_among_marks, Site}
use Rattle.run_rules.specs.Steps.{At, same_here}
use Rattle.run_rules.specs.Surroundings.{other}
use Rattle.order_runs.specs.CycleLaws.PutCalls.{called_among}
use Rattle.literal_cycles.specs.FormCycles.Bodies.{changes_of}
use Rattle.literal_cycles.specs.BodyForms.Steps.{AllStayThere}
use Rattle.literal_cycles.specs.BodyForms.Uses.{CalledUse, call_of, chosen_of, Becomes}
use Rattle.argument_cycles.specs.Braces.{AllCalleesLed, AllArgumentsLed}

-- The use becomes this literal; at each place inside what is called in its body names no marked function, or one that
-- the function leads to, and arguments call what the call does.
pub record PlacedLiteral (commented : ℕ → ℕ → At → Bool) (rs : List (Package At)) (marks : List MarkRef) (x : Site At)
    (u : CalledUse same_here commented rs marks x) : Type 0 where
  pub becomes : Becomes same_here commented rs marks x u LiteralForm
  pub literal : Expr At
  pub is_literal : becomes.form ≡ as_expr literal
  pub callees :
      AllCalleesLed commented rs marks x u LiteralForm (stmts_seen
      (start_with same_here rs (call_of same_here commented rs marks x u) (chosen_of same_here commented rs marks x u))
      u.callee.body)
  pub arguments :
      AllArgumentsLed commented rs marks x u LiteralForm
      (given_params same_here rs (call_of same_here commented rs marks x u))

-- The step's use becomes such a literal, which calls what the receiver and the arguments do, and it adds no import; in
-- the function around, what is around it stays.
pub record PutsPlacedLiteral {marks : List MarkRef} {st : Standing} {l : Logged} {after : Standing}
    (n : Next marks st l after) : Type 0 where
  pub use_ : CalledUse same_here (is_commented st) st.packages marks n.found.site
  pub placed : PlacedLiteral (is_commented st) st.packages marks n.found.site use_
  pub stays :
      (b : MarkRef)
      → is_among_marks (called_among st.packages marks n.found.site.at n.found.site.decl
      (expr_seen n.found.site.place other use_.tree)) b ≡ true
      → (is_among_marks (called_among st.packages marks n.found.site.at n.found.site.decl
      (expr_seen n.found.site.place other placed.literal)) b ≡ true) ⊎ (b ≡ n.found.site.mark)
  pub adds_nothing : imports_added n.found.named ≡ []
  pub around :
      (g : Func At) → slice_get n.found.site.at.source.tree.decls n.found.site.decl ≡ Some (func g)
      → AllStayThere (changes_of n.found) st.packages marks n.found.site.at n.found.site.decl n.found.site.mark
      (stmts_seen (body_place st.packages n.found.site.at.number n.found.site.at.of n.found.site.at.source.tree g)
      g.body)

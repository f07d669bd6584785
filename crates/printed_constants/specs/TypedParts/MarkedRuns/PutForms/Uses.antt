-- A use that a run takes next (Go specification, Constant declarations; Qualified identifiers; Declarations and scope).
use Rattle.std.specs.Prelude.{◌≡◌, ◌<◌, ℕ, List, Some, length}
use Rattle.go_tree.specs.Tree.{NameAt, Expr}
use Rattle.constant_edits.specs.ConstantValue.{ConstantValue}
use Rattle.constant_edits.specs.ConstantValue.TheVariants.{Plain, Qualified}
use Rattle.pkg_graph.specs.Package.{Package}
use Rattle.order_runs.specs.CycleRuns.OrderCycles.NewNames.{AvoidsFew}
use Rattle.put_names.specs.Uses.{IsDeclaredAsName}
use Rattle.run_rules.specs.Marks.{text_at}
use Rattle.run_rules.specs.Run.{Standing, step_in}
use Rattle.run_rules.specs.Sites.{MarkRef, Where, a_constant, an_expr, where_is, inlinable}
use Rattle.run_rules.specs.Steps.{At, Found}
use Rattle.run_rules.specs.Texts.{FileText}

-- It is the first use of the program that becomes a form, in the file with this text.
pub record IsFirstUse (marks : List MarkRef) (st : Standing) (f : Found At) (old : FileText) : Type 0 where
  pub is_first : step_in marks st ≡ Some f
  pub there : text_at f.site.at.source.path st.texts ≡ Some old

-- It is an expression that uses a constant which is declared as a name. The names to avoid are fewer than 2^64.
pub record UsesNamedConstant (st : Standing) (f : Found At) (old : FileText) : Type 0 where
  pub home : Where At
  pub home_is : where_is st.packages f.site.mark ≡ Some home
  pub name : NameAt At
  pub value : Expr At
  pub declared : inlinable st.packages f.site.mark ≡ Some (a_constant name value)
  pub as_name : IsDeclaredAsName st.packages home value
  pub expr : Expr At
  pub part : f.site.part ≡ an_expr expr
  pub few : AvoidsFew st.packages f

-- where a constant is declared as a name of another package, that is one of these
abbrev pub IsOfPackages : List (Package At) → ConstantValue → Type 0
IsOfPackages ps (Plain n m) = Unit {0}
IsOfPackages ps (Qualified k n) = k < length ps

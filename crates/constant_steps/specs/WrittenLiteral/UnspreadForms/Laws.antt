-- The laws of forms in programs without calls that hand on a slice. Each is the contract of a function of this crate
-- (Go specification, Passing arguments to ... parameters).
use Rattle.std.specs.Prelude.{◌≡◌, ℕ, Bool, List, Contains}
use Rattle.go_tree.specs.declared.spans.Span.{Span}
use Rattle.go_tree.specs.Tree.{Expr, Stmt, inner, Stmts}
use Rattle.go_tree.specs.Bare.{bare_expr, bare_stmt}
use Rattle.splice_laws.specs.Swaps.{an_operand, a_callee, a_stmt, a_deferred}
use Rattle.splice_laws.specs.ImportSplices.TypedDots.Unspread.{UnspreadNew}
use Rattle.run_rules.specs.Sites.{MarkRef, Site, sites}
use Rattle.run_rules.specs.Naming.{Named}
use Rattle.run_rules.specs.FormTrees.{FormKind, Form, as_expr, as_dropped, as_block}
use Rattle.run_rules.specs.Texts.{dropped}
use Rattle.run_rules.specs.Steps.{At}
use Rattle.run_rules.specs.Run.{Standing, Logged, FormOf, Next, Run}
use Rattle.constant_steps.specs.WrittenLiteral.UnspreadForms.UnspreadForms.{UnspreadForm, UnspreadPackages}

-- In such a program the form of each use has no such call.
abbrev pub FormsAreUnspread : Type 0
FormsAreUnspread =
    (marks : List MarkRef) (st : Standing) (x : Site At) (k : FormKind) (f : Form At) (range : At) (named : List Named)
    → UnspreadPackages st.packages → Contains (sites st.packages marks) x → FormOf marks st x k f range named
    → UnspreadForm f

-- So a step leaves such a program.
abbrev pub StepsStayUnspread : Type 0
StepsStayUnspread =
    (marks : List MarkRef) (st : Standing) (l : Logged) (after : Standing) (n : Next marks st l after)
    → UnspreadPackages st.packages → UnspreadPackages after.packages

-- And a run does.
abbrev pub RunsStayUnspread : Type 0
RunsStayUnspread =
    (marks : List MarkRef) (st : Standing) (log : List Logged) (last : Standing) → Run marks st log last
    → UnspreadPackages st.packages → UnspreadPackages last.packages

-- An expression's form, whatever its spans are, is a new node of a swap without such a call: as an operand, as what is
-- called, and as a deferred call.
abbrev pub ExpressionsAreUnspread : Type 0
ExpressionsAreUnspread =
    (e : Expr At) (new : Expr Span) → bare_expr new ≡ bare_expr e → UnspreadForm (as_expr e) → (level : ℕ)
    (header : Bool) (old : Expr Span) → UnspreadNew (an_operand level header old new)
    × UnspreadNew (a_callee header old new) × UnspreadNew (a_deferred old new)

-- So are statements in braces, and an assignment to `_`.
abbrev pub StatementsAreUnspread : Type 0
StatementsAreUnspread =
    (z : At) (old new : Stmt Span) → ((b : Stmts At) → bare_stmt new ≡ bare_stmt (inner z b)
    → UnspreadForm (as_block b) → UnspreadNew (a_stmt old new)) × ((e : Expr At)
    → bare_stmt new ≡ bare_stmt (dropped z e) → UnspreadForm (as_dropped e) → UnspreadNew (a_stmt old new))

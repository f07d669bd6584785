-- The laws of uses whose steps add imports. Each is the contract of a function of this crate (Go specification, Calls;
-- Import declarations; Qualified identifiers; Declarations and scope).
use Rattle.std.specs.Prelude.{List}
use Rattle.go_tree.specs.ScopeNames.Binders.{func_binders}
use Rattle.constant_steps.specs.FormImports.OwnNames.{AllOwn}
use Rattle.run_rules.specs.Run.{Standing, Logged, Next, is_commented}
use Rattle.run_rules.specs.Sites.{MarkRef}
use Rattle.run_rules.specs.Steps.{same_here}
use Rattle.order_runs.specs.CycleRuns.Linked.{Linked, SettlesFile}
use Rattle.literal_cycles.specs.BodyForms.Uses.{CalledUse}
use Rattle.argument_cycles.specs.ImportingSteps.Puts.{PutsAddedBlock, PutsAddedLiteral, PutsAddedExpression}
use Rattle.argument_cycles.specs.FoundThere.There.{UseThere, FormThere, NamesStay}
use Rattle.argument_cycles.specs.FoundThere.Steps.{PutsFoundBlock, PutsFoundLiteral, PutsFoundExpression}

-- With the imports of its form added, a call that a step replaces stands in its declaration where it stood.
abbrev pub CallsStandThere : Type 0
CallsStandThere =
    (marks : List MarkRef) (st : Standing) (l : Logged) (after : Standing) (n : Next marks st l after)
    → Linked st.packages → SettlesFile n → CalledUse same_here (is_commented st) st.packages marks n.found.site
    → UseThere n

-- Each package that the form names has there the name that it has in the form: a new import is the first of its path
-- that serves, and all others serve as they did.
abbrev pub PackagesKeepNames : Type 0
PackagesKeepNames =
    (marks : List MarkRef) (st : Standing) (l : Logged) (after : Standing) (n : Next marks st l after)
    → Linked st.packages → SettlesFile n → AllOwn st.packages
    → (u : CalledUse same_here (is_commented st) st.packages marks n.found.site)
    → NamesStay n n.found.site.place (func_binders u.callee)

-- It calls the same function there, and it becomes the form of the step, of whatever kind.
abbrev pub CallsBecomeTheSame : Type 0
CallsBecomeTheSame =
    (marks : List MarkRef) (st : Standing) (l : Logged) (after : Standing) (n : Next marks st l after)
    → Linked st.packages → SettlesFile n → AllOwn st.packages
    → CalledUse same_here (is_commented st) st.packages marks n.found.site → (t : UseThere n) → FormThere n t.place

-- So what is put is the form that the use becomes there: statements,
abbrev pub FoundBlocksAreAdded : Type 0
FoundBlocksAreAdded =
    (marks : List MarkRef) (st : Standing) (l : Logged) (after : Standing) (n : Next marks st l after)
    → Linked st.packages → SettlesFile n → AllOwn st.packages → PutsFoundBlock n → PutsAddedBlock n

-- a literal,
abbrev pub FoundLiteralsAreAdded : Type 0
FoundLiteralsAreAdded =
    (marks : List MarkRef) (st : Standing) (l : Logged) (after : Standing) (n : Next marks st l after)
    → Linked st.packages → SettlesFile n → AllOwn st.packages → PutsFoundLiteral n → PutsAddedLiteral n

-- or an expression.
abbrev pub FoundExpressionsAreAdded : Type 0
FoundExpressionsAreAdded =
    (marks : List MarkRef) (st : Standing) (l : Logged) (after : Standing) (n : Next marks st l after)
    → Linked st.packages → SettlesFile n → AllOwn st.packages → PutsFoundExpression n → PutsAddedExpression n

-- The laws of uses of marked constants in typed programs. Each is the contract of a function of this crate (Go
-- specification, Types; Constant declarations; Operands; Qualified identifiers).
use Rattle.std.specs.Prelude.{◌≡◌, List, [], Contains}
use Rattle.go_tree.specs.Tree.{Expr}
use Rattle.go_translation.specs.SameMeaning.{WellTyped}
use Rattle.constant_steps.specs.FormImports.OwnNames.{AllOwn}
use Rattle.constant_steps.specs.QualifiedSteps.MemberNames.{NamesMember}
use Rattle.order_runs.specs.CycleRuns.OrderCycles.NewNames.{AvoidsFew}
use Rattle.order_runs.specs.RunSteps.RunPackages.{packages_of}
use Rattle.printed_constants.specs.TypedParts.MarkedRuns.NamedMarks.Named.{AllNamed}
use Rattle.printed_constants.specs.TypedParts.MarkedRuns.PutForms.Uses.{IsFirstUse, UsesNamedConstant}
use Rattle.printed_constants.specs.TypedParts.MarkedRuns.SettledConstants.Programs.{IsReady}
use Rattle.constant_edits.specs.ConstantForm.{ConstantForm}
use Rattle.printed_constants.specs.TypedParts.StandingUses.ImportUses.Steps.{EachDecl, IsStanding}
use Rattle.printed_constants.specs.TypedParts.StandingUses.Laws.{AreTyped}
use Rattle.printed_constants.specs.TypedParts.StandingUses.ToldSteps.Laws.{BecomesForm}
use Rattle.run_rules.specs.Run.{Standing, Logged, Next, is_commented}
use Rattle.run_rules.specs.Sites.{MarkRef, Site, an_expr, sites}
use Rattle.run_rules.specs.Steps.{At, Found, same_here, new_decls, packages_between, where_between}
use Rattle.run_rules.specs.Texts.{FileText}
use Rattle.constant_modules.specs.KeyedImports.Steps.{KeepsUses, IsOverNameKeyed}

-- In a ready, well-typed program whose marks are all of constants that are declared as names each use is an expression:
-- a written type that names a constant isn't typed.
abbrev pub ConstantUsesAreExpressions : Type 0
ConstantUsesAreExpressions =
    (marks : List MarkRef) (st : Standing) → IsReady st → WellTyped (packages_of st.packages [])
    → AllNamed st.packages marks → (x : Site At) → Contains (sites st.packages marks) x
    → (e : Expr At) × (x.part ≡ an_expr e)

-- So is the use of each step.
abbrev pub StepsUseExpressions : Type 0
StepsUseExpressions =
    (marks : List MarkRef) (st : Standing) (l : Logged) (after : Standing) (n : Next marks st l after) → IsReady st
    → WellTyped (packages_of st.packages []) → AllNamed st.packages marks
    → (e : Expr At) × (n.found.site.part ≡ an_expr e)

-- So the first use of such a program that becomes a form uses a constant that is declared as a name, as put_forms asks,
-- where few names are avoided.
abbrev pub FirstUsesUseConstants : Type 0
FirstUsesUseConstants =
    (marks : List MarkRef) (st : Standing) (f : Found At) (old : FileText) → IsReady st
    → WellTyped (packages_of st.packages []) → AllNamed st.packages marks → IsFirstUse marks st f old
    → AvoidsFew st.packages f → UsesNamedConstant st f old

-- And a step is over a marked constant as keyed_imports asks, where besides what names and keys mean is kept, and each
-- package has a name of its own.
abbrev pub StepsAreOverNames : Type 0
StepsAreOverNames =
    (marks : List MarkRef) (st : Standing) (l : Logged) (after : Standing) (n : Next marks st l after) → IsReady st
    → WellTyped (packages_of st.packages []) → AllOwn st.packages → AllNamed st.packages marks
    → AvoidsFew st.packages n.found → KeepsUses n → IsOverNameKeyed n

-- And the use of a step is, at its place, a name of the marked constant, exported where the name of a package stands
-- before it, as qualified_steps asks of uses.
abbrev pub StepsUseMembers : Type 0
StepsUseMembers =
    (marks : List MarkRef) (st : Standing) (l : Logged) (after : Standing) (n : Next marks st l after) → IsReady st
    → WellTyped (packages_of st.packages []) → AllNamed st.packages marks → (e : Expr At)
    → n.found.site.part ≡ an_expr e → NamesMember st.packages n.found.site.at n.found.site.place e n.found.site.mark

-- Of what typing gives of the file of such a use (standing_uses' `AreTyped`) all holds in a program of any declarations,
-- where the declarations with the form in the place of the use are as import_uses asks.
abbrev pub FirstUsesAreTypedBefore : Type 0
FirstUsesAreTypedBefore =
    (marks : List MarkRef) (st : Standing) (f : Found At) (old : FileText) (form : ConstantForm) → IsReady st
    → WellTyped (packages_of st.packages []) → IsFirstUse marks st f old → UsesNamedConstant st f old
    → BecomesForm f form
    → EachDecl
    (IsStanding (packages_between same_here (is_commented st) st.packages marks f)
    (where_between same_here (is_commented st) st.packages marks f)) (new_decls same_here st.packages f.site f.form)
    → AreTyped marks st f form

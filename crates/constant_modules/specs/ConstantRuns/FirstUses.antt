-- The laws of the first uses of programs of constants, as a search has them before their steps are known. Each is the
-- contract of a function of this crate (Go specification, Constant declarations; Identifiers; Declarations and scope;
-- Import declarations).
use Rattle.std.specs.Prelude.{List}
use Rattle.constant_edits.specs.ConstantForm.{ConstantForm}
use Rattle.printed_constants.specs.TypedParts.MarkedRuns.PutForms.Uses.{IsFirstUse, UsesNamedConstant}
use Rattle.printed_constants.specs.TypedParts.StandingUses.Laws.{AreTyped}
use Rattle.printed_constants.specs.TypedParts.StandingUses.ToldSteps.Laws.{BecomesForm}
use Rattle.run_rules.specs.Run.{Standing, Logged, Next}
use Rattle.run_rules.specs.Sites.{MarkRef}
use Rattle.run_rules.specs.Steps.{At, Found}
use Rattle.run_rules.specs.Texts.{FileText}
use Rattle.constant_modules.specs.NamedAnywhere.Taken.{TakesNameThere}
use Rattle.constant_modules.specs.NamedThere.Steps.{IsOfConstants}

-- A step in a program of constants takes its name, but for its imports at last.
abbrev pub ConstantStepsTakeNamesThere : Type 0
ConstantStepsTakeNamesThere =
    (marks : List MarkRef) (st : Standing) (l : Logged) (after : Standing) (n : Next marks st l after)
    → IsOfConstants marks st → TakesNameThere n

-- The first use of such a program that becomes a form is that of a constant which is declared as a name, and the names
-- to avoid are few: so it is before a step over it is known.
abbrev pub FirstUsesAreOfConstants : Type 0
FirstUsesAreOfConstants =
    (marks : List MarkRef) (st : Standing) (f : Found At) (old : FileText) → IsOfConstants marks st
    → IsFirstUse marks st f old → UsesNamedConstant st f old

-- So its file is typed as standing_uses asks, before the step and with the form in the use's place.
abbrev pub FirstUsesOfConstantsAreTyped : Type 0
FirstUsesOfConstantsAreTyped =
    (marks : List MarkRef) (st : Standing) (f : Found At) (old : FileText) (form : ConstantForm)
    → IsOfConstants marks st → IsFirstUse marks st f old → BecomesForm f form → AreTyped marks st f form

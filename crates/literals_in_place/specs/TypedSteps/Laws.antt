-- The laws of steps in the bodies of functions of well-typed packages. Each is the contract of a function of this crate
-- (Go specification, Calls; Function literals; Constant expressions; Function declarations; Program execution).
use Rattle.std.specs.Prelude.{◌≡◌, ℕ, IsTrue, List, length}
use Rattle.go_tree.specs.declared.spans.Span.{Span}
use Rattle.go_tree.specs.Tree.{Expr}
use Rattle.go_kernel.specs.Kernel.{ImportPath}
use Rattle.go_translation.specs.Packages.{paths_in, are_well_typed, freely_shown_by}
use Rattle.run_rules.specs.FormTrees.{as_expr}
use Rattle.run_rules.specs.Places.{stmts_seen}
use Rattle.run_rules.specs.Programs.{body_place}
use Rattle.literal_steps.specs.CalledAt.{CalledAt, PackagesServe}
use Rattle.literal_steps.specs.RankedMarks.Free.{is_free, Translated, NoConstantGroups}
use Rattle.literal_steps.specs.RankedMarks.Ranks.{marked_functions}
use Rattle.meaning_in_place.specs.Runs.{ShowTheSame}
use Rattle.literals_in_place.specs.StepsInBodies.Functions.{use_here, ImportStaysUsed}
use Rattle.literals_in_place.specs.StepsInBodies.Once.{AllClear}
use Rattle.literals_in_place.specs.TypedSteps.Uses.{UseInBody, with_literal, free_in, marked_in, LiteralStep}

-- At the place of the use the names that aren't declared in the body mean what they do at the top of the file, and it
-- isn't in a constant's value.
abbrev pub CallsStandInTheirFiles : Type 0
CallsStandInTheirFiles = (x : UseInBody Span) → CalledAt x.packages x.members x.site (use_here x.members x.site)

-- There each package that the function names has a name that serves.
abbrev pub PackagesOfCallsServe : Type 0
PackagesOfCallsServe =
    (x : UseInBody Span) →
    PackagesServe x.packages x.members x.site x.same x.commented x.marks x.becomes (use_here x.members x.site)

-- The use stands in nothing that is called but a literal or a selector, and in no group of constants; literals of
-- functions are typed.
abbrev pub CallsStandClear : Type 0
CallsStandClear =
    (x : UseInBody Span) →
    AllClear x.same x.site (Unit {0})
    (stmts_seen
    (body_place x.packages x.site.at.number x.site.at.of x.site.at.source.tree x.stands.function)
    x.stands.function.body)

-- So a step of a run that puts a literal in the place of its call, in the body of a function of well-typed packages,
-- leaves packages that show the same, beside all further packages.
abbrev pub TypedStepsShowTheSame : Type 0
TypedStepsShowTheSame =
    (x : UseInBody Span) (e : Expr Span) → x.becomes.form ≡ as_expr e → Translated x.packages x.marks x.members →
    NoConstantGroups x.packages x.marks → ImportStaysUsed x.site x.by_name.called (with_literal x e) →
    ShowTheSame (is_free x.packages x.marks (paths_in x.members)) (length (marked_functions x.packages x.marks))
    x.members (with_literal x e)

-- So the whole program, where it is well typed, is well typed after such a step, and shows the same: at each budget,
-- where chains of as many calls of free functions as are marked cost nothing.
abbrev pub LiteralStepsKeepPrograms : Type 0
LiteralStepsKeepPrograms =
    (x : UseInBody Span) (e : Expr Span) → LiteralStep x e → IsTrue (are_well_typed x.members) →
    IsTrue (are_well_typed (with_literal x e))
    × ((main : ImportPath) (choices : List ℕ) (n : ℕ) →
    freely_shown_by x.members (free_in x) (marked_in x) main choices n
    ≡ freely_shown_by (with_literal x e) (free_in x) (marked_in x) main choices n)

-- The laws of steps that put a literal in the place of its call, of which nothing is asked of imports but what the run's
-- own rule says. Each is the contract of a function of this crate (Go specification, Import declarations; Qualified
-- identifiers; Calls; Function literals; Program execution).
use Rattle.std.specs.Prelude.{◌≡◌, ℕ, IsTrue, List}
use Rattle.go_tree.specs.declared.spans.Span.{Span}
use Rattle.go_tree.specs.Tree.{Expr}
use Rattle.go_kernel.specs.Kernel.{ImportPath}
use Rattle.go_translation.specs.Packages.{are_well_typed, freely_shown_by}
use Rattle.literals_in_place.specs.TypedSteps.Uses.{with_literal, free_in, marked_in, UseInBody, LiteralStep}
use Rattle.literal_imports.specs.Steps.{KeepingStep, settled, SettlingStep}

-- In a well-typed program a step that removes no import is a step as literals_in_place has it: where the call names its
-- function by an import, the file uses that import after the step, as typing counts it.
abbrev pub KeepingStepsAreLiteralSteps : Type 0
KeepingStepsAreLiteralSteps =
    (x : UseInBody Span) (e : Expr Span) → KeepingStep x e → IsTrue (are_well_typed x.members) → LiteralStep x e

-- So the whole program is well typed after such a step, and shows the same: at each budget, where chains of as many
-- calls of free functions as are marked cost nothing.
abbrev pub KeepingStepsKeepPrograms : Type 0
KeepingStepsKeepPrograms =
    (x : UseInBody Span) (e : Expr Span) → KeepingStep x e → IsTrue (are_well_typed x.members) →
    IsTrue (are_well_typed (with_literal x e))
    × ((main : ImportPath) (choices : List ℕ) (n : ℕ) →
    freely_shown_by x.members (free_in x) (marked_in x) main choices n
    ≡ freely_shown_by (with_literal x e) (free_in x) (marked_in x) main choices n)

-- So it is after a step that removes imports, in the packages without them: each that stays is used, and no declaration
-- uses the name of one that goes, but as a key.
abbrev pub SettlingStepsKeepPrograms : Type 0
SettlingStepsKeepPrograms =
    (x : UseInBody Span) (e : Expr Span) → SettlingStep x e → IsTrue (are_well_typed x.members) →
    IsTrue (are_well_typed (settled x e))
    × ((main : ImportPath) (choices : List ℕ) (n : ℕ) →
    freely_shown_by x.members (free_in x) (marked_in x) main choices n
    ≡ freely_shown_by (settled x e) (free_in x) (marked_in x) main choices n)

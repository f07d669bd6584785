-- Why nothing is planned for the files that are read of a folder, in the order of the checks (Go Modules Reference,
-- go.mod files; Go specification, Packages; golang.org/x/tools, analyzer inline; the limits are this project's own).
use Rattle.std.specs.Prelude.{◌≡◌, ◌<◌, ⊤, ℕ, true, false, List, Some}
use Rattle.go_tree.specs.declared.spans.Span.{Span}
use Rattle.go_tree.specs.GoTypes.WellTyped.{NotTyped, refused_place, well_typed}
use Rattle.module_refusals.specs.Refused.{IsRefusal}
use Rattle.module_refusals.specs.Told.{told_whole}
use Rattle.step_files.specs.declared.limits.Passed.{Passed}
use Rattle.step_files.specs.Limits.{told}
use Rattle.pkg_graph.specs.Package.{Package}
use Rattle.pkg_graph.specs.Reads.{Source}
use Rattle.run_plans.specs.PlannedFiles.Limits.{TellsLimit}
use Rattle.refusals.specs.declared.refusal.Detail.{Detail}
use Rattle.refusals.specs.declared.refusal.Detail.TheVariants as detail
use Rattle.refusals.specs.declared.refusal.Limit.TheVariants.{Total}
use Rattle.refusals.specs.declared.refusal.Refusal.{Refusal}
use Rattle.run_rules.specs.Inlining.{IsTooLarge}
use Rattle.run_rules.specs.Programs.{linked}
use Rattle.run_rules.specs.Run.{the_limits}
use Rattle.run_rules.specs.Texts.{FileText}
use Rattle.source_files.specs.declared.files.SourceFile.{SourceFile}
use Rattle.run_plans.specs.PlannedModules.Folders.{AreOfFolder}
use Rattle.run_plans.specs.PlannedModules.Modules.{IsRead, IsTaken, has_form, module_size}
use Rattle.run_plans.specs.PlannedModules.Places.{TellsPlace}
use Rattle.run_plans.specs.declared.planned_modules.faults.ModuleFault.{ModuleFault}
use Rattle.run_plans.specs.declared.planned_modules.faults.ModuleFault.TheVariants.{Refused, NoMemory}

-- this is told of a module with more bytes than one may have
abbrev pub too_large_told : ℕ → Detail
too_large_told size = detail.TooLarge Total size the_limits.total

-- The module is taken, and a step of its run passes this limit, none before it does: the refusal tells the limit, by
-- the file of the step.
pub record IsStopped (folder : List Source) (files : List SourceFile) (only : List ℕ) (r : Refusal) : Type 0 where
  pub taken : IsTaken folder files
  pub limit : Passed
  pub passes : IsTooLarge the_limits folder taken.packages taken.texts only (told limit)
  pub tells : TellsLimit files passes.last.file limit r

-- The files are no module, for the first reason; or a module that isn't of the form that is built; or one of the form
-- that isn't well typed, by the place of the first fault; or a well-typed one with more bytes than a module may have;
-- or one that is taken, whose run passes a limit.
pub data IsUnplanned (folder : List Source) (files : List SourceFile) (only : List ℕ) : Refusal → Type 0 where
  no_module : (r : Refusal) → IsRefusal files r → IsUnplanned folder files only r
  not_built : (ps : List (Package Span)) (texts : List (List ℕ × FileText)) → IsRead folder files ps texts
      → has_form ps texts ≡ false → IsUnplanned folder files only (told_whole detail.NotYet)
  ill_typed : (ps : List (Package Span)) (texts : List (List ℕ × FileText)) → IsRead folder files ps texts
      → has_form ps texts ≡ true → (place : NotTyped Span) → refused_place (linked ps) ≡ Some place
      → (r : Refusal) → TellsPlace files ps place r → IsUnplanned folder files only r
  too_large : (ps : List (Package Span)) (texts : List (List ℕ × FileText)) → IsRead folder files ps texts
      → has_form ps texts ≡ true → well_typed (linked ps) ≡ true → the_limits.total < module_size folder texts
      → IsUnplanned folder files only (told_whole (too_large_told (module_size folder texts)))
  passes_limit : (r : Refusal) → IsStopped folder files only r → IsUnplanned folder files only r

-- The refusal is that of the files, whatever folder they are read of. Want of memory says nothing of them.
abbrev pub IsModuleFault : List SourceFile → List ℕ → ModuleFault → Type 0
IsModuleFault files only (Refused r) =
    (folder : List Source) → AreOfFolder folder files → IsUnplanned folder files only r
IsModuleFault files only NoMemory = ⊤

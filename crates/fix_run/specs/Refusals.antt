-- Why the files of a folder are refused, in the order of the checks (Go specification, Packages; the limits are this
-- project's own).
use Rattle.std.specs.Prelude.{◌≡◌, ◌<◌, ℕ, List, length, Some, None}
use Rattle.fix_io.specs.Files.{HeldFile, paths}
use Rattle.folder_reading.specs.declared.limits.TheConstants.{MAX_FILES}
use Rattle.folder_reading.specs.Limits.{AreFew, AreWithin, first_too_long}
use Rattle.folder_reading.specs.Sources.{sources_in}
use Rattle.module_refusals.specs.Told.{told_whole}
use Rattle.pkg_graph.specs.ModuleFiles.Selected.{selected}
use Rattle.run_plans.specs.PlannedModules.Modules.{IsTaken}
use Rattle.run_plans.specs.PlannedModules.Unplanned.{IsStopped, IsUnplanned}
use Rattle.refusals.specs.declared.refusal.Detail.TheVariants.{TooBig}
use Rattle.refusals.specs.declared.refusal.Refusal.{Refusal}
use Rattle.fix_run.specs.Files.{folder_of}

-- the file of this index, or one with which the files so far are, is too large
abbrev pub told_too_long : ℕ → Refusal
told_too_long i = record { file = Some i; place = None; detail = TooBig }

-- More files are selected than a module may have; or one of them passes a limit of bytes; or nothing is planned for
-- them, where declarations count as marked whose full names begin with `only`.
pub data WhyRefused (only : List ℕ) (files : List HeldFile) : Refusal → Type 0 where
  too_many : MAX_FILES < length (selected (paths files)) → WhyRefused only files (told_whole TooBig)
  too_long : AreFew (paths files) → (i : ℕ) → first_too_long 0 (sources_in files) ≡ Some i →
      WhyRefused only files (told_too_long i)
  unplanned : AreWithin files → (r : Refusal) → IsUnplanned (folder_of files) (sources_in files) only r →
      WhyRefused only files r

-- The selected files are within the limits, and a well-typed module of the form that is built.
pub record AreTaken (files : List HeldFile) : Type 0 where
  pub within : AreWithin files
  pub taken : IsTaken (folder_of files) (sources_in files)

-- The files are refused, for the cause that they have. Where they are taken, that is a limit which their run passes.
pub record AreRefused (only : List ℕ) (files : List HeldFile) (r : Refusal) : Type 0 where
  pub why : WhyRefused only files r
  pub passes : AreTaken files → IsStopped (folder_of files) (sources_in files) only r

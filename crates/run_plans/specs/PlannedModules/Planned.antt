-- What is planned for the files that are read of a folder (golang.org/x/tools, analyzer inline, for what a run is and
-- what is reported; Go specification, Packages; Source file organization).
use Rattle.std.specs.Prelude.{◌≡◌, ℕ, List, length}
use Rattle.pkg_graph.specs.Reads.{Source}
use Rattle.run_plans.specs.PlannedFiles.Changes.{files_differing}
use Rattle.run_rules.specs.Inlining.{IsInlining}
use Rattle.run_rules.specs.Run.{bytes_of, the_limits}
use Rattle.run_rules.specs.Texts.{FileText}
use Rattle.source_files.specs.declared.files.SourceFile.{SourceFile}
use Rattle.run_plans.specs.PlannedModules.Modules.{IsTaken}
use Rattle.run_plans.specs.declared.planned_modules.plan.Plan.{Plan}

-- The module is taken, and a run leads to these texts of its files of Go source, with this report and so many steps,
-- none of which passes a limit. Declarations count as marked whose full names begin with `only`.
pub record IsPlanned (folder : List Source) (files : List SourceFile) (only : List ℕ)
    (after : List (List ℕ × FileText)) (report : List ℕ) (steps : ℕ) : Type 0 where
  pub taken : IsTaken folder files
  pub inlining : IsInlining the_limits folder taken.packages taken.texts only after report
  pub steps_are : steps ≡ length inlining.log

-- The plan has this report and this number of steps, and writes the files that are read of which the bytes differ then.
pub record IsModulePlan (folder : List Source) (files : List SourceFile) (only : List ℕ) (p : Plan) : Type 0 where
  pub after : List (List ℕ × FileText)
  pub planned : IsPlanned folder files only after p.report p.steps
  pub writes : p.writes.items ≡ files_differing (bytes_of after) files

-- The laws of plans. Each is the contract of a function of this crate (golang.org/x/tools, analyzer inline; Go
-- specification, Packages; Program initialization and execution).
use Rattle.std.specs.Prelude.{◌≡◌, ◌<◌, ℕ, true, List, All, map}
use Rattle.std.specs.List.{list_all}
use Rattle.go_tree.specs.GoWords.Tokens.Characters.{each}
use Rattle.printed_constants.specs.InlinedFiles.InlinedModules.Modules.{IsInlinedModule}
use Rattle.module_refusals.specs.Laws.{AreAlike}
use Rattle.module_refusals.specs.Refused.{IsBelow}
use Rattle.pkg_graph.specs.Reads.{Source}
use Rattle.refusals.specs.declared.refusal.Refusal.{Refusal}
use Rattle.run_rules.specs.Respanned.{packages_with}
use Rattle.run_rules.specs.Run.{here_of}
use Rattle.run_rules.specs.Texts.{FileText}
use Rattle.splice_laws.specs.ImportSplices.AddedFile.{is_byte}
use Rattle.source_files.specs.declared.files.SourceFile.{SourceFile}
use Rattle.run_plans.specs.PlannedModules.Folders.{AreFolder, AreOfFolder, ascend, selected_paths}
use Rattle.run_plans.specs.PlannedModules.Modules.{IsTaken}
use Rattle.run_plans.specs.PlannedModules.Planned.{IsPlanned}
use Rattle.run_plans.specs.PlannedModules.Unplanned.{IsStopped, IsUnplanned}

-- The files that are read of a folder are a folder of their own.
abbrev pub ReadFilesAreFolders : Type 0
ReadFilesAreFolders = (folder : List Source) (files : List SourceFile) → AreOfFolder folder files → AreFolder files

-- So are files with the paths that are selected of such as ascend and are octets, whatever the others hold.
abbrev pub ListedFilesAreFolders : Type 0
ListedFilesAreFolders =
    (ps : List (List ℕ)) (files : List SourceFile) → ascend ps ≡ true
    → list_all (each is_byte) ps ≡ true → map (λ f. f.path) files ≡ selected_paths ps → AreFolder files

-- What is planned for a module inlines it: the new files read as a module, which is well typed and means what the old
-- one means beside every further package, and keep their bytes outside the run's ranges.
abbrev pub PlansInlineModules : Type 0
PlansInlineModules =
    (folder : List Source) (files : List SourceFile) (only : List ℕ) (after : List (List ℕ × FileText))
    (report : List ℕ) (steps : ℕ) (p : IsPlanned folder files only after report steps)
    → IsInlinedModule folder p.taken.packages p.taken.texts p.inlining.log after
    (packages_with here_of p.inlining.last.packages)

-- ---- one answer

-- The files that are read of a folder, and a prefix, have one plan at most.
abbrev pub PlansAreOne : Type 0
PlansAreOne =
    (folder : List Source) (files : List SourceFile) (only : List ℕ) (after news : List (List ℕ × FileText))
    (report lines : List ℕ) (steps count : ℕ) → IsPlanned folder files only after report steps
    → IsPlanned folder files only news lines count → (after ≡ news) × (report ≡ lines) × (steps ≡ count)

-- They have one refusal at most: its number, its file and its place.
abbrev pub RefusalsAreAlike : Type 0
RefusalsAreAlike =
    (folder : List Source) (files : List SourceFile) (only : List ℕ) (r s : Refusal)
    → IsUnplanned folder files only r → IsUnplanned folder files only s → AreAlike r s

-- Files that have a plan have no refusal.
abbrev pub NeverBoth : Type 0
NeverBoth =
    (folder : List Source) (files : List SourceFile) (only : List ℕ) (after : List (List ℕ × FileText))
    (report : List ℕ) (steps : ℕ) (r : Refusal) → IsPlanned folder files only after report steps
    → IsUnplanned folder files only r → ⊥

-- ---- what a refusal says

-- A module that is taken is refused only where its run passes a limit.
abbrev pub TakenModulesPassLimits : Type 0
TakenModulesPassLimits =
    (folder : List Source) (files : List SourceFile) (only : List ℕ) (r : Refusal) → IsTaken folder files
    → IsUnplanned folder files only r → IsStopped folder files only r

-- A file that a refusal names has a number below each that the numbers of all files are below.
abbrev pub RefusalsNameFiles : Type 0
RefusalsNameFiles =
    (folder : List Source) (files : List SourceFile) (only : List ℕ) (r : Refusal) (n : ℕ)
    → IsUnplanned folder files only r → All (λ f. f.index < n) files → IsBelow n r.file

-- What is promised of the files of a module that is inlined (golang.org/x/tools, analyzer inline; Go specification,
-- Packages; Program initialization and execution).
use Rattle.std.specs.Prelude.{ℕ, List, []}
use Rattle.go_tree.specs.declared.spans.Span.{Span}
use Rattle.pkg_graph.specs.Package.{Package}
use Rattle.pkg_graph.specs.Reads.{Source}
use Rattle.go_kernel.specs.Kernel.{FuncName}
use Rattle.go_translation.specs.SameMeaning.{WellTyped, SameMeaning}
use Rattle.run_rules.specs.Inlining.{ModuleReads}
use Rattle.run_rules.specs.Run.{Logged, FilesKeep}
use Rattle.run_rules.specs.Texts.{FileText}
use Rattle.order_runs.specs.RunSteps.RunPackages.{packages_of}
use Rattle.printed_constants.specs.InlinedFiles.Files.{files_after, bytes_in}

-- A module is inlined: from the files of its folder, with these packages and texts, a run with this log leads to the
-- texts `after`, and to the packages `qs`.
pub record IsInlinedModule (files : List Source) (ps : List (Package Span)) (texts : List (List ℕ × FileText))
    (log : List Logged) (after : List (List ℕ × FileText)) (qs : List (Package Span)) : Type 0 where
  -- the old files read as a module of the old packages
  pub reads_before : ModuleReads files ps texts
  -- which is well typed
  pub typed_before : WellTyped (packages_of ps [])
  -- the new files read as a module of the new packages
  pub reads_after : ModuleReads (files_after files after) qs after
  -- which is well typed
  pub typed_after : WellTyped (packages_of qs [])
  -- it means what the old one means, beside every further package, whichever functions are marked
  pub same : (marked : List FuncName) → SameMeaning (packages_of ps marked) (packages_of qs marked)
  -- each file of the folder keeps its bytes outside the run's ranges
  pub keeps : FilesKeep log (bytes_in files) (bytes_in (files_after files after))

-- The headline of a run that is done: what it made of the files that were held, and what it wrote (golang.org/x/tools,
-- analyzer inline; Go specification, Packages; Program initialization and execution).
use Rattle.std.specs.Prelude.{◌≡◌, ℕ, List, Option, Some}
use Rattle.go_tree.specs.declared.spans.Span.{Span}
use Rattle.fix_io.specs.Contents.{appended}
use Rattle.fix_io.specs.Files.{HeldFile}
use Rattle.pkg_graph.specs.Package.{Package}
use Rattle.pkg_graph.specs.Reads.{Source}
use Rattle.printed_constants.specs.InlinedFiles.Files.{files_after}
use Rattle.printed_constants.specs.InlinedFiles.InlinedModules.Modules.{IsInlinedModule}
use Rattle.run_rules.specs.Inlining.{IsInlining}
use Rattle.run_rules.specs.Respanned.{packages_with}
use Rattle.run_rules.specs.Run.{here_of, the_limits}
use Rattle.run_rules.specs.Texts.{FileText}
use Rattle.fix_run.specs.Files.{OthersStay, folder_of}

-- The files of a folder read as a module. A run of steps leads from it to the new files, in each of which the first
-- free use of a marked declaration becomes its form; no use is free after the last, and no step passes a limit. This is
-- the report of the run. The old files and the new ones read as well-typed modules, which beside every further package
-- mean the same; and each file keeps its bytes outside the ranges of the run. Declarations count as marked whose full
-- names begin with `only`.
pub record IsFolderInlining (only : List ℕ) (folder after : List Source) (report : List ℕ) : Type 0 where
  pub packages : List (Package Span)
  pub texts : List (List ℕ × FileText)
  pub last_texts : List (List ℕ × FileText)
  pub run : IsInlining the_limits folder packages texts only last_texts report
  pub after_is : after ≡ files_after folder last_texts
  pub inlined : IsInlinedModule folder packages texts run.log last_texts (packages_with here_of run.last.packages)

-- The held files are inlined, those that aren't read stay as they were, and the report is written.
pub record IsInlined (only : List ℕ) (files : List HeldFile) (held : Option (List HeldFile))
    (old new : Option (List ℕ)) : Type 0 where
  pub after : List HeldFile
  pub report : List ℕ
  pub held_is : held ≡ Some after
  pub written : new ≡ appended old report
  pub inlined : IsFolderInlining only (folder_of files) (folder_of after) report
  pub others : OthersStay files after

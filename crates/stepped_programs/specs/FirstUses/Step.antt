-- The step over a use that is found in a program (Go specification, Constant declarations; Import declarations; Source
-- file organization).
use Rattle.std.specs.Prelude.{◌≡◌, ℕ, ◌≤◌, List, length, Some, None, slice_get}
use Rattle.go_tree.specs.FileView.{file_of}
use Rattle.go_tree.specs.declared.limits.TheConstants.{MAX_FILE_BYTES}
use Rattle.go_scan.specs.TokenLists.{TokenLists}
use Rattle.pkg_graph.specs.declared.packages.Package.{Package}
use Rattle.pkg_graph.specs.declared.packages.SourceTree.{SourceTree}
use Rattle.text_edits.specs.Applied.{applied}
use Rattle.step_files.specs.declared.file.FileFault.{FileFault}
use Rattle.step_files.specs.declared.limits.Progress.{Progress}
use Rattle.step_files.specs.Files.{IsNewFile, text_of}
use Rattle.step_files.specs.Limits.{Passes}
use Rattle.stepped_programs.specs.declared.package_search.file_steps.step.FileStep.{FileStep}
use Rattle.stepped_programs.specs.PackageSearch.FileSteps.Steps.{MakesEdits, IsStepFault}
use Rattle.programs.specs.declared.state.PackageFiles.{PackageFiles}
use Rattle.programs.specs.declared.state.Program.{Program}
use Rattle.stepped_programs.specs.SearchedSites.FoundSteps.Uses.{MayBeMade}
use Rattle.stepped_programs.specs.SearchedSites.OrderedSearches.Found.{HasTables}
use Rattle.repeated_parts.specs.declared.use_search.views.FileView.{FileView}
use Rattle.stepped_programs.specs.declared.first_uses.first.FirstUse.{FirstUse}

-- What the program has of the file of the use: its tree, its text, and its tokens with its comments.
pub record HasFileOf (p : Program) (u : FirstUse) : Type 0 where
  pub home : Package
  pub home_is : slice_get p.packages.items u.home ≡ Some home
  pub source : SourceTree
  pub source_is : slice_get home.files u.found.file ≡ Some source
  pub kept : PackageFiles
  pub kept_is : slice_get p.files.items u.home ≡ Some kept
  pub text : List ℕ
  pub text_is : slice_get kept.texts.items u.found.file ≡ Some text
  pub tokens : TokenLists
  pub tokens_are : slice_get kept.tokens.items u.found.file ≡ Some tokens

-- This is a view of it, with the tables of the search.
pub record IsViewOf (p : Program) (u : FirstUse) (h : HasFileOf p u) (v : FileView) : Type 0 where
  pub tree_is : file_of v.tree.now ≡ file_of h.source.tree
  pub tables_are : HasTables u.found.tables v

-- The step may be made.
pub record MayStep (p : Program) (u : FirstUse) : Type 0 where
  pub file : HasFileOf p u
  pub small : length file.text ≤ MAX_FILE_BYTES
  pub made : (v : FileView) → IsViewOf p u file v → MayBeMade v file.text file.tokens u.found.found.form

-- These are its edits, which make this file, within the limits of a run that has come so far.
pub record IsUseStep (p : Program) (u : FirstUse) (progress : Progress) (s : FileStep) : Type 0 where
  pub file : HasFileOf p u
  pub view : FileView
  pub is_view : IsViewOf p u file view
  pub edits : MakesEdits view file.text file.tokens u.found.found.form s.edits
  pub read : IsNewFile (applied file.text s.edits) s.file
  pub within : Passes progress (text_of s.file) None

-- So it leaves no file.
pub record IsUseFault (p : Program) (u : FirstUse) (progress : Progress) (fault : FileFault) : Type 0 where
  pub file : HasFileOf p u
  pub view : FileView
  pub is_view : IsViewOf p u file view
  pub is_fault : IsStepFault view file.text file.tokens u.found.found.form progress fault

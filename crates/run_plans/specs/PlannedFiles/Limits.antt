-- The file in which a run passes a limit (golang.org/x/tools, internal/refactor/inline, for what a run is; the limits
-- are this project's own).
use Rattle.std.specs.Prelude.{◌≡◌, ℕ, bytes_eq, List, find, map, Option, Some}
use Rattle.step_files.specs.declared.limits.Passed.{Passed}
use Rattle.pkg_graph.specs.Views.{package_view}
use Rattle.pkg_graph.specs.declared.packages.Package.{Package}
use Rattle.refusals.specs.declared.refusal.Refusal.{Refusal}
use Rattle.report_order.specs.LimitRefusals.Refused.{limit_told}
use Rattle.run_rules.specs.Respanned.{packages_with}
use Rattle.run_rules.specs.Run.{as_read, path_of_file}
use Rattle.source_files.specs.declared.files.SourceFile.{SourceFile}

-- the path of the file with these numbers of its package and its own
abbrev pub path_in : List Package → ℕ → ℕ → Option (List ℕ)
path_in packages home file = path_of_file (packages_with as_read (map package_view packages)) home file

-- the file with a path among those that were read: the first, where there are several
abbrev pub file_with_path : List SourceFile → List ℕ → Option SourceFile
file_with_path files path = find (λ f. bytes_eq path f.path) files

-- The file with these numbers has this path, and was read.
pub record IsReadFile (files : List SourceFile) (packages : List Package) (home file : ℕ) (path : List ℕ) : Type 0
  where
    pub path_is : path_in packages home file ≡ Some path
    pub read : SourceFile
    pub there : file_with_path files path ≡ Some read

-- The refusal tells this limit of the file with this path, by the index at which it was listed.
pub record TellsLimit (files : List SourceFile) (path : List ℕ) (limit : Passed) (refusal : Refusal) : Type 0 where
  pub read : SourceFile
  pub there : file_with_path files path ≡ Some read
  pub told : refusal ≡ limit_told read.index limit

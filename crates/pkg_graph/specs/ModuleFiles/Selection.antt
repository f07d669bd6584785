-- Which files of a folder are read, by the folders around them.
use Rattle.std.specs.Prelude.{◌≡◌, ℕ, ◌≤◌, Bool, true, not, ◌&&◌, List, ◌++◌, take, drop, codes}
use Rattle.std.specs.List.{list_any}
use Rattle.pkg_graph.specs.ModuleFiles.Pieces.{folders, file_name}
use Rattle.pkg_graph.specs.ModuleFiles.Selected.{is_skipped_folder, is_in_other_module}
use Rattle.pkg_graph.specs.ModuleFiles.PathLists.{has_path}

-- the path is that of the folder's `go.mod`
abbrev pub IsModuleFile : List ℕ → List ℕ → Type 0
IsModuleFile path folder = path ≡ folder ++ codes "/go.mod"

-- in no folder is the path a `go.mod`
abbrev pub IsNoModuleFile : List ℕ → Type 0
IsNoModuleFile path = (folder : List ℕ) → IsModuleFile path folder → ⊥

-- the folders other than the root in which one of the paths is a `go.mod`
abbrev pub AreModuleFolders : List (List ℕ) → List (List ℕ) → Type 0
AreModuleFolders paths modules = (q : List ℕ) → has_path modules q ≡ has_path paths (q ++ codes "/go.mod")

-- the folders around a file are entered, and none of them is a module of its own
abbrev pub are_folders_read : List (List ℕ) → List ℕ → Bool
are_folders_read paths path = not (list_any is_skipped_folder (folders path)) && not (is_in_other_module paths path)

-- the front of a path: its last element begins at `start`, and the folders before that are read
pub record IsFrontRead (modules : List (List ℕ)) (path : List ℕ) (i start : ℕ) : Type 0 where
  pub start_in : start ≤ i
  pub name : drop start (take i path) ≡ file_name (take i path)
  pub read : (paths : List (List ℕ)) → AreModuleFolders paths modules → are_folders_read paths (take i path) ≡ true

-- Which files of a folder are read (the go command's documentation, Package lists and patterns: files and folders whose
-- names begin with `_` or `.`, and folders named `testdata`; Go Modules Reference, Vendoring, and modules within
-- modules).
use Rattle.std.specs.Prelude.{ℕ, suc, ◌==◌, Bool, false, not, ◌&&◌, ◌||◌, if◌then◌else◌, bytes_eq}
use Rattle.std.specs.Prelude.{nat_eq, List, [], ◌∷◌, ◌++◌, codes}
use Rattle.std.specs.List.{list_any, ends_with, join_with_byte}
use Rattle.pkg_graph.specs.ModuleFiles.Pieces.{folders, file_name}

-- the first byte is `_` or `.`
abbrev pub begins_hidden : List ℕ → Bool
begins_hidden [] = false
begins_hidden (b ∷ bs) = b == 95 || b == 46

-- a folder of this name isn't entered
abbrev pub is_skipped_folder : List ℕ → Bool
is_skipped_folder name = bytes_eq name (codes "testdata") || (bytes_eq name (codes "vendor") || begins_hidden name)

-- the name of the file that makes a folder a module
abbrev pub module_file : List ℕ
module_file = codes "go.mod"

-- a source file that isn't one of tests
abbrev pub is_source_name : List ℕ → Bool
is_source_name name =
    ends_with nat_eq name (codes ".go") && (not (ends_with nat_eq name (codes "_test.go")) && not (begins_hidden name))

-- `go.mod` in one of the folders, the innermost last, or in a folder within them
abbrev pub module_files_in : List (List ℕ) → List (List ℕ) → List (List ℕ)
module_files_in around [] = []
module_files_in around (f ∷ fs) =
    join_with_byte 47 (around ++ f ∷ module_file ∷ []) ∷ module_files_in (around ++ f ∷ []) fs

-- one of the folders other than the root is a module of its own
abbrev pub is_in_other_module : List (List ℕ) → List ℕ → Bool
is_in_other_module paths path = list_any (λ m. list_any (bytes_eq m) paths) (module_files_in [] (folders path))

-- The file with this path is read, among files with these paths.
abbrev pub is_selected : List (List ℕ) → List ℕ → Bool
is_selected paths path =
    bytes_eq path module_file
    || (is_source_name (file_name path)
    && (not (list_any is_skipped_folder (folders path)) && not (is_in_other_module paths path)))

-- the numbers of those that are read, counted from `k`
abbrev pub selected_from : List (List ℕ) → ℕ → List (List ℕ) → List ℕ
selected_from all k [] = []
selected_from all k (p ∷ ps) =
    if is_selected all p then k ∷ selected_from all (suc k) ps else selected_from all (suc k) ps

-- the numbers of the files that are read, among all paths
abbrev pub selected : List (List ℕ) → List ℕ
selected paths = selected_from paths 0 paths

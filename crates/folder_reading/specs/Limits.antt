-- How many files a module may have, and how many bytes.
use Rattle.std.specs.Prelude.{◌≡◌, ◌<◌, ◌≤◌, ℕ, ◌+◌, Bool, ◌||◌, nat_lt, if◌then◌else◌}
use Rattle.std.specs.Prelude.{List, [], ◌∷◌, map, length, All, Option, Some, None}
use Rattle.go_tree.specs.declared.limits.TheConstants.{MAX_FILE_BYTES}
use Rattle.fix_io.specs.Files.{HeldFile, paths}
use Rattle.pkg_graph.specs.ModuleFiles.PathLists.{path_at}
use Rattle.pkg_graph.specs.ModuleFiles.Selected.{selected}
use Rattle.source_files.specs.declared.files.SourceFile.{SourceFile}
use Rattle.folder_reading.specs.declared.limits.TheConstants.{MAX_FILES, MAX_MODULE_BYTES}
use Rattle.folder_reading.specs.Sources.{Told, source_at, sources_in}

-- a file of these bytes is too long, or the files are with which it is, after so many bytes
abbrev pub is_too_long : ℕ → List ℕ → Bool
is_too_long before bytes = nat_lt MAX_FILE_BYTES (length bytes) || nat_lt MAX_MODULE_BYTES (before + length bytes)

-- the number of the first such file, after so many bytes of others
abbrev pub first_too_long : ℕ → List SourceFile → Option ℕ
first_too_long before [] = None
first_too_long before (f ∷ fs) =
    if is_too_long before f.bytes then Some f.index else first_too_long (before + length f.bytes) fs

-- no more files are selected than a module may have
abbrev pub AreFew : List (List ℕ) → Type 0
AreFew listed = length (selected listed) ≤ MAX_FILES

-- The selected files are no more than a module may have, and have no more bytes.
pub record AreWithin (files : List HeldFile) : Type 0 where
  pub few : AreFew (paths files)
  pub short : first_too_long 0 (sources_in files) ≡ None

-- The source files are the files of these numbers, each with its path, whole, and within the limits.
pub record AreRead
    (held : Option (List HeldFile)) (listed : List (List ℕ)) (numbers : List ℕ) (sources : List SourceFile)
    : Type 0 where
  pub count : length sources ≡ length numbers
  pub paths_are : map (λ f. f.path) sources ≡ map (path_at listed) numbers
  pub small : All (λ f. length f.bytes ≤ MAX_FILE_BYTES) sources
  pub listed_are : All (λ f. f.index < length listed) sources
  pub told : Told held listed
      (λ files. (sources ≡ map (source_at files) numbers) × (first_too_long 0 sources ≡ None))

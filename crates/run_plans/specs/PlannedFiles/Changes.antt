-- The files that a run changes, by their paths (golang.org/x/tools, internal/refactor/inline, for what a run is).
use Rattle.std.specs.Prelude.{ℕ, bytes_eq, if◌then◌else◌, List, [], ◌∷◌, map, Some, None, slice_get}
use Rattle.std.specs.List.{flat_map}
use Rattle.source_files.specs.declared.files.SourceFile.{SourceFile}
use Rattle.run_plans.specs.declared.planned_files.changed_files.changed.ChangedFile.{ChangedFile}
use Rattle.run_plans.specs.declared.planned_files.changed_files.changed.LastText.{LastText}
use Rattle.run_plans.specs.PlannedFiles.Texts.{text_with_path}

-- the path of the file with this number
abbrev pub path_numbered : List SourceFile → ℕ → List ℕ
path_numbered files k = elim (slice_get files k) [ None ↦ [] | Some f ↦ f.path ]

-- texts by the paths of their files
abbrev pub with_paths : List SourceFile → List LastText → List (List ℕ × List ℕ)
with_paths files texts = map (λ t. (path_numbered files t.file, t.text)) texts

-- a file that was read, with the bytes that it has at the end, if these are others
abbrev pub other_bytes : List (List ℕ × List ℕ) → SourceFile → List ChangedFile
other_bytes after f =
    elim (text_with_path after f.path) [
      | None ↦ []
      | Some b ↦ if bytes_eq f.bytes b then [] else record { index = f.index; bytes = b } ∷ []
    ]

-- the files of which the bytes differ at the end
abbrev pub files_differing : List (List ℕ × List ℕ) → List SourceFile → List ChangedFile
files_differing after files = flat_map (other_bytes after) files

-- The files that a run changes (golang.org/x/tools, internal/refactor/inline, for what a run is).
use Rattle.std.specs.Prelude.{bytes_eq, if◌then◌else◌, List, [], ◌∷◌, ◌++◌, Option, Some, None}
use Rattle.std.specs.Prelude.{slice_get}
use Rattle.source_files.specs.declared.files.SourceFile.{SourceFile}
use Rattle.run_plans.specs.declared.planned_files.changed_files.changed.LastText.{LastText}
use Rattle.run_plans.specs.declared.planned_files.changed_files.changed.ChangedFile.{ChangedFile}

-- a file, if its bytes differ from those that were read; `o` is the file that was read
abbrev pub change_in : LastText → Option SourceFile → List ChangedFile
change_in t None = []
change_in t (Some f) = if bytes_eq f.bytes t.text then [] else record { index = f.index; bytes = t.text } ∷ []

module _ (files : List SourceFile) where
  -- the same of a file by its number
  abbrev pub change_of : LastText → List ChangedFile
  change_of t = change_in t (slice_get files t.file)

  -- the files of which the bytes differ
  abbrev pub changes : List LastText → List ChangedFile
  changes [] = []
  changes (t ∷ ts) = change_of t ++ changes ts

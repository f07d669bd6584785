-- The files of a folder, as they are read, planned and written (Go specification, Packages; Source file organization).
use Rattle.std.specs.Prelude.{◌≡◌, ℕ, false, List, map}
use Rattle.fix_io.specs.Files.{HeldFile, bytes_at, paths}
use Rattle.fix_io.specs.Writes.{with_texts, writes_from}
use Rattle.folder_reading.specs.Limits.{AreWithin}
use Rattle.folder_reading.specs.Sources.{sources_in}
use Rattle.pkg_graph.specs.ModuleFiles.PathLists.{path_at}
use Rattle.pkg_graph.specs.ModuleFiles.Selected.{is_selected}
use Rattle.pkg_graph.specs.Reads.{Source}
use Rattle.run_plans.specs.declared.planned_files.changed_files.changed.ChangedFile.{ChangedFile}
use Rattle.run_plans.specs.PlannedModules.Planned.{IsPlanned}
use Rattle.run_plans.specs.declared.planned_modules.plan.Plan.{Plan}
use Rattle.printed_constants.specs.InlinedFiles.Files.{file_after}
use Rattle.run_rules.specs.Texts.{FileText}

-- a held file by its path and its text
abbrev pub source_of : HeldFile → Source
source_of f = record { path = f.path; text = f.bytes }

-- the files of a folder
abbrev pub folder_of : List HeldFile → List Source
folder_of files = map source_of files

-- the bytes of files
abbrev pub texts_of : List HeldFile → List (List ℕ)
texts_of files = map (λ f. f.bytes) files

-- the bytes of a file afterwards: those that a run's last texts have for its path, or its own
abbrev pub text_after : List (List ℕ × FileText) → HeldFile → List ℕ
text_after after f = (file_after after (source_of f)).text

-- the files with the bytes that they have afterwards
abbrev pub files_after : List HeldFile → List (List ℕ × FileText) → List HeldFile
files_after files after = with_texts files (map (text_after after) files)

-- The files have the same paths as before, and those that aren't read the same bytes.
pub record OthersStay (files after : List HeldFile) : Type 0 where
  pub same_paths : paths after ≡ paths files
  pub same_bytes : (i : ℕ) → is_selected (paths files) (path_at (paths files) i) ≡ false →
      bytes_at after i ≡ bytes_at files i

-- the write of a changed file: an index and bytes
abbrev pub write_of : ChangedFile → ℕ × List ℕ
write_of f = (f.index, f.bytes)

-- the writes of changed files
abbrev pub writes_of : List ChangedFile → List (ℕ × List ℕ)
writes_of files = map write_of files

-- The plan is that for the files, of constants whose full names begin with `only`, and writes those that change.
pub record AreWritesOf (only : List ℕ) (files : List HeldFile) (p : Plan) : Type 0 where
  pub within : AreWithin files
  pub after : List (List ℕ × FileText)
  pub planned : IsPlanned (folder_of files) (sources_in files) only after p.report p.steps
  pub writes : writes_of p.writes.items ≡ writes_from 0 (texts_of files) (map (text_after after) files)

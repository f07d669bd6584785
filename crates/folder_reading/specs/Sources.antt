-- The files of a folder that are read (the go command's documentation, Package lists and patterns; Go Modules
-- Reference, Vendoring).
use Rattle.std.specs.Prelude.{◌≡◌, ◌<◌, ℕ, ◌+◌, List, [], All, map, take, slice_index_or, Option, IfSome}
use Rattle.go_tree.specs.declared.limits.TheConstants.{MAX_FILE_BYTES}
use Rattle.fix_io.specs.Files.{HeldFile, bytes_at, no_file, paths}
use Rattle.pkg_graph.specs.ModuleFiles.Selected.{selected}
use Rattle.source_files.specs.declared.files.SourceFile.{SourceFile}

-- the file of this number, with its path and all its bytes
abbrev pub source_at : List HeldFile → ℕ → SourceFile
source_at files i = record { index = i; path = (slice_index_or files i no_file).path; bytes = bytes_at files i }

-- The selected files of a folder that holds these, each with its number.
abbrev pub sources_in : List HeldFile → List SourceFile
sources_in files = map (source_at files) (selected (paths files))

-- each is below 256
abbrev pub AreOctets : List ℕ → Type 0
AreOctets bytes = All (λ b. b < 256) bytes

-- This holds of the files that are held, where they are told and are those that are listed.
abbrev pub Told : Option (List HeldFile) → List (List ℕ) → (List HeldFile → Type 0) → Type 0
Told held listed P = IfSome held (λ files. listed ≡ paths files → P files)

-- the bytes that are read of a file: one more than the limit, or all
abbrev pub front_of : List ℕ → List ℕ
front_of bytes = take (MAX_FILE_BYTES + 1) bytes

-- the source file is the listed file of this number, with what is read of its bytes
pub record IsSource (held : Option (List HeldFile)) (listed : List (List ℕ)) (i : ℕ) (f : SourceFile) : Type 0 where
  pub index : f.index ≡ i
  pub path : f.path ≡ slice_index_or listed i []
  pub bytes : IfSome held (λ files. f.bytes ≡ front_of (bytes_at files i))

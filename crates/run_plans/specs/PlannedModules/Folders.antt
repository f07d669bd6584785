-- The files that are read of a folder (Go specification, Packages; the go command's documentation, Package lists and
-- patterns).
use Rattle.std.specs.Prelude.{◌≡◌, ℕ, ◌+◌, Bool, true, ◌&&◌, List, [], ◌∷◌, length, filter}
use Rattle.std.specs.List.{list_all}
use Rattle.go_tree.specs.GoWords.Tokens.Characters.{each}
use Rattle.module_texts.specs.Files.{sources_of}
use Rattle.pkg_graph.specs.ModuleFiles.Pieces.{comes_before}
use Rattle.pkg_graph.specs.ModuleFiles.Selected.{is_selected}
use Rattle.pkg_graph.specs.Reads.{Source, selected_files}
use Rattle.run_rules.specs.Inlining.{are_by_path}
use Rattle.source_files.specs.declared.files.SourceFile.{SourceFile}
use Rattle.splice_laws.specs.ImportSplices.AddedFile.{is_byte}

-- each path comes before those behind it
abbrev pub ascend : List (List ℕ) → Bool
ascend [] = true
ascend (p ∷ ps) = list_all (comes_before p) ps && ascend ps

-- those of such paths that are read of a folder
abbrev pub selected_paths : List (List ℕ) → List (List ℕ)
selected_paths paths = filter (is_selected paths) paths

-- The files of the folder stand in the order of their paths, which are octets, and these are those of them that are
-- read.
pub record AreOfFolder (folder : List Source) (files : List SourceFile) : Type 0 where
  pub by_path : are_by_path folder ≡ true
  pub octets : list_all (λ f. each is_byte f.path) folder ≡ true
  pub selected : selected_files folder ≡ sources_of files

-- They are the files of a folder, all of which are read.
abbrev pub AreFolder : List SourceFile → Type 0
AreFolder files = AreOfFolder (sources_of files) files

-- the bytes of files together
abbrev pub size_of : List SourceFile → ℕ
size_of [] = 0
size_of (f ∷ fs) = length f.bytes + size_of fs

-- The files of a module, before they are read and once they are (Go specification, Source file organization; Go Modules
-- Reference, go.mod files).
use Rattle.std.specs.Prelude.{◌≡◌, ◌≤◌, Bool, not, bytes_eq, List, [], ◌∷◌, map, filter, length, All}
use Rattle.go_tree.specs.FileView.{file_of}
use Rattle.go_tree.specs.declared.limits.TheConstants.{MAX_FILE_BYTES}
use Rattle.go_tree.specs.GoWords.Tokens.{TokensOf}
use Rattle.go_read.specs.SpellsFiles.{SpellsFile}
use Rattle.pkg_graph.specs.ModuleFiles.Selected.{module_file}
use Rattle.pkg_graph.specs.Reads.{Source}
use Rattle.pkg_graph.specs.declared.packages.SourceTree.{SourceTree}
use Rattle.source_files.specs.declared.files.SourceFile.{SourceFile}
use Rattle.module_texts.specs.declared.files.ScannedFile.{ScannedFile}

-- a file by its path and its text
abbrev pub source_of : SourceFile → Source
source_of f = record { path = f.path; text = f.bytes }

-- each file
abbrev pub sources_of : List SourceFile → List Source
sources_of files = map source_of files

-- another file than `go.mod` in the root
abbrev pub is_go_file : SourceFile → Bool
is_go_file f = not (bytes_eq f.path module_file)

-- the files of Go source
abbrev pub go_files : List SourceFile → List SourceFile
go_files files = filter is_go_file files

-- The text is small enough, and these are its tokens and comments.
pub record IsScanned (s : ScannedFile) : Type 0 where
  pub small : length s.file.now.bytes ≤ MAX_FILE_BYTES
  pub words : TokensOf s.file.now.bytes s.tokens.items s.tokens.comments

-- the files, each with its tokens
pub record AreScanned (files : List SourceFile) (scanned : List ScannedFile) : Type 0 where
  pub files_are : map (λ s. s.file.now) scanned ≡ files
  pub scans : All IsScanned scanned

-- the file's tokens spell the tree, and its path is that of the tree
pub record IsTreeOf (s : ScannedFile) (t : SourceTree) : Type 0 where
  pub path : t.path ≡ s.file.now.path
  pub spells : SpellsFile s.tokens.items (file_of t.tree)

-- each file has its tree
abbrev pub AreTreesOf : List ScannedFile → List SourceTree → Type 0
AreTreesOf [] [] = Unit {0}
AreTreesOf (s ∷ ss) (t ∷ ts) = IsTreeOf s t × AreTreesOf ss ts
AreTreesOf _ _ = ⊥

-- The last texts of the files that were read (Go specification, Packages; Source file organization;
-- golang.org/x/tools, internal/refactor/inline, for what a run is).
use Rattle.std.specs.Prelude.{ℕ, suc, bytes_eq, List, [], ◌∷◌, ◌++◌, map, Option, Some, None}
use Rattle.std.specs.List.{flat_map, zip}
use Rattle.std.specs.Map.{lookup}
use Rattle.pkg_graph.specs.Package.{Package}
use Rattle.pkg_graph.specs.Views.{package_view}
use Rattle.programs.specs.declared.state.PackageFiles.{PackageFiles}
use Rattle.programs.specs.declared.state.Program.{Program}
use Rattle.source_files.specs.declared.files.SourceFile.{SourceFile}
use Rattle.run_plans.specs.declared.planned_files.changed_files.changed.LastText.{LastText}

-- the paths of the files of packages, one package after the other
abbrev pub file_paths : {S : Type 0} → List (Package S) → List (List ℕ)
file_paths ps = flat_map (λ p. map (λ f. f.path) p.files) ps

-- the texts that are kept of files, in the same order
abbrev pub kept_texts : List PackageFiles → List (List ℕ)
kept_texts ks = flat_map (λ k. k.texts.items) ks

-- the texts of a program's files, by their paths
abbrev pub texts_by_path : Program → List (List ℕ × List ℕ)
texts_by_path p = zip (file_paths (map package_view p.packages.items)) (kept_texts p.files.items)

-- the text with a path: the first, where there are several
abbrev pub text_with_path : List (List ℕ × List ℕ) → List ℕ → Option (List ℕ)
text_with_path texts path = lookup (bytes_eq path) texts

-- the text of the file with this number, if it has one
abbrev pub text_row : ℕ → Option (List ℕ) → List LastText
text_row k None = []
text_row k (Some t) = record { file = k; text = t } ∷ []

-- the texts of files of which the first has this number: of each that has one
abbrev pub text_rows : List (List ℕ × List ℕ) → ℕ → List SourceFile → List LastText
text_rows texts k [] = []
text_rows texts k (f ∷ fs) = text_row k (text_with_path texts f.path) ++ text_rows texts (suc k) fs

-- the last texts of the files that were read, in their order: of each that is one of the program
abbrev pub last_texts : Program → List SourceFile → List LastText
last_texts p files = text_rows (texts_by_path p) 0 files

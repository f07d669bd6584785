-- A module that is read from the files of a folder (Go specification, Packages; Source file organization).
use Rattle.std.specs.Prelude.{◌≡◌, ℕ, true, List, map}
use Rattle.go_tree.specs.declared.spans.Span.{Span}
use Rattle.pkg_graph.specs.Package.{Package}
use Rattle.pkg_graph.specs.Reads.{Source, selected_files}
use Rattle.pkg_graph.specs.Views.{package_view}
use Rattle.run_rules.specs.Texts.{FileText}
use Rattle.run_rules.specs.Inlining.{are_by_path}
use Rattle.source_files.specs.declared.files.SourceFile.{SourceFile}
use Rattle.module_texts.specs.Files.{sources_of}
use Rattle.module_texts.specs.Modules.{IsReadFrom}
use Rattle.module_texts.specs.declared.modules.ReadModule.{ReadModule}
use Rattle.module_marks.specs.Views.{texts_of}

-- the packages of a module that is read
abbrev pub packages_in : ReadModule → List (Package Span)
packages_in m = map package_view m.graph.packages.items

-- the texts of its files, by their paths
abbrev pub texts_in : ReadModule → List (List ℕ × FileText)
texts_in m = texts_of m.files.items

-- The module was read from these files, which are the selected ones of a folder, whose files stand in the order of
-- their paths.
pub record IsReadIn (folder : List Source) (files : List SourceFile) (m : ReadModule) : Type 0 where
  pub by_path : are_by_path folder ≡ true
  pub selected : selected_files folder ≡ sources_of files
  pub read : IsReadFrom files m

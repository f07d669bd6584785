-- A look at a file of a program: its tables, and what a search in it finds (Go specification, Declarations and scope;
-- Constant declarations).
use Rattle.std.specs.Prelude.{◌≡◌, ℕ, List, map}
use Rattle.go_tree.specs.declared.spans.Span.{Span}
use Rattle.go_tree.specs.FileView.{file_of}
use Rattle.go_scan.specs.TokenLists.{TokenLists}
use Rattle.scope_tables.specs.Table.{IsTableOf, table_of}
use Rattle.pkg_graph.specs.Package.{Package, import_specs}
use Rattle.pkg_graph.specs.Members.{names_of_file}
use Rattle.pkg_graph.specs.Views.{package_view}
use Rattle.pkg_graph.specs.declared.packages.SourceTree.{SourceTree}
use Rattle.run_rules.specs.Sites.{MarkRef}
use Rattle.file_names.specs.Members.{IsBlockOf}
use Rattle.file_tables.specs.Numbers.{number_in}
use Rattle.module_marks.specs.Tables as marks
use Rattle.repeated_parts.specs.declared.use_search.views.FileView.{FileView}
use Rattle.repeated_parts.specs.declared.use_search.views.ProgramView.{ProgramView}
use Rattle.repeated_parts.specs.UseSearch.Search.{IsFileSearch}
use Rattle.stepped_programs.specs.declared.package_search.looks.FileLook.{FileLook}
use Rattle.stepped_programs.specs.declared.package_search.looks.ProgramSources.{ProgramSources}

-- The tables are those of the file, and what is found is what a search in it finds.
pub record IsLook
    (s : ProgramSources) (home : ℕ) (source : SourceTree) (tokens : TokenLists) (block : List (List ℕ)) (l : FileLook)
    : Type 0 where
  pub names_are :
      (p : Package Span) → IsBlockOf block p
      → l.tables.names ≡ names_of_file (map package_view s.packages.now) p (file_of source.tree)
  pub block_stays : l.tables.names.«package» ≡ block
  pub table_is : IsTableOf l.tables.names (file_of source.tree) (table_of l.tables.scopes)
  pub imports_are :
      l.tables.imports.items
      ≡ map (number_in (map package_view s.packages.now)) (import_specs (file_of source.tree))
  pub program : ProgramView
  pub packages_told : program.packages.now ≡ s.packages.now
  pub values_told : program.values.now ≡ s.values.now
  pub types_told : program.types.now ≡ s.types.now
  pub view : FileView
  pub home_told : view.home ≡ home
  pub tree_told : file_of view.tree.now ≡ file_of source.tree
  pub comments_told : view.comments.now ≡ tokens.comments
  pub names_told : view.names.now ≡ l.tables.names
  pub table_told : table_of view.scopes.now ≡ table_of l.tables.scopes
  pub imports_told : view.imports.now ≡ l.tables.imports.items
  pub found :
      (ps : List (Package Span)) (ms : List MarkRef) → marks.IsTableOf ps ms s.marks.now
      → IsFileSearch ps ms program view l.kept.items l.free

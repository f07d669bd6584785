-- A look that is made.
use Rattle.std.proofs.Common.{◌≡◌, ℕ, List, map}
use Rattle.go_tree.specs.declared.spans.Span.{Span}
use Rattle.go_tree.specs.FileView.{file_of}
use Rattle.go_scan.specs.TokenLists.{TokenLists}
use Rattle.scope_tables.specs.Table.{IsTableOf, table_of}
use Rattle.pkg_graph.specs.Package.{Package, import_specs}
use Rattle.pkg_graph.specs.Members.{names_of_file}
use Rattle.pkg_graph.specs.Views.{package_view}
use Rattle.pkg_graph.specs.declared.packages.SourceTree.{SourceTree}
use Rattle.run_rules.specs.Sites.{MarkRef}
use Rattle.file_names.specs.Members.{IsBlockOf}
use Rattle.file_tables.specs.Numbers.{number_in}
use Rattle.module_marks.specs.Tables as marks
use Rattle.repeated_parts.specs.declared.use_search.views.FileView.{FileView}
use Rattle.repeated_parts.specs.declared.use_search.views.ProgramView.{ProgramView}
use Rattle.repeated_parts.specs.UseSearch.Search.{IsFileSearch}
use Rattle.stepped_programs.specs.declared.package_search.looks.FileLook.{FileLook}
use Rattle.stepped_programs.specs.declared.package_search.looks.ProgramSources.{ProgramSources}
use Rattle.stepped_programs.specs.PackageSearch.Looks.{IsLook}

module _ (s : ProgramSources) (home : ℕ) (source : SourceTree) (tokens : TokenLists) (block : List (List ℕ)) (l : FileLook) (p : ProgramView) (v : FileView) where
  pub look_made :
      ((ps : List (Package Span)) (ms : List MarkRef) → marks.IsTableOf ps ms s.marks.now → IsFileSearch ps ms p v l.kept.items l.free)
      → ((q : Package Span) → IsBlockOf block q → l.tables.names ≡ names_of_file (map package_view s.packages.now) q (file_of source.tree))
      → l.tables.names.«package» ≡ block
      → IsTableOf l.tables.names (file_of source.tree) (table_of l.tables.scopes)
      → l.tables.imports.items ≡ map (number_in (map package_view s.packages.now)) (import_specs (file_of source.tree))
      → p.packages.now ≡ s.packages.now → p.values.now ≡ s.values.now → p.types.now ≡ s.types.now → v.home ≡ home → file_of v.tree.now ≡ file_of source.tree
      → v.comments.now ≡ tokens.comments → v.names.now ≡ l.tables.names → table_of v.scopes.now ≡ table_of l.tables.scopes → v.imports.now ≡ l.tables.imports.items
      → IsLook s home source tokens block l
  look_made found names stays table imports packages values types is_home tree comments own scopes numbers =
      record {
        names_are = names;
        block_stays = stays;
        table_is = table;
        imports_are = imports;
        program = p;
        packages_told = packages;
        values_told = values;
        types_told = types;
        view = v;
        home_told = is_home;
        tree_told = tree;
        comments_told = comments;
        names_told = own;
        table_told = scopes;
        imports_told = numbers;
        found = found;
      }

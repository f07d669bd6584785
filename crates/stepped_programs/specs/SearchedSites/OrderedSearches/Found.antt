-- The first free use of a program, as a search over its packages finds it (Go specification, Constant declarations;
-- Qualified identifiers; Declarations and scope).
use Rattle.std.specs.Prelude.{◌≡◌, ℕ, List, Option, Some, None, length, slice_get}
use Rattle.go_tree.specs.Tree.{NameAt, Expr}
use Rattle.go_tree.specs.FileView.{file_of}
use Rattle.scope_tables.specs.Table.{table_of}
use Rattle.pkg_graph.specs.declared.packages.Package.{Package}
use Rattle.pkg_graph.specs.declared.packages.SourceTree.{SourceTree}
use Rattle.pkg_graph.specs.Views.{source_of}
use Rattle.run_rules.specs.Sites.{MarkRef, Where, Site}
use Rattle.run_rules.specs.Respanned.{source_with}
use Rattle.run_rules.specs.Steps.{At}
use Rattle.run_rules.specs.Run.{Standing, here_of, is_commented, step_in}
use Rattle.constant_forms.specs.declared.uses.ConstantUse.{ConstantUse}
use Rattle.constant_forms.specs.Uses.{IsUse}
use Rattle.file_tables.specs.declared.tables.FileTables.{FileTables}
use Rattle.repeated_parts.specs.UseSearch.MarkValues.Values.{value_of}
use Rattle.stepped_programs.specs.declared.package_search.looks.ProgramSources.{ProgramSources}
use Rattle.stepped_programs.specs.declared.package_search.search.FoundInPackage.{FoundInPackage}
use Rattle.stepped_programs.specs.SearchedSites.Searched.{found_of, IsFree}
use Rattle.stepped_programs.specs.SearchedSites.Told.{IsWithin, IsFile}
use Rattle.repeated_parts.specs.declared.use_search.views.FileView.{FileView}
use Rattle.stepped_programs.specs.SearchedSites.OrderedSearches.Held.{IsThere}

-- the names of a file, and the table of its scopes, are these
pub record HasTables (t : FileTables) (v : FileView) : Type 0 where
  pub names_are : v.names.now ≡ t.names
  pub table_is : table_of v.scopes.now ≡ table_of t.scopes

-- constant_forms was told of the use by the names, the table and the tree of the file
pub record IsToldBy (v : FileView) (c : ConstantUse) : Type 0 where
  pub names_are : c.names.now ≡ v.names.now
  pub table_is : table_of c.scopes.now ≡ table_of v.scopes.now
  pub file_is : file_of c.file.now ≡ file_of v.tree.now

-- In the package with this number this is the first use that the run takes, in the file with these tables: where it
-- stands, what it becomes, and what was told of it.
pub record IsFoundFirst
    (marks : List MarkRef) (st : Standing) (s : ProgramSources) (k : ℕ) (r : FoundInPackage) : Type 0 where
  pub site : Site At
  pub is_free : IsFree marks st site r.found
  pub is_first : step_in marks st ≡ Some (found_of site r.found)
  pub is_there : IsThere st.packages site.at
  pub number_is : site.at.number ≡ k
  pub file_is : site.at.file_number ≡ r.file
  pub source_is :
      (home : Package) (source : SourceTree) → slice_get s.packages.now k ≡ Some home
      → slice_get home.files r.file ≡ Some source → source_of source ≡ source_with here_of site.at.source
  pub view : FileView
  pub tables_are : HasTables r.tables view
  pub is_file : IsFile marks st site.at view
  pub home : Where At
  pub name : NameAt At
  pub value : Expr At
  pub told : ConstantUse
  pub is_use : IsUse st.packages (is_commented st) site home name value told
  pub told_by : IsToldBy view told
  pub within : IsWithin (length st.packages) (value_of told.value)

-- what is found is the first use that the run takes; or no use is free
abbrev pub IsStepFound : List MarkRef → Standing → ProgramSources → Option (ℕ × FoundInPackage) → Type 0
IsStepFound marks st s None = step_in marks st ≡ None
IsStepFound marks st s (Some q) = IsFoundFirst marks st s q.0 q.1

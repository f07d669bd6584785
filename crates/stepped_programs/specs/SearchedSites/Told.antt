-- What a search is told of a program as it stands and of one of its files (Go specification, Constant declarations;
-- Source file organization; Declarations and scope).
use Rattle.std.specs.Prelude.{◌≡◌, ℕ, ◌<◌, ◌^◌, true, List, [], map, length, Option, Some, slice_get}
use Rattle.go_tree.specs.Tree.{NameAt, Expr}
use Rattle.go_tree.specs.FileView.{file_of}
use Rattle.scope_tables.specs.Table.{IsTableOf, table_of}
use Rattle.fresh_names.specs.Laws.{TakesFew}
use Rattle.run_rules.specs.ImportRules.Needs.{avoided}
use Rattle.pkg_graph.specs.Package.{Package, import_specs}
use Rattle.pkg_graph.specs.Views.{package_view}
use Rattle.run_rules.specs.Programs.{package_number}
use Rattle.run_rules.specs.Sites.{MarkRef, Where, a_constant, is_among_marks, where_is, inlinable}
use Rattle.run_rules.specs.Marks.{text_at}
use Rattle.run_rules.specs.Texts.{FileText}
use Rattle.run_rules.specs.Respanned.{file_with, packages_with}
use Rattle.run_rules.specs.Steps.{At}
use Rattle.run_rules.specs.Run.{Standing, here_of}
use Rattle.run_rules.specs.Inlining.{ReadsAs}
use Rattle.constant_steps.specs.FormImports.ImportLaws.Steps.{names_standing}
use Rattle.member_uses.specs.Laws.{AllConstants}
use Rattle.constant_forms.specs.declared.uses.ConstantValue.{ConstantValue}
use Rattle.constant_forms.specs.Uses.{IsValue}
use Rattle.repeated_parts.specs.declared.use_search.mark_values.values.DeclaredValue.{DeclaredValue}
use Rattle.repeated_parts.specs.declared.use_search.mark_values.values.DeclaredValue.TheVariants.{Plain, Qualified}
use Rattle.repeated_parts.specs.UseSearch.MarkValues.Values.{value_of}
use Rattle.repeated_parts.specs.UseSearch.MarkValues.Tables.{value_in}
use Rattle.repeated_parts.specs.UseSearch.UsesOfMarks.Laws.{EachSound}
use Rattle.repeated_parts.specs.declared.use_search.views.FileView.{FileView}
use Rattle.repeated_parts.specs.declared.use_search.views.ProgramView.{ProgramView}
use Rattle.stepped_programs.specs.SearchedSites.Fields.{TellsFields}

-- a package that it names is one of so many
abbrev pub IsWithin : ℕ → DeclaredValue → Type 0
IsWithin n (Plain x m) = Unit {0}
IsWithin n (Qualified k x) = k < n

-- This is what a constant is declared as, a name or a name of a package of the program.
pub record IsToldValue (ps : List (Package At)) (home : Where At) (e : Expr At) (o : Option DeclaredValue) : Type 0
  where
    pub value : DeclaredValue
    pub is_value : o ≡ Some value
    pub means : (v : ConstantValue) → value_of v ≡ value → IsValue ps home v e
    pub within : IsWithin (length ps) value

-- The packages are those of the program, fewer than 2^32; its marks are all of constants, and one table tells what each
-- is declared as, another which keys of composite literals name fields.
pub record IsProgram (marks : List MarkRef) (st : Standing) (p : ProgramView) : Type 0 where
  pub packages_are : map package_view p.packages.now ≡ packages_with here_of st.packages
  pub few : length st.packages < 2 ^ 32
  pub constants : AllConstants st.packages marks
  pub fields : TellsFields st.packages p.types.now
  pub values :
      (m : MarkRef) (home : Where At) (n : NameAt At) (e : Expr At) → is_among_marks marks m ≡ true
      → where_is st.packages m ≡ Some home → inlinable st.packages m ≡ Some (a_constant n e)
      → IsToldValue st.packages home e (value_in p.values.now m)

-- The file stands there in the program, and reads from its text; its tree, its comments, its names, the table of its
-- scopes and the numbers of its imports are told; the names that aren't new in it are few. Its declarations are as
-- marked_uses asks.
pub record IsFile (marks : List MarkRef) (st : Standing) (w : Where At) (f : FileView) : Type 0 where
  pub home_is : f.home ≡ w.number
  pub there : slice_get st.packages w.number ≡ Some w.of
  pub in_package : slice_get w.of.files w.file_number ≡ Some w.source
  pub text : FileText
  pub stands : text_at w.source.path st.texts ≡ Some text
  pub reads : ReadsAs text (file_with here_of w.source.tree)
  pub tree_is : file_of f.tree.now ≡ file_with here_of w.source.tree
  pub comments_are : f.comments.now ≡ text.comments
  pub names_are : f.names.now ≡ names_standing st.packages w
  pub table : IsTableOf f.names.now (file_of f.tree.now) (table_of f.scopes.now)
  pub imports_are : f.imports.now ≡ map (λ s. package_number st.packages s.path) (import_specs w.source.tree)
  pub few_words : TakesFew w.source.tree (avoided (names_standing st.packages w) [])
  pub sound : EachSound st.packages w w.source.tree.decls

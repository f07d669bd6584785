-- The program that is loaded from a module that is read (Go specification, Packages; Source file organization; Constant
-- declarations; golang.org/x/tools, analyzer inline).
use Rattle.std.specs.Prelude.{◌≡◌, ℕ, ◌<◌, Bool, List, [], length, map, Some, slice_get}
use Rattle.std.specs.List.{list_all}
use Rattle.go_tree.specs.declared.spans.Span.{Span}
use Rattle.pkg_graph.specs.Package.{Package}
use Rattle.pkg_graph.specs.Reads.{Source}
use Rattle.pkg_graph.specs.Views.{package_view}
use Rattle.pkg_graph.specs.declared.packages.Package as code
use Rattle.pkg_graph.specs.declared.packages.SourceTree as code_tree
use Rattle.go_tree.specs.GoTypes.Answers.{meets}
use Rattle.run_rules.specs.Programs.{numbered}
use Rattle.run_rules.specs.Sites.{MarkRef, inlinable}
use Rattle.run_rules.specs.Texts.{FileText}
use Rattle.run_rules.specs.Marks.{packages_marks, marks_of, bad_of}
use Rattle.run_rules.specs.Inlining.{standing_as_read}
use Rattle.member_uses.specs.Laws.{is_constant}
use Rattle.module_texts.specs.declared.modules.ReadModule.{ReadModule}
use Rattle.file_names.specs.Imports.{FindsPackages}
use Rattle.module_marks.specs.Views.{bad_at_of}
use Rattle.module_marks.specs.Tables.{IsTableOf}
use Rattle.programs.specs.FileValues.Filled.{HasFileValues}
use Rattle.programs.specs.PartOrigins.Spans.{packages_spans}
use Rattle.programs.specs.PartOrigins.Views.{packages_origins}
use Rattle.programs.specs.Programs.{IsProgramOf, NoneAreSettled}
use Rattle.programs.specs.declared.state.Program.{Program}
use Rattle.stepped_programs.specs.PackageSearch.SearchedPrograms.Programs.{IsOpenProgram}
use Rattle.read_modules.specs.Modules.{packages_in, texts_in}
use Rattle.stepped_programs.specs.declared.loaded_programs.load.Tables.{Tables}

-- all marks of packages are of constants
abbrev pub marks_constants : List (Package Span) → List (List ℕ × FileText) → Bool
marks_constants ps texts = list_all (λ m. meets (inlinable ps m) is_constant) (packages_marks ps texts (numbered ps))

-- The tables are those of these packages, in which these declarations are marked.
pub record AreTables (packages : List code.Package) (marks : List MarkRef) (t : Tables) : Type 0 where
  pub places_are : FindsPackages t.places packages
  pub origins_are : packages_origins t.origins.items ≡ packages_spans (map package_view packages)
  pub marks_are : IsTableOf (map package_view packages) marks t.marks
  pub values_are :
      (k i : ℕ) (home : code.Package) (source : code_tree.SourceTree) → slice_get packages k ≡ Some home
      → slice_get home.files i ≡ Some source → HasFileValues packages k home i source t.values

-- It is the program of the module, in which the declarations are marked whose full names begin with `only`, with the
-- marks that mean nothing; no file is known to be settled, nor to use a constant.
pub record IsLoaded (folder : List Source) (m : ReadModule) (only : List ℕ) (p : Program) : Type 0 where
  pub is_program :
      IsProgramOf folder (marks_of (packages_in m) (texts_in m) only)
      (standing_as_read (packages_in m) (texts_in m)) p
  pub bad_are : map bad_at_of p.bad.items ≡ bad_of (packages_in m) (texts_in m) (packages_in m)
  pub unsettled : NoneAreSettled p
  pub unused : p.users ≡ []

-- Each of its packages may be searched.
abbrev pub AllAreOpen : Program → Type 0
AllAreOpen p = (k : ℕ) → k < length p.packages.items → IsOpenProgram p k

-- Modules that are taken: of the form that is built, well typed, and within the limit of a module (Go specification,
-- Packages; Constant declarations; Function declarations; golang.org/x/tools, analyzer inline, for marks).
use Rattle.std.specs.Prelude.{◌≡◌, ◌≤◌, ℕ, ◌+◌, Bool, true, not, ◌&&◌, List}
use Rattle.std.specs.List.{list_all, list_any}
use Rattle.go_tree.specs.declared.spans.Span.{Span}
use Rattle.go_tree.specs.File.{ImportSpec, File}
use Rattle.go_tree.specs.GoTypes.Answers.{unless_missing}
use Rattle.go_tree.specs.GoTypes.WellTyped.{well_typed}
use Rattle.constant_modules.specs.ApartKeys.Files.{is_value_name}
use Rattle.module_refusals.specs.Refused.{AreModule}
use Rattle.pkg_graph.specs.Package.{Package}
use Rattle.pkg_graph.specs.Reads.{Source}
use Rattle.run_rules.specs.Inlining.{ModuleReads}
use Rattle.run_rules.specs.Programs.{linked}
use Rattle.run_rules.specs.Run.{module_file_size, texts_size, the_limits}
use Rattle.run_rules.specs.Texts.{FileText}
use Rattle.source_files.specs.declared.files.SourceFile.{SourceFile}
use Rattle.stepped_programs.specs.LoadedPrograms.Loaded.{marks_constants}
use Rattle.variadic_words.specs.Dots.{is_dots}
use Rattle.run_plans.specs.PlannedModules.Folders.{AreOfFolder}

-- The files that are read of the folder are a module, and the folder reads as these packages, with these texts.
pub record IsRead (folder : List Source) (files : List SourceFile) (ps : List (Package Span))
    (texts : List (List ℕ × FileText)) : Type 0 where
  pub of_folder : AreOfFolder folder files
  pub module_is : AreModule files
  pub reads : ModuleReads folder ps texts

-- no file with these texts has variadic syntax
abbrev pub without_dots : List (List ℕ × FileText) → Bool
without_dots texts = list_all (λ t. not (list_any is_dots t.1.tokens)) texts

-- the import's spec writes no name that is predeclared as a value: `true`, `false`, `nil` or `iota`
abbrev pub named_apart : ImportSpec Span → Bool
named_apart s = unless_missing s.name (λ n. not (is_value_name n.name))

-- nor does any other of the file
abbrev pub imports_apart : File Span → Bool
imports_apart f = list_all (λ d. list_all named_apart d.specs) f.imports

-- neither the package nor an import of its files is named so
abbrev pub package_apart : Package Span → Bool
package_apart p = not (is_value_name p.name) && list_all (λ f. imports_apart f.tree) p.files

-- no file has variadic syntax, and no package or import is named `true`, `false`, `nil` or `iota`
abbrev pub is_formed : List (Package Span) → List (List ℕ × FileText) → Bool
is_formed ps texts = without_dots texts && list_all package_apart ps

-- The form that is built: besides, each mark that means something is one of a constant.
abbrev pub has_form : List (Package Span) → List (List ℕ × FileText) → Bool
has_form ps texts = is_formed ps texts && marks_constants ps texts

-- the bytes of `go.mod` and of the files of Go source
abbrev pub module_size : List Source → List (List ℕ × FileText) → ℕ
module_size folder texts = module_file_size folder + texts_size texts

-- It is a module of the form that is built, well typed and within the limit of a module, whatever its run does.
pub record IsTaken (folder : List Source) (files : List SourceFile) : Type 0 where
  pub packages : List (Package Span)
  pub texts : List (List ℕ × FileText)
  pub read : IsRead folder files packages texts
  pub form : has_form packages texts ≡ true
  pub typed : well_typed (linked packages) ≡ true
  pub within : module_size folder texts ≤ the_limits.total

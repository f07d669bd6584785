-- What the files of a module read as, and why they aren't read (Go Modules Reference, go.mod files; Go specification,
-- Packages).
use Rattle.std.specs.Prelude.{◌≡◌, ⊤, ℕ, List, All, map, find, filter, not, Option, Some, None}
use Rattle.go_tree.specs.declared.spans.Span.{Span}
use Rattle.pkg_graph.specs.ModuleFiles.Selected.{module_file}
use Rattle.pkg_graph.specs.ModuleFiles.ModuleFile.{ModuleAnswer, is_module, no_module_line, old_go, module_of}
use Rattle.pkg_graph.specs.declared.module_files.faults.GraphError.{GraphError}
use Rattle.pkg_graph.specs.declared.module_files.faults.GraphError.TheVariants.{NoModuleLine, OldGo, NoMemory}
use Rattle.pkg_graph.specs.Package.{SourceTree, packages_of}
use Rattle.pkg_graph.specs.Graph.{Links}
use Rattle.pkg_graph.specs.GraphFaults.{IsGraphFault}
use Rattle.pkg_graph.specs.Reads.{Source, is_at, selected_files, AreTrees, Reads}
use Rattle.pkg_graph.specs.Views.{package_view}
use Rattle.pkg_graph.specs.Order.{IsDependencyOrder}
use Rattle.run_rules.specs.Inlining.{IsSourceFile}
use Rattle.module_texts.specs.Files.{go_files, sources_of, AreScanned}
use Rattle.module_texts.specs.Refusals.{HasSupportedWords, HasWords, IsShallow, NestsWithin, RefusesTexts}
use Rattle.module_texts.specs.declared.faults.ReadFault.{ReadFault}
use Rattle.module_texts.specs.declared.faults.ReadFault.TheVariants.{Text, Module}
use Rattle.source_files.specs.declared.files.SourceFile.{SourceFile}
use Rattle.module_texts.specs.declared.modules.ReadModule.{ReadModule}

-- the files but for `go.mod` in the root
abbrev pub go_sources : List Source → List Source
go_sources files = filter (λ f. not (is_at module_file f)) files

-- what `go.mod` says, if it is there
abbrev pub answer_in : Option Source → ModuleAnswer
answer_in None = no_module_line
answer_in (Some f) = module_of f.text

-- what the files' `go.mod` says
abbrev pub module_answer : List Source → ModuleAnswer
module_answer files = answer_in (find (is_at module_file) files)

-- The module is what the files read as: its path is that of `go.mod`, its packages are made of the trees of the files,
-- nothing is wrong with their names and imports, and the files of Go source are kept with their tokens, of which each
-- is supported and none nests too deeply.
pub record IsReadFrom (files : List SourceFile) (m : ReadModule) : Type 0 where
  pub path_is : module_answer (sources_of files) ≡ is_module m.home.path
  pub scanned : AreScanned (go_files files) m.files.items
  pub words : All HasWords m.files.items
  pub shallow : All IsShallow m.files.items
  pub trees : List (SourceTree Span)
  pub trees_are : AreTrees IsSourceFile (go_sources (sources_of files)) trees
  pub packages_are : map package_view m.graph.packages.items ≡ packages_of m.home.path trees
  pub order_is : IsDependencyOrder (packages_of m.home.path trees) m.graph.order.items
  pub links : Links m.home.path trees

-- `go.mod` names a module
abbrev pub NamesModule : List Source → Type 0
NamesModule files = (path : List ℕ) × (module_answer files ≡ is_module path)

-- each file has a tree, its words are supported, it doesn't nest too deeply, and this is wrong with the packages of the
-- trees
pub record RefusesPackages (files : List Source) (error : GraphError) : Type 0 where
  pub path : List ℕ
  pub path_is : module_answer files ≡ is_module path
  pub trees : List (SourceTree Span)
  pub trees_are : AreTrees IsSourceFile (go_sources files) trees
  pub words : All (λ f. HasSupportedWords f.text) (go_sources files)
  pub shallow : All (λ f. NestsWithin f.text) (go_sources files)
  pub fault : IsGraphFault path trees error

-- what is wrong with `go.mod` or with the packages of the trees. Want of memory says nothing of the files.
abbrev pub RefusesModule : List Source → GraphError → Type 0
RefusesModule files NoModuleLine = module_answer files ≡ no_module_line
RefusesModule files (OldGo version) = module_answer files ≡ old_go version
RefusesModule files NoMemory = ⊤
RefusesModule files error = RefusesPackages files error

-- Why files aren't read as a module, where the earlier checks pass.
abbrev pub Refuses : List Source → ReadFault → Type 0
Refuses files (Text k fault) = NamesModule files × RefusesTexts (go_sources files) k fault
Refuses files (Module error) = RefusesModule files error

-- Where the selected files of a folder are read as a module, the folder reads as a module of the same packages.
abbrev pub SelectedFilesRead : Type 0
SelectedFilesRead =
    (all : List Source) (files : List SourceFile) (m : ReadModule)
    → selected_files all ≡ sources_of files → IsReadFrom files m
    → Reads IsSourceFile all (map package_view m.graph.packages.items)

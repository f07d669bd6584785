-- Which files aren't a module, and why (Go Modules Reference, go.mod files; Go specification, Packages).
use Rattle.std.specs.Prelude.{◌≡◌, ◌<◌, ℕ, List, All, Option, Some, None}
use Rattle.go_tree.specs.declared.spans.Span.{Span}
use Rattle.pkg_graph.specs.ModuleFiles.ModuleFile.{is_module}
use Rattle.pkg_graph.specs.Package.{SourceTree}
use Rattle.pkg_graph.specs.Graph.{Links}
use Rattle.pkg_graph.specs.Reads.{AreTrees}
use Rattle.run_rules.specs.Inlining.{IsSourceFile}
use Rattle.refusals.specs.declared.refusal.Refusal.{Refusal}
use Rattle.source_files.specs.declared.files.SourceFile.{SourceFile}
use Rattle.module_texts.specs.declared.faults.ReadFault.{ReadFault}
use Rattle.module_texts.specs.Files.{sources_of}
use Rattle.module_texts.specs.Refusals.{HasSupportedWords, NestsWithin}
use Rattle.module_texts.specs.Modules.{Refuses, go_sources, module_answer}
use Rattle.module_refusals.specs.Told.{Tells}

-- Why files aren't a module: the first reason, in the order of the checks, with its place.
pub record IsRefusal (files : List SourceFile) (r : Refusal) : Type 0 where
  pub fault : ReadFault
  pub is : Refuses (sources_of files) fault
  pub tells : Tells files fault r

-- The files are a module: `go.mod` names it; each other file is a source file, of which each word is supported and no
-- token nests too deeply; and nothing is wrong with the names of their packages and with their imports.
pub record AreModule (files : List SourceFile) : Type 0 where
  pub path : List ℕ
  pub path_is : module_answer (sources_of files) ≡ is_module path
  pub trees : List (SourceTree Span)
  pub trees_are : AreTrees IsSourceFile (go_sources (sources_of files)) trees
  pub links : Links path trees
  pub words : All (λ f. HasSupportedWords f.text) (go_sources (sources_of files))
  pub shallow : All (λ f. NestsWithin f.text) (go_sources (sources_of files))

-- the file, if there is one, has a number below this one
abbrev pub IsBelow : ℕ → Option ℕ → Type 0
IsBelow n None = Unit {0}
IsBelow n (Some i) = i < n

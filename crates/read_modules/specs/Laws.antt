-- The laws of modules that are read. Each is the contract of a function of this crate (Go specification, Packages;
-- Source file organization).
use Rattle.std.specs.Prelude.{◌<◌, ◌^◌, List, length, All}
use Rattle.pkg_graph.specs.Reads.{Source}
use Rattle.run_rules.specs.Inlining.{ModuleReads}
use Rattle.source_files.specs.declared.files.SourceFile.{SourceFile}
use Rattle.module_texts.specs.Files.{IsScanned}
use Rattle.module_texts.specs.Modules.{IsReadFrom}
use Rattle.module_texts.specs.declared.modules.ReadModule.{ReadModule}
use Rattle.read_modules.specs.Modules.{IsReadIn, packages_in, texts_in}

-- What is read from the selected files of a folder is what the folder reads as, with the texts of its files.
abbrev pub ModulesAreRead : Type 0
ModulesAreRead =
    (folder : List Source) (files : List SourceFile) (m : ReadModule) → IsReadIn folder files m
    → ModuleReads folder (packages_in m) (texts_in m)

-- A module that was read from fewer than 2^32 files has fewer packages than that, and its files have their tokens.
abbrev pub ModulesMayBeLoaded : Type 0
ModulesMayBeLoaded =
    (files : List SourceFile) (m : ReadModule) → IsReadFrom files m → length files < 2 ^ 32
    → (length m.graph.packages.items < 2 ^ 32) × All IsScanned m.files.items

-- The program of a module of the form that is built, and what is told of the module before its run (Go specification,
-- Packages; Constant declarations; golang.org/x/tools, analyzer inline, for marks).
use Rattle.std.specs.Prelude.{◌≡◌, ◌≤◌, ℕ, true, List, Option}
use Rattle.module_texts.specs.Modules.{IsReadFrom}
use Rattle.module_texts.specs.declared.modules.ReadModule.{ReadModule}
use Rattle.pkg_graph.specs.Reads.{Source}
use Rattle.programs.specs.declared.state.Program.{Program}
use Rattle.read_modules.specs.Modules.{packages_in, texts_in}
use Rattle.refusals.specs.declared.refusal.Refusal.{Refusal}
use Rattle.literal_tables.specs.HasTypes.{HasTypes}
use Rattle.run_rules.specs.Programs.{world}
use Rattle.run_rules.specs.Run.{the_limits}
use Rattle.source_files.specs.declared.files.SourceFile.{SourceFile}
use Rattle.stepped_programs.specs.LoadedPrograms.Loaded.{IsLoaded}
use Rattle.run_plans.specs.PlannedModules.Folders.{AreOfFolder, size_of}
use Rattle.run_plans.specs.PlannedModules.Modules.{has_form}
use Rattle.run_plans.specs.PlannedModules.Places.{IsTypingOf}

-- The module was read from these files and has the form that is built, this is its first fault of typing, as it is
-- told, and so many bytes it has; the program has the types that it declares, and if it may have so many bytes, the program is that of the module, whatever folder the files are read of.
pub record IsLoadedOf (files : List SourceFile) (m : ReadModule) (only : List ℕ) (fault : Option Refusal) (size : ℕ)
    (p : Program) : Type 0 where
  pub read : IsReadFrom files m
  pub form : has_form (packages_in m) (texts_in m) ≡ true
  pub typing : IsTypingOf files (packages_in m) fault
  pub size_is : size ≡ size_of files
  pub types : HasTypes (world (packages_in m)) p.types
  pub loaded : size ≤ the_limits.total → (folder : List Source) → AreOfFolder folder files
      → IsLoaded folder m only p

-- So it is of some module.
pub record IsLoadedOfSome (files : List SourceFile) (fault : Option Refusal) (size : ℕ) (p : Program) : Type 0 where
  pub read_module : ReadModule
  pub only : List ℕ
  pub is : IsLoadedOf files read_module only fault size p

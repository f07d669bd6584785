-- The laws of what a plan takes from a run. Each is the contract of a function of this crate (Go specification,
-- Packages; Source file organization; golang.org/x/tools, internal/refactor/inline, for what a run is).
use Rattle.std.specs.Prelude.{◌≡◌, ℕ, List, [], Some}
use Rattle.run_plans.specs.PlannedFiles.ChangedFiles.Changed.{changes}
use Rattle.module_texts.specs.declared.modules.ReadModule.{ReadModule}
use Rattle.pkg_graph.specs.Reads.{Source}
use Rattle.programs.specs.Programs.{IsProgramOf}
use Rattle.programs.specs.declared.state.Program.{Program}
use Rattle.read_modules.specs.Modules.{IsReadIn, packages_in, texts_in}
use Rattle.run_rules.specs.Inlining.{standing_as_read, Reaches}
use Rattle.run_rules.specs.Run.{Standing, Logged, Limits, bytes_of, path_of_file}
use Rattle.run_rules.specs.Sites.{MarkRef}
use Rattle.source_files.specs.declared.files.SourceFile.{SourceFile}
use Rattle.run_plans.specs.PlannedFiles.Changes.{with_paths, files_differing}
use Rattle.run_plans.specs.PlannedFiles.Limits.{IsReadFile}
use Rattle.run_plans.specs.PlannedFiles.Texts.{last_texts}

-- A run has come so far from a module that was read from these files.
pub record HasComeFrom (folder : List Source) (files : List SourceFile) (m : ReadModule) (marks : List MarkRef)
    (st : Standing) : Type 0 where
  pub read : IsReadIn folder files m
  pub limits : Limits
  pub log : List Logged
  pub steps : Reaches marks limits folder [] (standing_as_read (packages_in m) (texts_in m)) log st

-- The last texts of a program to which a run has come are those of the run's files, all of them and in their order.
abbrev pub LastTextsAreThoseOfRuns : Type 0
LastTextsAreThoseOfRuns =
    (folder : List Source) (files : List SourceFile) (m : ReadModule) (marks : List MarkRef) (st : Standing)
    (p : Program) → HasComeFrom folder files m marks st → IsProgramOf folder marks st p
    → with_paths files (last_texts p files) ≡ bytes_of st.texts

-- So the files that are changed are those of which the bytes differ then.
abbrev pub ChangesAreThoseOfRuns : Type 0
ChangesAreThoseOfRuns =
    (folder : List Source) (files : List SourceFile) (m : ReadModule) (marks : List MarkRef) (st : Standing)
    (p : Program) → HasComeFrom folder files m marks st → IsProgramOf folder marks st p
    → changes files (last_texts p files) ≡ files_differing (bytes_of st.texts) files

-- A file of a program to which a run has come was read, under the path that it has in each program of the run.
abbrev pub LimitsAreToldOfReadFiles : Type 0
LimitsAreToldOfReadFiles =
    (folder : List Source) (files : List SourceFile) (m : ReadModule) (marks : List MarkRef) (st before : Standing)
    (p : Program) → HasComeFrom folder files m marks st → IsProgramOf folder marks st p
    → HasComeFrom folder files m marks before → (home file : ℕ) (path : List ℕ)
    → path_of_file before.packages home file ≡ Some path → IsReadFile files p.packages.items home file path

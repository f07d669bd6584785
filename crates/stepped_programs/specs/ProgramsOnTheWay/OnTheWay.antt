-- A program on the way of a run over constants, with all that is kept of it (Go specification, Constant declarations;
-- Packages; golang.org/x/tools, internal/refactor/inline, for what a run is).
use Rattle.std.specs.Prelude.{◌≡◌, ℕ, ◌+◌, List, length}
use Rattle.go_tree.specs.declared.spans.Span.{Span}
use Rattle.pkg_graph.specs.Package.{Package}
use Rattle.pkg_graph.specs.Reads.{Source}
use Rattle.step_files.specs.declared.limits.Progress.{Progress}
use Rattle.stepped_programs.specs.declared.package_search.looks.ProgramSources.{ProgramSources}
use Rattle.programs.specs.declared.state.Program.{Program}
use Rattle.run_by_steps.specs.Reached.{HasReached}
use Rattle.run_rules.specs.Marks.{marks_of}
use Rattle.run_rules.specs.Programs.{world}
use Rattle.run_rules.specs.Run.{Standing, Logged}
use Rattle.run_rules.specs.Texts.{FileText}
use Rattle.run_by_steps.specs.declared.step_counts.counts.StepCounts.{StepCounts}
use Rattle.run_by_steps.specs.StepCounts.Laws.{AreCounted}
use Rattle.run_by_steps.specs.StepCounts.Origins.{steps_from}
use Rattle.constant_modules.specs.ConstantPrograms.Programs.{IsConstantProgram}
use Rattle.literal_tables.specs.HasTypes.{HasTypes}
use Rattle.stepped_programs.specs.FirstUses.Step.{HasFileOf}
use Rattle.stepped_programs.specs.Laws.{flags_of, users_of}
use Rattle.stepped_programs.specs.SearchedSites.OrderedSearches.Held.{AreAllSettled}
use Rattle.stepped_programs.specs.SteppedValues.Flags.{IsKeptProgram}
use Rattle.stepped_programs.specs.declared.first_uses.first.FirstUse.{FirstUse}

-- From files that read as a module a run has come by these steps, each of which is counted, to a program of constants.
-- All that is kept is the program's own, with a table of the types that it declares, searches look at it, and no file
-- whose flag is set has a free use.
pub record IsOnTheWay (files : List Source) (ps : List (Package Span)) (texts : List (List ℕ × FileText))
    (only : List ℕ) (done : List Logged) (st : Standing) (p : Program) (s : ProgramSources) (c : StepCounts) : Type 0
  where
    pub reached : HasReached files ps texts only done st
    pub kept : IsKeptProgram files (marks_of ps texts only) st p s
    pub constants : IsConstantProgram files (marks_of ps texts only) st
    pub types : HasTypes (world st.packages) p.types
    pub settled : AreAllSettled (marks_of ps texts only) st (users_of p) (flags_of p)
    pub counted : AreCounted st.packages done c

-- So far a run has come before the step over this use, which comes from this offset of its file: by the counts, and by
-- the bytes of the module but for the file.
pub record IsProgressOf (p : Program) (u : FirstUse) (c : StepCounts) (offset : ℕ)
    (progress : Progress) : Type 0 where
  pub steps : progress.steps ≡ c.steps
  pub steps_of_use : progress.steps_of_use ≡ steps_from (u.home, (u.found.file, offset)) c.origins
  pub bytes : (h : HasFileOf p u) → progress.other_bytes + length h.text ≡ p.bytes

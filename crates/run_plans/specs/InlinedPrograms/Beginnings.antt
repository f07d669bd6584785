-- Where a run begins, and where a program stands on it (Go specification, Constant declarations; Packages;
-- golang.org/x/tools, internal/refactor/inline, for what a run is).
use Rattle.std.specs.Prelude.{◌≡◌, ℕ, List, []}
use Rattle.go_tree.specs.declared.spans.Span.{Span}
use Rattle.pkg_graph.specs.Package.{Package}
use Rattle.pkg_graph.specs.Reads.{Source}
use Rattle.stepped_programs.specs.declared.package_search.looks.ProgramSources.{ProgramSources}
use Rattle.programs.specs.declared.state.Program.{Program}
use Rattle.run_rules.specs.Inlining.{standing_as_read}
use Rattle.run_rules.specs.Marks.{marks_of}
use Rattle.run_rules.specs.Run.{Standing, Logged}
use Rattle.run_rules.specs.Sites.{MarkRef}
use Rattle.run_rules.specs.Texts.{FileText}
use Rattle.run_by_steps.specs.declared.step_counts.counts.StepCounts.{StepCounts}
use Rattle.stepped_programs.specs.ProgramsOnTheWay.OnTheWay.{IsOnTheWay}

-- The files of a folder, the packages and the texts that they read as, and how the full names begin of the declarations
-- that count as marked.
pub record Beginning : Type 0 where
  pub files : List Source
  pub packages : List (Package Span)
  pub texts : List (List ℕ × FileText)
  pub only : List ℕ

-- the declarations that count as marked
abbrev pub marks_in : Beginning → List MarkRef
marks_in b = marks_of b.packages b.texts b.only

-- By these steps the run has come to this program, of which all that is kept is here; each step is counted.
pub record StandsAfter (b : Beginning) (done : List Logged) (st : Standing) (p : Program) (c : StepCounts) : Type 0
  where
    pub sources : ProgramSources
    pub on_the_way : IsOnTheWay b.files b.packages b.texts b.only done st p sources c

-- So it is on some run.
pub record IsOnRun (p : Program) (c : StepCounts) : Type 0 where
  pub beginning : Beginning
  pub done : List Logged
  pub standing : Standing
  pub stands : StandsAfter beginning done standing p c

-- The run begins at this program: no step is counted.
abbrev pub BeginsRun : Beginning → Program → Type 0
BeginsRun b p =
    (c : StepCounts) → c.steps ≡ 0 → c.origins ≡ []
    → StandsAfter b [] (standing_as_read b.packages b.texts) p c

-- The laws of the counts of a run. Each is the contract of a function of this crate (golang.org/x/tools,
-- internal/refactor/inline, for what a run is; the limits are this project's own).
use Rattle.std.specs.Prelude.{◌≡◌, ℕ, ◌+◌, ◌≤◌, ◌&&◌, nat_eq, bytes_eq, if◌then◌else◌, List}
use Rattle.std.specs.Prelude.{[], ◌∷◌, ◌++◌, filter, length, Some}
use Rattle.pkg_graph.specs.Package.{Package}
use Rattle.pkg_graph.specs.Reads.{Source}
use Rattle.splice_laws.specs.RunLaws.Reading.{OnePathEach}
use Rattle.run_rules.specs.Marks.{text_at}
use Rattle.run_rules.specs.Run.{Standing, Logged, Next, path_of_file, module_file_size, texts_size}
use Rattle.run_rules.specs.Sites.{MarkRef}
use Rattle.run_rules.specs.Steps.{At}
use Rattle.run_rules.specs.Texts.{FileText}
use Rattle.step_files.specs.declared.limits.Progress.{Progress}
use Rattle.run_by_steps.specs.RunProgress.Laws.{HasCome}
use Rattle.run_by_steps.specs.declared.step_counts.counts.StepCounts.{StepCounts}
use Rattle.run_by_steps.specs.StepCounts.Origins.{OriginKey, same_key, steps_from}

-- how many steps have their origin at this offset of the file with this path
abbrev pub steps_at : List ℕ → ℕ → List Logged → ℕ
steps_at path offset log = length (filter (λ m. bytes_eq path m.file && nat_eq offset m.origin.start) log)

-- The steps that were made are counted, and those of each origin in a file of the packages.
pub record AreCounted (ps : List (Package At)) (done : List Logged) (c : StepCounts) : Type 0 where
  pub steps : c.steps ≡ length done
  pub origins :
      (k i : ℕ) (path : List ℕ) → path_of_file ps k i ≡ Some path → (offset : ℕ)
      → steps_from (k, (i, offset)) c.origins ≡ steps_at path offset done

-- No steps are counted before a run.
abbrev pub NoneAreCounted : Type 0
NoneAreCounted = (ps : List (Package At)) (c : StepCounts) → c.steps ≡ 0 → c.origins ≡ [] → AreCounted ps [] c

-- one step more has this origin
pub record OneMore (old new : StepCounts) (k : OriginKey) : Type 0 where
  pub steps : new.steps ≡ old.steps + 1
  pub origins :
      (q : OriginKey) → steps_from q new.origins ≡ steps_from q old.origins + (if same_key q k then 1 else 0)

-- A step counts for its origin.
abbrev pub StepsAreCounted : Type 0
StepsAreCounted =
    (marks : List MarkRef) (st : Standing) (l : Logged) (after : Standing) (n : Next marks st l after)
    (done : List Logged) (old new : StepCounts) → OnePathEach st.packages → AreCounted st.packages done old
    → OneMore old new (n.found.site.at.number, (n.found.site.at.file_number, l.origin.start))
    → AreCounted after.packages (done ++ l ∷ []) new

-- No origin has more steps than there are.
abbrev pub OriginsWithinSteps : Type 0
OriginsWithinSteps =
    (ps : List (Package At)) (done : List Logged) (c : StepCounts) → AreCounted ps done c
    → (k i : ℕ) (path : List ℕ) → path_of_file ps k i ≡ Some path → (offset : ℕ)
    → steps_from (k, (i, offset)) c.origins ≤ c.steps

-- So far a run has come before a step in the file with these numbers.
abbrev pub CountsCome : Type 0
CountsCome =
    (files : List Source) (done : List Logged) (l : Logged) (st : Standing) (old : FileText) (c : StepCounts) (k i : ℕ)
    (p : Progress) → AreCounted st.packages done c → path_of_file st.packages k i ≡ Some l.file → p.steps ≡ c.steps
    → p.steps_of_use ≡ steps_from (k, (i, l.origin.start)) c.origins
    → p.other_bytes + length old.text ≡ module_file_size files + texts_size st.texts → HasCome p files done l st old

-- No text has more bytes than all.
abbrev pub TextsLieWithin : Type 0
TextsLieWithin =
    (path : List ℕ) (t : FileText) (texts : List (List ℕ × FileText)) → text_at path texts ≡ Some t
    → length t.text ≤ texts_size texts

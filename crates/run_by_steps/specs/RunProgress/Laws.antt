-- The laws of how far a run has come. Each is the contract of a function of this crate (golang.org/x/tools,
-- internal/refactor/inline, for what a run is; the limits are this project's own).
use Rattle.std.specs.Prelude.{◌≡◌, ℕ, ◌+◌, Bool, true, not, ◌&&◌, bytes_eq, if◌then◌else◌, List}
use Rattle.std.specs.Prelude.{[], ◌∷◌, ◌++◌, length}
use Rattle.std.specs.List.{list_all}
use Rattle.go_tree.specs.declared.spans.Span.{Span}
use Rattle.pkg_graph.specs.Package.{Package}
use Rattle.pkg_graph.specs.Reads.{Source}
use Rattle.run_rules.specs.Sites.{MarkRef}
use Rattle.run_rules.specs.Texts.{FileText}
use Rattle.run_rules.specs.Run.{Standing, Logged, Next, Run, same_origin, steps_like, module_file_size, texts_size}
use Rattle.run_rules.specs.Inlining.{ModuleReads}
use Rattle.step_files.specs.declared.limits.Progress.{Progress}
use Rattle.step_files.specs.Limits.{ComesNext}

-- none of the texts has this path
abbrev pub is_no_path : List ℕ → List (List ℕ × FileText) → Bool
is_no_path path texts = list_all (λ t. not (bytes_eq path t.0)) texts

-- no two of the texts have one path
abbrev pub are_paths_apart : List (List ℕ × FileText) → Bool
are_paths_apart [] = true
are_paths_apart (t ∷ ts) = is_no_path t.0 ts && are_paths_apart ts

-- So it is in a module that reads.
abbrev pub ReadPathsAreApart : Type 0
ReadPathsAreApart =
    (files : List Source) (ps : List (Package Span)) (texts : List (List ℕ × FileText)) → ModuleReads files ps texts
    → are_paths_apart texts ≡ true

-- So it is after a step.
abbrev pub StepsKeepPathsApart : Type 0
StepsKeepPathsApart =
    (marks : List MarkRef) (st : Standing) (l : Logged) (after : Standing) → Next marks st l after
    → are_paths_apart st.texts ≡ true → are_paths_apart after.texts ≡ true

-- So it is after a run.
abbrev pub RunsKeepPathsApart : Type 0
RunsKeepPathsApart =
    (marks : List MarkRef) (st : Standing) (log : List Logged) (last : Standing) → Run marks st log last
    → are_paths_apart st.texts ≡ true → are_paths_apart last.texts ≡ true

-- ---- counts

-- A step changes the bytes of all texts by what it changes of its file.
abbrev pub TotalsFollow : Type 0
TotalsFollow =
    (marks : List MarkRef) (st : Standing) (l : Logged) (after : Standing) (n : Next marks st l after)
    → are_paths_apart st.texts ≡ true
    → texts_size after.texts + length n.old.text ≡ texts_size st.texts + length n.new.text

-- Before a step that is told of in this way a run has come so far: its steps, those of the same origin, and the bytes
-- of the module but for the file with this text.
pub record HasCome (p : Progress) (files : List Source) (done : List Logged) (l : Logged) (st : Standing)
    (old : FileText) : Type 0 where
  pub steps : length done ≡ p.steps
  pub steps_of_use : steps_like l done ≡ p.steps_of_use
  pub bytes : module_file_size files + texts_size st.texts ≡ p.other_bytes + length old.text

-- So far it has come for the limits that the step may pass.
abbrev pub StepsComeNext : Type 0
StepsComeNext =
    (marks : List MarkRef) (files : List Source) (done : List Logged) (st : Standing) (l : Logged) (after : Standing)
    (n : Next marks st l after) (p : Progress) → are_paths_apart st.texts ≡ true → HasCome p files done l st n.old
    → ComesNext p files done l n.new after.texts

-- A step counts for those of its origin.
abbrev pub OriginsAreCounted : Type 0
OriginsAreCounted =
    (l k : Logged) (done : List Logged)
    → steps_like l (done ++ k ∷ []) ≡ steps_like l done + (if same_origin l k then 1 else 0)

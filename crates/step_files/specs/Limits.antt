-- The limits of a run, as they are told of its next step (golang.org/x/tools, internal/refactor/inline, for what a run
-- is; the limits are this project's own).
use Rattle.std.specs.Prelude.{◌≡◌, ℕ, ◌+◌, ◌≤◌, List, length, Option}
use Rattle.pkg_graph.specs.Reads.{Source}
use Rattle.refusals.specs.declared.refusal.Limit as code
use Rattle.refusals.specs.declared.refusal.Limit.TheVariants as one
use Rattle.run_rules.specs.Texts.{FileText}
use Rattle.run_rules.specs.Run.{Logged, Limit, Steps, StepsOfUse, Bytes, Total, Weight, TooLarge, over, the_limits}
use Rattle.run_rules.specs.Run.{steps_like, module_file_size, texts_size, passed}
use Rattle.step_files.specs.declared.limits.Progress.{Progress}
use Rattle.step_files.specs.declared.limits.Passed.{Passed}

-- a limit, as the rules of a run name it
abbrev pub limit_of : code.Limit → Limit
limit_of one.Steps = Steps
limit_of one.StepsOfUse = StepsOfUse
limit_of one.Bytes = Bytes
limit_of one.Total = Total
limit_of one.Weight = Weight

-- a limit that is passed
abbrev pub told : Passed → TooLarge
told p = record { limit = limit_of p.limit; count = p.count; bound = p.bound }

-- the first limit that a step passes after which its file has so many bytes; that of nesting is tried last
abbrev pub tried : Progress → ℕ → Option TooLarge → Option TooLarge
tried p bytes nesting =
    over Steps the_limits.steps (p.steps + 1) (over StepsOfUse the_limits.steps_of_use (p.steps_of_use + 1)
    (over Bytes the_limits.bytes bytes (over Total the_limits.total (p.other_bytes + bytes) nesting)))

-- It passes no limit of steps and of bytes.
pub record KeepsLimits (p : Progress) (bytes : ℕ) : Type 0 where
  pub steps : p.steps + 1 ≤ the_limits.steps
  pub steps_of_use : p.steps_of_use + 1 ≤ the_limits.steps_of_use
  pub bytes_of_file : bytes ≤ the_limits.bytes
  pub bytes_of_module : p.other_bytes + bytes ≤ the_limits.total

-- A run that made these steps has come so far, before a step that leaves its file with this text and the module with
-- these texts.
pub record ComesNext (p : Progress) (files : List Source) (log : List Logged) (l : Logged) (new : FileText)
    (texts : List (List ℕ × FileText)) : Type 0 where
  pub steps : length log ≡ p.steps
  pub steps_of_use : steps_like l log ≡ p.steps_of_use
  pub bytes : module_file_size files + texts_size texts ≡ p.other_bytes + length new.text

-- Each step that comes next and leaves its file with this text passes this limit first, or none.
abbrev pub Passes : Progress → FileText → Option TooLarge → Type 0
Passes p new limit =
    (files : List Source) (log : List Logged) (l : Logged) (texts : List (List ℕ × FileText))
    → ComesNext p files log l new texts → passed the_limits files log l new texts ≡ limit

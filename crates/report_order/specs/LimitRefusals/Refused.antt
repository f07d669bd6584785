-- A limit of a run that is passed, as it is told (golang.org/x/tools, internal/refactor/inline, for what a run is; the
-- limits are this project's own).
use Rattle.std.specs.Prelude.{ℕ, Some, None}
use Rattle.step_files.specs.declared.limits.Passed.{Passed}
use Rattle.refusals.specs.declared.refusal.Detail.TheVariants.{TooLarge}
use Rattle.refusals.specs.declared.refusal.Refusal.{Refusal}

-- this is told of a file
abbrev pub limit_told : ℕ → Passed → Refusal
limit_told file p = record { file = Some file; place = None; detail = TooLarge p.limit p.count p.bound }

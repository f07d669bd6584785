-- A run of steps over constants and over aliases, in any order, each in the packages that the steps before it leave (Go
-- specification, Constant declarations; Alias declarations; Program execution).
use Rattle.std.specs.Prelude.{Bool}
use Rattle.go_translation.specs.SameMeaning.{Packages}
use Rattle.constant_steps.specs.StepLaws.ConstantRuns.{StepOverConstant, after_step}
use Rattle.alias_runs.specs.AliasSteps.RetypedPrograms.{RetypedPackages}

module _ {S : Type 0} (same : S → S → Bool) where
  -- any number of such steps, one after the other
  pub data NamesRun : Packages S → Packages S → Type 0 where
    no_step : {P : Packages S} → NamesRun P P
    over_constant :
        {P P' : Packages S} (s : StepOverConstant same P) → NamesRun (after_step same P s) P' → NamesRun P P'
    over_alias : {P P' P'' : Packages S} → RetypedPackages P P' → NamesRun P' P'' → NamesRun P P''

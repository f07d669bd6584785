-- The laws of steps over constants that change imports. Each is the contract of a function of this crate (Go
-- specification, Constant declarations; Import declarations; Program execution).
use Rattle.std.specs.Prelude.{Bool}
use Rattle.go_tree.specs.declared.spans.Span.{Span}
use Rattle.go_translation.specs.SameMeaning.{Packages, SameMeaning}
use Rattle.order_runs.specs.RunSteps.SameCode.{SameCode}
use Rattle.order_runs.specs.ImportSteps.ImportingSteps.{ImportingStep, ImportingRun}

-- Such a step keeps the kernel program beside all further packages.
abbrev pub ImportingStepsKeepTheCode : Type 0
ImportingStepsKeepTheCode = (same : Span → Span → Bool) (P P' : Packages Span) → ImportingStep same P P' → SameCode P P'

-- So do any number of them, one after the other.
abbrev pub ImportingRunsKeepTheCode : Type 0
ImportingRunsKeepTheCode = (same : Span → Span → Bool) (P P' : Packages Span) → ImportingRun same P P' → SameCode P P'

-- So the packages after mean what the first do.
abbrev pub ImportingRunsMeanTheSame : Type 0
ImportingRunsMeanTheSame =
    (same : Span → Span → Bool) (P P' : Packages Span) → ImportingRun same P P' → SameMeaning P P'

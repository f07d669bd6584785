use Rattle.printed_constants.proofs.TypedParts.MarkedRuns.SoundImports.Sound.{added-sound}
use Rattle.printed_constants.proofs.typed_parts.marked_runs.sound_imports.added_imports_may_be_declared.Goals as goal

pub returns : goal.returns
returns c = λ marks st l after n ordered paths typed few w p f. added-sound marks st l after n ordered paths typed few w p f

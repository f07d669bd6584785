use Rattle.printed_constants.proofs.TypedParts.MarkedRuns.SoundImports.After.{after-sound}
use Rattle.printed_constants.proofs.typed_parts.marked_runs.sound_imports.settled_imports_may_be_declared.Goals as goal

pub returns : goal.returns
returns c = λ marks st l after n ordered paths typed few settled alike w p f. after-sound marks st l after n ordered paths typed few settled alike w p f

use Rattle.literal_steps.proofs.TypedWalk.{stmts_stand}
use Rattle.literal_steps.proofs.PartsHere.{body_here, all_here}
use Rattle.literal_steps.proofs.FilesKnown.{nothing_else}
use Rattle.literal_steps.proofs.laws.typed_bodies_are_written.Goals as goal

pub returns-clause-parts : goal.returns-clause-parts
returns-clause-parts c = λ home p d before b ends v h. stmts_stand home p d before b ends v h

pub returns-clause-written : goal.returns-clause-written
returns-clause-written c = λ ps home there at names new all outside beyond known nothing d p before b ends v h k a o ts r m w. body_here ps home there at names new all outside beyond known nothing d p before b ends v h k a o.0 o.1 ts r m w

pub returns-clause-home : goal.returns-clause-home
returns-clause-home c = λ ps home to names there around same xs. all_here ps home to names there around same xs

pub returns-clause-nothing : goal.returns-clause-nothing
returns-clause-nothing c = λ ps w s. nothing_else ps w s

use Rattle.constant_modules.proofs.CountedUses.Imports.{files_dotted, used_counted, all_counted, read_have}
use Rattle.constant_modules.proofs.counted_uses.laws.used_imports_are_counted.Goals as goal

pub returns-clause-dotted : goal.returns-clause-dotted
returns-clause-dotted c = λ ps ordered distinct ok w there i d e. files_dotted ps ordered distinct ok w there i d e

pub returns-clause-counted : goal.returns-clause-counted
returns-clause-counted c = λ ps ordered ok have more distinct linked w there k s e u. used_counted ps ordered ok have more distinct linked w there k s e u

pub returns-clause-used : goal.returns-clause-used
returns-clause-used c = λ ps ordered ok have more distinct linked used. all_counted ps ordered ok have more distinct linked used

pub returns-clause-read : goal.returns-clause-read
returns-clause-read c = λ st reads w there i d e. read_have st reads w there i d e

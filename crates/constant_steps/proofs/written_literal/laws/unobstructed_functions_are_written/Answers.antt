use Rattle.constant_steps.proofs.WrittenLiteral.PartsWritten.{body_written}
use Rattle.constant_steps.proofs.WrittenLiteral.LiteralWritten.{literal_written}
use Rattle.constant_steps.proofs.WrittenLiteral.ListedHeads.{listing}
use Rattle.constant_steps.proofs.written_literal.laws.unobstructed_functions_are_written.Goals as goal

pub returns-clause-bodies : goal.returns-clause-bodies
returns-clause-bodies c = λ ps home there at names new all outside beyond k ts p b r m w t o. body_written ps home there at names new all outside beyond k listing ts p b r m w t o.0 o.1

pub returns-clause-literals : goal.returns-clause-literals
returns-clause-literals c = λ ps home there at names new all outside beyond k w s z g b t o. literal_written ps home there at names new all outside beyond k w s z g b t o.0 o.1

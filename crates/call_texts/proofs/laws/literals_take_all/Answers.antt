use Rattle.call_texts.proofs.Texts.{takes_all}
use Rattle.call_texts.proofs.laws.literals_take_all.Goals as goal

pub returns-clause-read : goal.returns-clause-read
returns-clause-read c = λ same commented ps marks x kept b. takes_all same commented ps marks x kept b

pub returns-clause-standing : goal.returns-clause-standing
returns-clause-standing c = λ same commented ps marks x kept b. takes_all same commented ps marks x kept b

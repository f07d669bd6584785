use Rattle.taken_aliases.proofs.WrittenUses.Over.{written-over}
use Rattle.taken_aliases.proofs.written_uses.laws.written_uses_are_over.Goals as goal

pub returns : goal.returns
returns c = λ marks st l after n over. written-over marks st l after n over

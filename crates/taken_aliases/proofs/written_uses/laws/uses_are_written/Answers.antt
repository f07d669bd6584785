use Rattle.taken_aliases.proofs.WrittenUses.Over.{written-listed, uses-named}
use Rattle.taken_aliases.proofs.written_uses.laws.uses_are_written.Goals as goal

pub returns-clause-types : goal.returns-clause-types
returns-clause-types c = λ marks st l after n old is. written-listed marks st l after n old is

pub returns-clause-names : goal.returns-clause-names
returns-clause-names c = λ marks st l after n uses e part. uses-named marks st l after n uses e part

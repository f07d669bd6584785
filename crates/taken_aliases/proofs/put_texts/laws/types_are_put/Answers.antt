use Rattle.run_rules.specs.Run.{here_of}
use Rattle.taken_aliases.proofs.PutTexts.TypesPut.{type-put}
use Rattle.taken_aliases.proofs.put_texts.laws.types_are_put.Goals as goal

pub returns : goal.returns
returns c = λ text tree reads undotted z s p literal q n new h formed fits. type-put here_of text tree reads undotted z s p q n new formed literal h fits

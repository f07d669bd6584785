use Rattle.run_rules.specs.Programs.{decl_seen}
use Rattle.printed_constants.proofs.Parts.{decl_parts, parts_scoped, parts_keyed, parts_simple}
use Rattle.printed_constants.proofs.laws.printed_parts_are_simple.Goals as goal

pub returns-clause-scoped : goal.returns-clause-scoped
returns-clause-scoped c = λ ps k p file d h. parts_scoped (decl_seen ps k p file d) (decl_parts ps k p file h)

pub returns-clause-keyed : goal.returns-clause-keyed
returns-clause-keyed c = λ ps k p file d h. parts_keyed (decl_seen ps k p file d) (decl_parts ps k p file h)

pub returns-clause-simple : goal.returns-clause-simple
returns-clause-simple c = λ ps k p file d h. parts_simple (decl_seen ps k p file d) (decl_parts ps k p file h)

use Rattle.go_productions.specs.Cursors.{ahead}
use Rattle.go_parse.proofs.Lists.{ended_is, ended_off, ended_fails}
use Rattle.go_parse.proofs.file.whole_decl.Goals as goal

pub returns-in_default-clause-gives : goal.returns-in_default-clause-gives
returns-in_default-clause-gives c = ended_fails _ (rw c.in_default.is at c.in_ok-decl.ensures.gives)

pub returns-in_default-first : goal.returns-in_default-first
returns-in_default-first c = record { gives = ended_off _ _ (ahead c.in-Some.after) _ (rw c.in-Some.is at c.in_ok-decl.ensures.gives) c.first.ensures.is c.in_default-first.not-Semicolon; shorter = tt }

pub returns-clause-gives : goal.returns-clause-gives
returns-clause-gives c = ended_is _ _ (ahead c.in-Some.after) _ (rw c.in-Some.is at c.in_ok-decl.ensures.gives) c.in-Semicolon.ensures.is c.rest.ensures.is

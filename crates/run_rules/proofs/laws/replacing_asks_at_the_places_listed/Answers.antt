use Rattle.run_rules.proofs.WalksAlike.{expr-alike, stmts-alike}
use Rattle.run_rules.proofs.laws.replacing_asks_at_the_places_listed.Goals as goal

pub returns-clause-expressions : goal.returns-clause-expressions
returns-clause-expressions c = expr-alike

pub returns-clause-bodies : goal.returns-clause-bodies
returns-clause-bodies c = stmts-alike

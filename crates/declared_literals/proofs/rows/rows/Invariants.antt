use Rattle.declared_literals.specs.Rows.{AreRowsSoFar}
use Rattle.declared_literals.proofs.rows.rows.Given as goal

abbrev pub invariant-loop-number : goal.invariant-loop-number
invariant-loop-number l = AreRowsSoFar l.tables.env l.number l.rows.items

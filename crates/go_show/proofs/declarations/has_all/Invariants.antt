use Rattle.std.proofs.Common.{drop, length}
use Rattle.type_table.specs.Rows.{IdsBelow}
use Rattle.go_show.proofs.declarations.has_all.Given as goal

abbrev pub invariant-loop-t : goal.invariant-loop-t
invariant-loop-t l = IdsBelow (length l.types.rows) (drop l.t-index l.ids) → IdsBelow (length l.types.rows) l.ids

use Rattle.std.proofs.Common.{map}
use Rattle.type_table.specs.Rows.{row_of}
use Rattle.type_table.proofs.InternLaws.{get_mapped, parts_below}
use Rattle.type_table.proofs.TypesAtLaws.{type_at_row}
use Rattle.type_table.proofs.table.TypeTable.node.Goals as goal

pub returns-clause-is : goal.returns-clause-is
returns-clause-is c =
    rw (← c.self.view_is)
    (type_at_row (map row_of c.self.inside.rows.keys) c.self.invariant c.args.t.0 (row_of c.index.result.now)
    (get_mapped row_of c.self.inside.rows.keys c.args.t.0 c.index.ensures))

pub returns-clause-parts : goal.returns-clause-parts
returns-clause-parts c =
    parts_below c.args.t.0 c.index.result.now
    (c.self.invariant.earlier c.args.t.0 (row_of c.index.result.now)
    (get_mapped row_of c.self.inside.rows.keys c.args.t.0 c.index.ensures))

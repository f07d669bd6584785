use Rattle.type_table.specs.Rows.{row_of}
use Rattle.type_table.specs.TypeRelations.Inside.{seen}
use Rattle.type_table.proofs.TypeRelations.GrownLaws.{grown_by, environment_grown, type_kept, defined_kept, made_of_parts}
use Rattle.type_table.proofs.type_relations.env.Env.intern.Goals as goal

pub invariant_of-self : goal.invariant_of-self
invariant_of-self c =
    environment_grown (seen c.self.inside) c.intern.new.self c.self.invariant
    (grown_by c.intern.result c.self.inside.types c.intern.new.self (row_of c.args.n) c.intern.ensures.rows c.intern.ensures.same)
    c.intern.ensures.table

pub returns-clause-is : goal.returns-clause-is
returns-clause-is c =
    made_of_parts c.intern.result c.intern.new.self (row_of c.args.n) c.intern.ensures.table c.intern.ensures.row

pub returns-clause-types : goal.returns-clause-types
returns-clause-types c =
    rw (← c.self.view_is)
    (type_kept c.self.inside.types c.intern.new.self c.self.invariant.table c.intern.ensures.table
    (grown_by c.intern.result c.self.inside.types c.intern.new.self (row_of c.args.n) c.intern.ensures.rows c.intern.ensures.same))

pub returns-clause-defined : goal.returns-clause-defined
returns-clause-defined c =
    rw (← c.self.view_is)
    (defined_kept (seen c.self.inside) c.intern.new.self c.self.invariant c.intern.ensures.table
    (grown_by c.intern.result c.self.inside.types c.intern.new.self (row_of c.args.n) c.intern.ensures.rows c.intern.ensures.same))

use Rattle.scope_tables.proofs.RowSteps.{no_locals, no_outside}
use Rattle.scope_tables.proofs.rows.Rows.new.Goals as goal

pub returns-clause-locals : goal.returns-clause-locals
returns-clause-locals c = no_locals (record { alloc = c.args.alloc; names = c.new.result; rows = c.new-2.result }) c.new.ensures

pub returns-clause-outside : goal.returns-clause-outside
returns-clause-outside c = no_outside (record { alloc = c.args.alloc; names = c.new.result; rows = c.new-2.result }) c.new.ensures

use Rattle.std.proofs.Common.{sym, subst}
use Rattle.go_tree.specs.FileView.{file_of}
use Rattle.scope_tables.specs.Table.{IsTableOf}
use Rattle.scope_tables.proofs.Loops.{table_given}
use Rattle.scope_tables.proofs.builds.scopes_in.Goals as goal

pub returns-clause-table : goal.returns-clause-table
returns-clause-table c =
    subst (IsTableOf c.args.names.now (file_of c.args.file.now)) (sym c.of.ensures)
    (table_given c.args.names.now (file_of c.args.file.now) c.in_ok-local_scopes.field-0.items c.deref.result.now c.in_ok-specs.specs.items c.args.block c.items.result.now c.items-2.result.now c.new-rows.result c.declare_all.new.rows c.claim_imports.new.rows
    c.items.ensures c.items-2.ensures c.in_ok-local_scopes.ensures c.deref.ensures.value c.new-rows.ensures.locals c.new-rows.ensures.outside c.in_ok-declare_all.ensures.locals c.in_ok-declare_all.ensures.outside
    c.in_ok-claim_imports.ensures.locals c.in_ok-claim_imports.ensures.outside c.requires.block c.in_ok-specs.ensures)

use Rattle.std.proofs.Common.{◌≡◌, drop}
use Rattle.scope_tables.specs.Table.{table_of}
use Rattle.import_edit.specs.Serving.{serving_at}
use Rattle.import_edit.proofs.needs.serving.Given as goal

abbrev pub invariant-loop-number : goal.invariant-loop-number
invariant-loop-number l =
    serving_at (table_of l.scopes) l.at l.bound l.path l.number (drop l.number l.imports) ≡ serving_at (table_of l.scopes) l.at l.bound l.path 0 l.imports

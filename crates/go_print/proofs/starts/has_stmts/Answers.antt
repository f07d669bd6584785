use Rattle.go_print.proofs.Any.{any_stmt}
use Rattle.go_print.proofs.starts.has_stmts.Goals as goal

pub returns : goal.returns
returns c = any_stmt _ _ _ c.items.ensures.seen c.is_empty.ensures

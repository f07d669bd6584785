use Rattle.go_print.proofs.Any.{any_expr}
use Rattle.go_print.proofs.starts.has_exprs.Goals as goal

pub returns : goal.returns
returns c = any_expr _ _ _ c.items.ensures.seen c.is_empty.ensures

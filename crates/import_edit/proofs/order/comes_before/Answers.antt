use Rattle.std.proofs.Common.{◌∙◌, ap}
use Rattle.std.specs.Ordering.{is_lt}
use Rattle.import_edit.proofs.OrderLaws.{path_before}
use Rattle.import_edit.proofs.order.comes_before.Goals as goal

pub returns : goal.returns
returns c = c.is_lt.ensures ∙ ap is_lt c.cmp.ensures ∙ path_before c.args.path.now c.args.other.now

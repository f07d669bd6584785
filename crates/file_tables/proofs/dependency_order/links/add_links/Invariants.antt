use Rattle.std.proofs.Common.{take}
use Rattle.file_tables.specs.DependencyOrder.Links.{AddsTo}
use Rattle.file_tables.proofs.dependency_order.links.add_links.Given as goal

abbrev pub invariant-loop-number : goal.invariant-loop-number
invariant-loop-number l = AddsTo l.row (take l.number-index l.numbers) l.initial.rows l.rows

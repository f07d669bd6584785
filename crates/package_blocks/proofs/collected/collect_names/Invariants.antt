use Rattle.std.proofs.Common.{drop}
use Rattle.package_blocks.specs.Collected.{Collecting}
use Rattle.package_blocks.specs.Imports.{views}
use Rattle.package_blocks.proofs.collected.collect_names.Given as goal

abbrev pub invariant-loop-number : goal.invariant-loop-number
invariant-loop-number l = Collecting (views l.packages) (drop l.number-index l.order) l.collected

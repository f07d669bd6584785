use Rattle.std.proofs.Common.{length, arith}
use Rattle.pkg_graph.specs.ModuleFiles.Internal.{passes}
use Rattle.pkg_graph.proofs.ModuleFiles.InternalLaws.{below_missed}
use Rattle.pkg_graph.proofs.module_files.internal.may_import.Goals as goal

pub returns-then-not-passes : goal.returns-then-not-passes
returns-then-not-passes c = grind (arith, below_missed (passes c.args.from.now c.args.path.now) (length c.args.path.now) c.loop-k.k (grind (arith, c.if-not-passes.true, c.passes.ensures)) (grind (arith, c.loop-k-test.true, c.loop-k.auto.k-end)))

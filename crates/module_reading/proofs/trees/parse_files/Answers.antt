use Rattle.std.proofs.Common.{refl, sym, subst, take, ◌+◌}
use Rattle.module_texts.specs.Files.{AreTreesOf}
use Rattle.module_reading.proofs.TreeLemmas.{trees_more, trees_refused}
use Rattle.module_reading.proofs.trees.parse_files.Goals as goal

pub returns-in-Err-clause-refused : goal.returns-in-Err-clause-refused
returns-in-Err-clause-refused c = trees_refused c.args.files.now c.loop-number.number c.index-files-number.result c.loop-number.trees.items c.loop-number.number c.in-Err.fault c.loop-number-test.true c.index-files-number.is c.loop-number.invariant refl c.in-Err.ensures.refused

pub loop-number-preserved : goal.loop-number-preserved
loop-number-preserved c =
    subst (AreTreesOf (take (c.loop-number.number + 1) c.args.files.now)) (sym c.in_ok-push.ensures.items)
    (trees_more c.args.files.now c.loop-number.number c.index-files-number.result c.loop-number.trees.items c.in-Ok.tree c.loop-number-test.true c.index-files-number.is c.loop-number.invariant c.in-Ok.ensures.read)

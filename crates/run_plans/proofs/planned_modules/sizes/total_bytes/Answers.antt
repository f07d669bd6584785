use Rattle.std.proofs.Common.{arith}
use Rattle.run_plans.proofs.PlannedModules.FileSizes.{size_bounded, size_more}
use Rattle.run_plans.proofs.planned_modules.sizes.total_bytes.Goals as goal

pub overflow_add-sum : goal.overflow_add-sum
overflow_add-sum c =
    let more = size_more c.args.files.now c.loop-file.file-index c.file-item.result c.loop-file-test.true c.file-item.is in
    let bound = size_bounded c.args.files.now c.requires.small in
    omega (arith, c.loop-file.invariant, more, bound, c.requires.count)

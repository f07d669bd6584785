use Rattle.std.proofs.Common.{◌+◌, drop, get_or}
use Rattle.typed_names.proofs.TypeExprs.NewNames.{drop_all, drop_item}
use Rattle.package_blocks.specs.Imports.{views}
use Rattle.package_blocks.specs.declared.collected.PackageNames.{PackageNames}
use Rattle.package_blocks.proofs.CollectedLemmas.{collecting_end, collecting_start, collecting_step, count_views, item_either, order_computed}
use Rattle.package_blocks.proofs.collected.collect_names.Goals as goal

pub loop-number-init : goal.loop-number-init
loop-number-init c =
    let start : PackageNames = record { blocks = c.in_ok-empty_blocks.field-0; files = c.new.result; headers = c.new-2.result } in
    collecting_start (views c.args.packages.now) c.args.order.now start
    (order_computed c.one_order_at_most.ensures.unique c.args.packages.now c.args.order.now c.requires.order)
    (count_views c.args.packages.now c.in_ok-empty_blocks.field-0 c.in_ok-empty_blocks.ensures) c.new.ensures.items
    c.new-2.ensures.items

pub loop-number-preserved : goal.loop-number-preserved
loop-number-preserved c =
    let order = c.args.order.now in
    let i = c.loop-number.number-index in
    collecting_step c.args.packages.now (get_or order i 0) (drop i order) (drop (i + 1) order) c.loop-number.collected
    c.add_package.new.collected (drop_item order i (get_or order i 0) c.loop-number-test.true
    (item_either order i 0 (get_or order i 0) c.loop-number-test.true)) c.loop-number.invariant
    c.in_ok-add_package.ensures

pub returns : goal.returns
returns c =
    collecting_end (views c.args.packages.now) (drop c.loop-number.number-index c.args.order.now) c.loop-number.collected
    (drop_all c.args.order.now c.loop-number.number-index c.loop-number-test.false) c.loop-number.invariant

use Rattle.std.proofs.Common.{◌+◌, drop, get_or, subst, sym}
use Rattle.typed_names.proofs.TypeExprs.NewNames.{drop_all, drop_item}
use Rattle.package_blocks.proofs.CollectedLemmas.{item_either}
use Rattle.header_order.specs.FirstImports.Firsts.{Passed, trees_of}
use Rattle.header_order.proofs.FirstImports.Passing.{passed_all, passed_none}
use Rattle.header_order.proofs.FirstImports.Converted.{first_imports_are}
use Rattle.header_order.proofs.first_imports.firsts.first_refused_imports.Goals as goal

pub loop-number-init : goal.loop-number-init
loop-number-init c =
    let all = trees_of c.args.packages.now c.args.order.now in
    subst (Passed c.args.packages.now c.args.blocks.now c.args.used.now all all) (sym c.new-firsts.ensures.items)
    (passed_none c.args.packages.now c.args.blocks.now c.args.used.now all)

pub loop-number-preserved : goal.loop-number-preserved
loop-number-preserved c =
    let packages = c.args.packages.now in
    let order = c.args.order.now in
    let i = c.loop-number.number-index in
    let k = get_or order i 0 in
    let all = trees_of packages order in
    c.in_ok-add_package.ensures all (trees_of packages (drop (i + 1) order))
    (subst (λ ks. Passed packages c.args.blocks.now c.args.used.now all (trees_of packages ks) c.loop-number.firsts.items)
    (drop_item order i k c.loop-number-test.true (item_either order i 0 k c.loop-number-test.true))
    c.loop-number.invariant)

pub returns : goal.returns
returns c =
    let packages = c.args.packages.now in
    let order = c.args.order.now in
    let all = trees_of packages order in
    λ have uses.
    first_imports_are c.one_order_at_most.ensures.unique packages order c.requires c.args.blocks.now c.args.used.now
    c.loop-number.firsts.items
    (passed_all packages c.args.blocks.now c.args.used.now all c.loop-number.firsts.items
    (subst (λ ks. Passed packages c.args.blocks.now c.args.used.now all (trees_of packages ks) c.loop-number.firsts.items)
    (drop_all order c.loop-number.number-index c.loop-number-test.false) c.loop-number.invariant))
    have uses

use Rattle.std.proofs.Common.{◌++◌, ap, get_or, refl}
use Rattle.std.specs.Prelude.{slice_get}
use Rattle.package_blocks.proofs.CollectedLemmas.{item_either}
use Rattle.file_names.proofs.Walks.{all_listed, one_listed}
use Rattle.checked_modules.specs.FilePlaces.Trees.{package_trees, shown, trees_of}
use Rattle.checked_modules.proofs.file_places.trees.module_trees.Goals as goal

pub loop-number-init : goal.loop-number-init
loop-number-init c =
    ap (λ ts. shown ts ++ trees_of c.args.packages.now c.args.order.now) c.new-trees.ensures.items

pub loop-number-preserved : goal.loop-number-preserved
loop-number-preserved c =
    let packages = c.args.packages.now in
    let order = c.args.order.now in
    let i = c.loop-number.number-index in
    let k = get_or order i 0 in
    one_listed (λ j ks. trees_of packages ks) (λ j k. package_trees (slice_get packages k)) (λ j k ks. refl) order i k
    (shown c.loop-number.trees.items) (shown c.add_package.new.trees.items) (trees_of packages order)
    c.loop-number-test.true (item_either order i 0 k c.loop-number-test.true) c.in_ok-add_package.ensures
    c.loop-number.invariant

pub returns : goal.returns
returns c =
    let packages = c.args.packages.now in
    let order = c.args.order.now in
    all_listed (λ j ks. trees_of packages ks) (λ j. refl) order c.loop-number.number-index
    (shown c.loop-number.trees.items) (trees_of packages order) c.loop-number-test.false c.loop-number.invariant

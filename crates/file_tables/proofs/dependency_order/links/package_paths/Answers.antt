use Rattle.std.proofs.Common.{◌∙◌}
use Rattle.file_tables.proofs.DependencyOrder.Paths.{one_path, all_paths}
use Rattle.file_tables.proofs.dependency_order.links.package_paths.Goals as goal

pub loop-package-preserved : goal.loop-package-preserved
loop-package-preserved c =
    one_path c.args.packages.now c.loop-package.package-index c.package-item.result c.in_ok-to_vec.field-0.items c.loop-package.paths c.add.new.self c.requires c.loop-package-test.true c.package-item.is
    (c.in_ok-to_vec.ensures.items_if_clones_equal (λ x y e. e) ∙ c.items.ensures) c.loop-package.invariant c.in_ok-add.ensures.added

pub returns : goal.returns
returns c = all_paths c.args.packages.now c.loop-package.package-index c.loop-package.paths c.loop-package-test.false c.loop-package.invariant

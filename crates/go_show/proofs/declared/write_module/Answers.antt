use Rattle.go_show.proofs.ModuleLemmas.{read_are_ordered, read_are_spelled}
use Rattle.go_show.proofs.declared.write_module.Goals as goal

pub write_packages-requires-clause-order : goal.write_packages-requires-clause-order
write_packages-requires-clause-order g c =
    read_are_ordered c.packages-packages.result.now c.order.result.now c.args.files.now c.args.read.now c.requires
    c.packages-packages.ensures c.order.ensures

pub write_packages-requires-clause-spelled : goal.write_packages-requires-clause-spelled
write_packages-requires-clause-spelled g c =
    read_are_spelled c.packages-packages.result.now c.args.files.now c.args.read.now c.requires
    c.packages-packages.ensures

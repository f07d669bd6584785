use Rattle.go_show.proofs.ModuleLemmas.{read_are_ordered, read_are_spelled, read_are_walked}
use Rattle.go_show.proofs.checked.check_module.Goals as goal

pub check_packages-requires-clause-order : goal.check_packages-requires-clause-order
check_packages-requires-clause-order c =
    read_are_ordered c.packages-packages.result.now c.order.result.now c.args.files.now c.args.read.now c.requires.read
    c.packages-packages.ensures c.order.ensures

pub check_packages-requires-clause-spelled : goal.check_packages-requires-clause-spelled
check_packages-requires-clause-spelled c =
    read_are_spelled c.packages-packages.result.now c.args.files.now c.args.read.now c.requires.read
    c.packages-packages.ensures

pub check_packages-requires-clause-walked : goal.check_packages-requires-clause-walked
check_packages-requires-clause-walked c =
    read_are_walked c.packages-packages.result.now c.args.files.now c.args.read.now c.requires.read
    c.packages-packages.ensures

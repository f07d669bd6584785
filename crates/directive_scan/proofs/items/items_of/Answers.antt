use Rattle.std.proofs.Common.{◌≡◌, IfOk, subst}
use Rattle.go_tree.specs.FileView.{file_of}
use Rattle.directive_scan.specs.Items.{items_of}
use Rattle.directive_scan.proofs.items.items_of.Goals as goal

pub returns : goal.returns
returns c = subst (λ names. IfOk c.items_around.result (λ items. items.items ≡ items_of names (file_of c.args.file.now))) c.in_ok-around.ensures.names c.items_around.ensures

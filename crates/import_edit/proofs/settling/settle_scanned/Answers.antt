use Rattle.std.proofs.Common.{◌∙◌}
use Rattle.go_tree.specs.FileView.{file_of}
use Rattle.import_edit.proofs.SettleLaws.{settled_same}
use Rattle.import_edit.proofs.settling.settle_scanned.Goals as goal

pub returns : goal.returns
returns c =
    c.in_ok-edits.ensures
    ∙ settled_same c.args.text.now c.args.tokens.now c.args.comments.now (file_of c.args.file.now) c.in_ok-unused.unused c.args.unused.now c.in_ok-unused.ensures c.args.added.now c.requires.laid

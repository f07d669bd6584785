use Rattle.std.proofs.Common.{◌≡◌, drop}
use Rattle.go_tree.specs.GoWords.Tokens.Pieces.{is_among}
use Rattle.import_edit.proofs.needs.is_among.Given as goal

abbrev pub invariant-loop-other : goal.invariant-loop-other
invariant-loop-other l = is_among (drop l.other-index l.names) l.name ≡ is_among l.names l.name

use Rattle.std.proofs.Common.{sym, subst}
use Rattle.go_tree.specs.GoLiterals.Units.{IsUnit}
use Rattle.go_tree.proofs.GoLiterals.FormLemmas.{rune_unit}
use Rattle.go_tree.proofs.go_literals.runes.rune_value.Goals as goal

pub between_quotes-requires : goal.between_quotes-requires
between_quotes-requires c = (rune_unit c.args.spelling.now c.requires).0

pub rune-requires : goal.rune-requires
rune-requires c = subst IsUnit (sym c.between_quotes.ensures) (rune_unit c.args.spelling.now c.requires).1

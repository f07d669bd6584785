use Rattle.std.proofs.Common.{◌∙◌}
use Rattle.go_tree.proofs.GoWords.RowLemmas.{operator_row}
use Rattle.go_tree.proofs.go_words.terminals.operator.Goals as goal

pub returns : goal.returns
returns c = c.row_at.ensures ∙ operator_row c.args.word.now c.hash.result c.from.result c.hash.ensures c.from.ensures

use Rattle.std.proofs.Common.{◌∙◌}
use Rattle.go_tree.proofs.GoWords.RowLemmas.{keyword_row}
use Rattle.go_tree.proofs.go_words.terminals.keyword.Goals as goal

pub returns : goal.returns
returns c = c.row_at.ensures ∙ keyword_row c.args.word.now c.hash.result c.from.result c.hash.ensures c.from.ensures

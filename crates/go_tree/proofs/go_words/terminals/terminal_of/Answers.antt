use Rattle.std.proofs.Common.{◌≡◌, ◌∙◌, ap, sym, subst}
use Rattle.go_tree.specs.declared.tokens.TokenKind.{TokenKind}
use Rattle.go_tree.specs.GoWords.Codes.{spelled, foreign_or}
use Rattle.go_tree.specs.GoWords.Terminals.{keywords, operators, terminal_of}
use Rattle.go_tree.proofs.GoWords.RowLemmas.{found_row}
use Rattle.go_tree.proofs.go_words.terminals.terminal_of.Goals as goal

pub returns-in-Keyword : goal.returns-in-Keyword
returns-in-Keyword c =
    subst (λ (k : TokenKind). spelled c.or_foreign.result c.args.spelling.now ≡ terminal_of k c.args.spelling.now) (sym c.in-Keyword.is)
    (c.or_foreign.ensures c.args.spelling.now ∙ ap foreign_or c.keyword.ensures ∙ found_row keywords c.args.spelling.now)

pub returns-in-Operator : goal.returns-in-Operator
returns-in-Operator c =
    subst (λ (k : TokenKind). spelled c.or_foreign-in-Operator.result c.args.spelling.now ≡ terminal_of k c.args.spelling.now) (sym c.in-Operator.is)
    (c.or_foreign-in-Operator.ensures c.args.spelling.now ∙ ap foreign_or c.operator.ensures ∙ found_row operators c.args.spelling.now)

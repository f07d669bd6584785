use Rattle.std.proofs.Common.{Bool, cond, sym, ap, ◌∙◌}
use Rattle.go_tree.specs.declared.tokens.TokenKind.TheVariants.{Ident, Keyword}
use Rattle.go_tree.specs.GoWords.Tokens.Pieces.{token}
use Rattle.go_tree.specs.GoWords.Codes.{spelled}
use Rattle.go_scan.proofs.BytesLemmas.{keyword_test}
use Rattle.go_scan.proofs.pieces.word_kind.Goals as goal

pub returns-then-is_some : goal.returns-then-is_some
returns-then-is_some c =
    sym (ap (λ (b : Bool). cond b (token Keyword) (token Ident))
    (keyword_test _ c.args.word.now c.as_bytes.result.now c.utf8.word c.as_bytes.ensures.value (λ t. spelled t c.as_bytes.result.now) c.keyword.result c.is_some.result c.is_some.ensures c.keyword.ensures
    ∙ c.if-is_some.true))

pub returns-else-is_some : goal.returns-else-is_some
returns-else-is_some c =
    sym (ap (λ (b : Bool). cond b (token Keyword) (token Ident))
    (keyword_test _ c.args.word.now c.as_bytes.result.now c.utf8.word c.as_bytes.ensures.value (λ t. spelled t c.as_bytes.result.now) c.keyword.result c.is_some.result c.is_some.ensures c.keyword.ensures
    ∙ c.if-is_some.false))

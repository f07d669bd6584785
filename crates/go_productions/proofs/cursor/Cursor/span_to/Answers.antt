use Rattle.std.proofs.Common.{◌≡◌, ◌-◌, length, take, ap, ◌∙◌, arith, ℕ}
use Rattle.go_productions.specs.Cursors.{ahead}
use Rattle.go_productions.proofs.Heads.{span_is}
use Rattle.go_productions.proofs.cursor.Cursor.span_to.Goals as goal

pub returns-in-Some-last : goal.returns-in-Some-last
returns-in-Some-last c =
    let a = c.in-Some.ensures in
    let b = c.in-Some-last.ensures in
    let fewer : c.saturating_sub-taken.result ≡ length (ahead c.args.self) - length (ahead c.args.end) =
    c.saturating_sub-taken.ensures ∙ ap (λ (n : ℕ). n - c.len-2.result) c.len.ensures ∙ ap (λ (n : ℕ). length (ahead c.args.self) - n) c.len-2.ensures in
    span_is c.tokens-tokens.result.now (ahead c.args.self) (ahead c.args.end) c.saturating_sub-taken.result c.in-Some.first.now c.in-Some-last.last.now
    (length (take c.saturating_sub-taken.result c.tokens-tokens.result.now) - 1) c.tokens-tokens.ensures a.item.0 a.item.1 fewer (omega (arith, b.item.3.0)) b.item.1

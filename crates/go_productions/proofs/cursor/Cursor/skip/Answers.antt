use Rattle.std.proofs.Common.{◌≡◌, ◌-◌, length, ap, ◌∙◌, arith}
use Rattle.go_productions.proofs.Heads.{length_at}
use Rattle.go_productions.proofs.cursor.Cursor.skip.Goals as goal

pub overflow_sub-result-2 : goal.overflow_sub-result-2
overflow_sub-result-2 c =
    let size : c.len.result ≡ length c.args.self.tokens.now.items - c.args.self.at = c.len.ensures ∙ length_at c.args.self in
    let all : length c.items.result.now ≡ length c.args.self.tokens.now.items = ap length c.items.ensures in
    omega (arith, size, all)

use Rattle.std.proofs.Common.{◌≢◌, ◌≡◌, length, rules}
use Rattle.std.specs.Vec.{vec_len}
use Rattle.go_statements.proofs.SimpleArms.{only_popped}
use Rattle.go_statements.proofs.simple_stmts.only.Goals as goal

pub returns-then-not-is_empty : goal.returns-then-not-is_empty
returns-then-not-is_empty c =
    let sized : vec_len c.pop-last.new.self ≡ length c.pop-last.new.self.items = search rules in
    let full : vec_len c.pop-last.new.self ≢ 0 = search rules in
    only_popped c.args.exprs.items c.pop-last.new.self.items c.pop-last.result (vec_len c.args.exprs) (vec_len c.pop-last.new.self) c.pop-last.ensures.items c.pop-last.ensures.cases sized full

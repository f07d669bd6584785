use Rattle.std.proofs.Common.{arith, ◌≤◌}
use Rattle.type_table.proofs.OperandRules.ConstantLemmas.{room_left, bytes_within}
use Rattle.type_table.proofs.operand_rules.constants.ConstTable.keep.Goals as goal

pub invariant_of-self-2 : goal.invariant_of-self-2
invariant_of-self-2 c =
    let fits : c.bytes_of-bytes.result ≤ c.self.inside.room = omega (arith, c.if-bytes-self.false) in
    room_left c.self.inside.values.items c.push.new.self.items c.args.value 67108864 c.self.inside.room
    c.bytes_of-bytes.result c.in_ok-push.ensures.items c.bytes_of-bytes.ensures fits c.self.invariant

pub returns-clause-bounded : goal.returns-clause-bounded
returns-clause-bounded c =
    let fits : c.bytes_of-bytes.result ≤ c.self.inside.room = omega (arith, c.if-bytes-self.false) in
    bytes_within c.self.inside.values.items c.push.new.self.items c.args.value 67108864 c.self.inside.room
    c.bytes_of-bytes.result c.in_ok-push.ensures.items c.bytes_of-bytes.ensures fits c.self.invariant

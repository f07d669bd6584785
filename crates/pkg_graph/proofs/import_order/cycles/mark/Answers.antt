use Rattle.std.proofs.Common.{arith, ◌∙◌, length, ap}
use Rattle.std.proofs.lemmas.List.{length_push}
use Rattle.pkg_graph.proofs.ImportOrder.WalkLaws.{one_fewer}
use Rattle.pkg_graph.proofs.import_order.cycles.mark.Goals as goal

pub returns-in_ok-push-clause-count : goal.returns-in_ok-push-clause-count
returns-in_ok-push-clause-count c =
    let fewer = one_fewer c.args.marks.now c.args.number c.requires c.if-not-marks-number.true in
    let more = ap length c.in_ok-push.ensures.items ∙ length_push c.args.walk.now.items c.args.number in
    omega (arith, fewer, more)

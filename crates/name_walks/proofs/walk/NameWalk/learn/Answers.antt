use Rattle.std.proofs.Common.{sym}
use Rattle.name_walks.specs.Walk.{walk_of}
use Rattle.name_walks.proofs.BlockLaws.{learned}
use Rattle.name_walks.proofs.walk.NameWalk.learn.Goals as goal

pub returns-in_ok-push-in-Some : goal.returns-in_ok-push-in-Some
unfolding walk_of
returns-in_ok-push-in-Some c =
    learned c.args.name.now (walk_of c.args.self.now) c.pop.new.self.items c.push.new.self.items c.pop.result c.in-Some.block c.in_ok-with_known-in-Some.field-0
    (sym c.if-is_blank.ensures) c.pop.ensures.items c.in-Some.is c.in_ok-with_known-in-Some.ensures c.in_ok-push-in-Some.ensures.items

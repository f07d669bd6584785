use Rattle.std.proofs.Common.{arith, ◌∙◌}
use Rattle.pkg_graph.proofs.ImportOrder.WalkLaws.{walk_more, walked_within, off_cycle}
use Rattle.std.proofs.Common.{refl}
use Rattle.std.proofs.lemmas.List.{nil_from_length}
use Rattle.pkg_graph.proofs.import_order.cycles.walk_on.Goals as goal

pub loop-k-preserved : goal.loop-k-preserved
loop-k-preserved c = walk_more c.args.links.now c.args.start c.loop-k.marks c.mark_row.new.marks c.loop-k.walk.items c.pop.new.self.items c.mark_row.new.walk.items c.in-Some.k c.loop-k.invariant c.in-Some.ensures.items (rw c.row.ensures at c.in_ok-mark_row.ensures.marked) (rw c.row.ensures at c.in_ok-mark_row.ensures.walked)

pub row-requires : goal.row-requires
row-requires c = walked_within c.args.links.now c.args.start c.loop-k.marks c.loop-k.walk.items c.pop.new.self.items c.in-Some.k c.requires.start (c.loop-k.auto.marks ∙ c.requires.size) c.loop-k.invariant c.in-Some.ensures.items

pub returns-clause-not : goal.returns-clause-not
returns-clause-not c = off_cycle c.args.links.now c.args.start c.loop-k.marks c.loop-k.walk.items (nil_from_length c.loop-k.walk.items (omega (arith, c.in_default.ensures.cases))) c.loop-k.invariant _ refl

use Rattle.std.proofs.Common.{◌∙◌, ◌||◌, ap}
use Rattle.go_tree.specs.GoWords.Tokens.Pieces.{is_among}
use Rattle.name_walks.specs.EachOnce.{with_name}
use Rattle.name_walks.proofs.SetLaws.{add_step}
use Rattle.name_walks.proofs.sets.add_all.Goals as goal

pub loop-name-preserved : goal.loop-name-preserved
loop-name-preserved c = λ q.
    add_step c.args.names.now c.loop-name.name-index c.name-item.result c.loop-name.set c.add.new.self q (is_among c.args.names.now q || is_among c.args.set.now q)
    c.loop-name-test.true c.name-item.is (c.loop-name.invariant q)
    (c.in_ok-add.ensures.added ∙ ap (with_name c.loop-name.set) (c.in_ok-copy_of.ensures ∙ c.items.ensures))

use Rattle.std.proofs.Common.{◌≡◌, ◌∙◌, ap, not}
use Rattle.go_tree.specs.GoWords.Tokens.Pieces.{is_among}
use Rattle.name_walks.specs.EachOnce.{each_once, with_name}
use Rattle.name_walks.proofs.SetLaws.{once_loop, once_same}
use Rattle.name_walks.proofs.sets.each_once.Goals as goal

pub loop-name-preserved : goal.loop-name-preserved
loop-name-preserved c =
    let name = c.name-item.result in
    let seen = c.loop-name.seen in
    let copied = c.in_ok-copy_of.ensures ∙ c.items.ensures in
    let added : c.add.new.self ≡ with_name seen name = c.in_ok-is_new.ensures.added ∙ ap (with_name seen) copied in
    record {
      same = c.in_ok-push_if.ensures ∙ once_same seen c.loop-name.list.items c.add.new.self name c.in_ok-is_new.is_new (c.in_ok-is_new.ensures.is_new ∙ ap (λ n. not (is_among seen n)) copied) c.loop-name.invariant.same added;
      rest = once_loop c.args.names.now c.loop-name.name-index name seen c.add.new.self (each_once c.args.names.now) c.loop-name-test.true c.name-item.is c.loop-name.invariant.rest added;
    }

use Rattle.std.proofs.Common.{◌+◌, drop, subst}
use Rattle.typed_names.proofs.TypeExprs.NewNames.{drop_all, drop_item}
use Rattle.package_blocks.specs.Names.{Declares, NamesFollow, NamesPassed, plain_names}
use Rattle.package_blocks.proofs.FollowLemmas.{passed_all, passed_none, passed_one}
use Rattle.package_blocks.proofs.names.declare_all.Goals as goal

pub loop-name-init : goal.loop-name-init
loop-name-init c = passed_none c.args.home c.args.blocks.now (plain_names c.items-name-items.result.now)

pub loop-name-preserved : goal.loop-name-preserved
loop-name-preserved c =
    let items = c.items-name-items.result.now in
    let i = c.loop-name.name-index in
    let item = c.name-item.result in
    let r = subst
    (λ xs. NamesPassed c.args.home c.args.blocks.now (plain_names items) (plain_names xs) c.loop-name.blocks c.loop-name.sound)
    (drop_item items i item c.loop-name-test.true c.name-item.is) c.loop-name.invariant in
    passed_one c.args.home c.args.blocks.now (plain_names items) item.name (plain_names (drop (i + 1) items))
    c.loop-name.blocks c.declare.new.blocks c.loop-name.sound c.in_ok-follows.follows r c.in_ok-follows.ensures.declared
    c.in_ok-follows.ensures.sound

pub returns : goal.returns
returns c =
    let items = c.items-name-items.result.now in
    let r = subst
    (λ xs. NamesPassed c.args.home c.args.blocks.now (plain_names items) (plain_names xs) c.loop-name.blocks c.loop-name.sound)
    (drop_all items c.loop-name.name-index c.loop-name-test.false) c.loop-name.invariant in
    let p = passed_all c.args.home c.args.blocks.now (plain_names items) c.loop-name.blocks c.loop-name.sound r in
    record {
      declared = subst (λ ns. Declares c.args.home (plain_names ns) c.args.blocks.now c.loop-name.blocks)
          c.items-name-items.ensures p.0;
      sound = subst (λ ns. NamesFollow c.args.home c.args.blocks.now (plain_names ns) c.loop-name.sound)
          c.items-name-items.ensures p.1;
    }

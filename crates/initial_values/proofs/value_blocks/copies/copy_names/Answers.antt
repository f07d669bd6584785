use Rattle.std.proofs.Common.{◌+◌, drop, subst, sym}
use Rattle.typed_names.proofs.TypeExprs.NewNames.{drop_all, drop_item}
use Rattle.package_blocks.specs.Names.{plain_names}
use Rattle.initial_values.specs.ValueBlocks.Copies.{AddsCopies, NamesCopied}
use Rattle.initial_values.proofs.ValueBlocks.CopyLemmas.{names_all, names_more, names_none}
use Rattle.initial_values.proofs.value_blocks.copies.copy_names.Goals as goal

pub loop-name-init : goal.loop-name-init
loop-name-init c =
    names_none c.args.blocks.now c.args.home (plain_names c.items-name-items.result.now) c.args.copies.now c.requires

pub loop-name-preserved : goal.loop-name-preserved
loop-name-preserved c =
    let items = c.items-name-items.result.now in
    let i = c.loop-name.name-index in
    let item = c.name-item.result in
    let r = subst
    (λ xs. NamesCopied c.args.blocks.now c.args.home (plain_names items) (plain_names xs) c.args.copies.now c.loop-name.copies)
    (drop_item items i item c.loop-name-test.true c.name-item.is) c.loop-name.invariant in
    names_more c.args.blocks.now c.args.home (plain_names items) c.args.copies.now item.name
    (plain_names (drop (i + 1) items)) c.loop-name.copies c.copy_name.new.copies r c.in_ok-copy_name.ensures

pub copy_name-requires : goal.copy_name-requires
copy_name-requires c = c.loop-name.invariant.are

pub returns : goal.returns
returns c =
    let items = c.items-name-items.result.now in
    let r = subst
    (λ xs. NamesCopied c.args.blocks.now c.args.home (plain_names items) (plain_names xs) c.args.copies.now c.loop-name.copies)
    (drop_all items c.loop-name.name-index c.loop-name-test.false) c.loop-name.invariant in
    subst (λ ns. AddsCopies c.args.blocks.now c.args.home (plain_names ns) c.args.copies.now c.loop-name.copies)
    c.items-name-items.ensures
    (names_all c.args.blocks.now c.args.home (plain_names items) c.args.copies.now c.loop-name.copies r)

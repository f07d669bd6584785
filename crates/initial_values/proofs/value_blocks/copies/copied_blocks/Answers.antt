use Rattle.std.proofs.Common.{◌≡◌, ◌∙◌, [], ap, arith, subst}
use Rattle.std.specs.Prelude.{replicate}
use Rattle.initial_values.proofs.ValueBlocks.CopyLemmas.{empty_copies, first_all, first_more, first_none}
use Rattle.initial_values.proofs.ValueBlocks.ListLemmas.{item_there}
use Rattle.initial_values.proofs.value_blocks.copies.copied_blocks.Goals as goal

pub loop-header-init : goal.loop-header-init
loop-header-init c =
    first_none c.args.files.now c.args.blocks.now c.args.headers.now c.in_ok-copies.copies
    (empty_copies c.args.blocks.now c.in_ok-copies.copies
    (c.in_ok-copies.ensures ∙ ap (λ n. replicate n []) c.len.ensures))

pub copy_in_file-requires : goal.copy_in_file-requires
copy_in_file-requires c = c.loop-header.invariant.are

pub loop-header-preserved : goal.loop-header-preserved
loop-header-preserved c =
    let headers = c.args.headers.now in
    let i = c.loop-header.header-index in
    let item = c.header-item.result in
    first_more c.args.files.now c.args.blocks.now headers i item c.loop-header.copies c.copy_in_file.new.copies
    (item_there headers i item c.loop-header-test.true c.header-item.is) c.loop-header.invariant
    c.in_ok-copy_in_file.ensures

pub returns : goal.returns
returns c =
    first_all c.args.files.now c.args.blocks.now c.args.headers.now c.loop-header.header-index c.loop-header.copies
    c.loop-header-test.false c.loop-header.invariant

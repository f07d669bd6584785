use Rattle.std.proofs.Common.{◌∙◌, ◌-◌, length, arith}
use Rattle.std.proofs.lemmas.List.{length-set}
use Rattle.std.specs.Prelude.{slice_index_or}
use Rattle.named_types.proofs.ChainSteps.{are_item, next_more, no_item}
use Rattle.named_types.proofs.chains.next_numbers.Goals as goal

pub index_mut-requires : goal.index_mut-requires
index_mut-requires c =
    let ds = c.args.declared.now in
    let is = are_item c.args.types.now ds c.requires (length ds - 1 - c.loop-count.count) no_item (omega arith) in
    let l = is.within in
    omega (arith, l, c.loop-count.invariant.long, c.loop-count.next.ok.0)

pub loop-count-preserved : goal.loop-count-preserved
loop-count-preserved c =
    let ds = c.args.declared.now in
    let is = are_item c.args.types.now ds c.requires (length ds - 1 - c.loop-count.count) no_item (omega arith) in
    let l = is.within in
    let item = slice_index_or ds (length ds - 1 - c.loop-count.count) no_item in
    record {
      long = length-set c.loop-count.next.items item.named.0 item.of.0 ∙ c.loop-count.invariant.long;
      same =
          next_more c.loop-count.next.items ds c.loop-count.count no_item c.loop-count-test.true
          (omega (arith, l, c.loop-count.invariant.long)) c.loop-count.invariant.same;
    }

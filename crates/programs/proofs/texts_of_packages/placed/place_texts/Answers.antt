use Rattle.std.proofs.Common.{◌<◌, refl, subst, arith, List, length, get_or}
use Rattle.std.specs.Vec.Iter.{into_iter_items}
use Rattle.module_texts.specs.declared.files.ScannedFile.{ScannedFile}
use Rattle.programs.proofs.TextsOfPackages.Placing.{Places, one_placed, placed_numbers}
use Rattle.programs.proofs.texts_of_packages.placed.place_texts.Goals as goal

pub returns : goal.returns
returns c =
    placed_numbers c.args.numbers.now c.args.files.items c.args.kept.now.items c.loop-number.kept.items c.loop-number.number-index
    (into_iter_items c.loop-number.rest) (omega (arith, c.loop-number-test.false)) c.loop-number.invariant

pub loop-number-preserved : goal.loop-number-preserved
loop-number-preserved c =
    let ns = c.args.numbers.now in
    let i = c.loop-number.number-index in
    let ks = c.loop-number.kept.items in
    let n = get_or ns i 0 in
    let h : n < length ks = let b = c.requires.below i 0 c.loop-number-test.true in omega (arith, b, c.loop-number.invariant.size) in
    one_placed ns c.args.files.items c.args.kept.now.items ks i n c.index_mut.result.now c.add_text.new.kept c.in-Some.scanned (into_iter_items c.next.new.self) h
    c.index_mut.ensures.value c.loop-number-test.true refl c.in_ok-add_text.ensures.texts c.in_ok-add_text.ensures.tokens c.in_ok-add_text.ensures.flags
    (subst (λ (ss : List ScannedFile). Places ns c.args.files.items c.args.kept.now.items ks i ss) c.in-Some.ensures.items c.loop-number.invariant)

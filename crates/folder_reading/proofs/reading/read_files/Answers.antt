use Rattle.std.proofs.Common.{◌∙◌, ◌+◌, slice_index_or, arith, sym, subst}
use Rattle.std.proofs.lemmas.List.{get_or_default}
use Rattle.folder_reading.proofs.ReadLemmas.{AreFirst, all_read, one_more, same_source, stops_long}
use Rattle.folder_reading.proofs.reading.read_files.Goals as goal

pub loop-number-preserved : goal.loop-number-preserved
loop-number-preserved g c =
    let kept = c.loop-number.invariant in
    let one = c.in_ok-source.ensures in
    let i = c.loop-number.number-index in
    let n = slice_index_or c.args.numbers.now i 0 in
    let at = get_or_default c.args.numbers.now i 0 n c.loop-number-test.true in
    record {
      first = subst (λ fs. AreFirst (g.T.Tree.held c.args.tree.now) (g.T.Tree.listed c.args.tree.now) c.args.numbers.now fs (i + 1) c.in-Ok.sum) (sym c.in_ok-push.ensures.items)
          (one_more _ _ c.args.numbers.now c.loop-number.sources.items c.in_ok-source.source i n c.loop-number.total c.in-Ok.sum kept.first c.loop-number-test.true at
          (c.requires i 0 c.loop-number-test.true)
          (same_source _ _ _ _ n c.in_ok-source.source kept.held kept.paths one.file)
          (rw c.items.ensures at c.in-Ok.ensures.within) (rw c.items.ensures at c.in-Ok.ensures.sum));
      held = one.same ∙ kept.held;
      paths = one.paths ∙ kept.paths;
      quiet = (one.quiet.0 ∙ kept.quiet.0, one.quiet.1 ∙ kept.quiet.1);
    }

pub returns-clause-files : goal.returns-clause-files
returns-clause-files g c =
    all_read _ _ c.args.numbers.now c.loop-number.sources.items c.loop-number.number-index c.loop-number.total c.loop-number-test.false (omega (arith, c.loop-number.auto.number-index-end)) c.loop-number.invariant.first

pub returns-in-Err-clause-stop : goal.returns-in-Err-clause-stop
returns-in-Err-clause-stop g c =
    let kept = c.loop-number.invariant in
    let i = c.loop-number.number-index in
    let n = slice_index_or c.args.numbers.now i 0 in
    let at = get_or_default c.args.numbers.now i 0 n c.loop-number-test.true in
    stops_long _ _ c.args.numbers.now c.loop-number.sources.items c.in_ok-source.source i n c.loop-number.total c.in-Err.fault _ _ kept.first c.loop-number-test.true at
    (c.requires i 0 c.loop-number-test.true) (same_source _ _ _ _ n c.in_ok-source.source kept.held kept.paths c.in_ok-source.ensures.file) (rw c.items.ensures at c.in-Err.ensures.too_long)

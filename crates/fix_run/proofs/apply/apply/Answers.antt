use Rattle.std.proofs.Common.{◌∙◌, length, refl, ap, sym, arith}
use Rattle.fix_io.proofs.WritesLemmas.{written-none}
use Rattle.fix_run.specs.Files.{writes_of}
use Rattle.fix_run.proofs.ApplyLemmas.{one_more, write_at}
use Rattle.fix_run.proofs.apply.apply.Goals as goal

pub loop-file-init : goal.loop-file-init
loop-file-init g c = record { held = written-none _ (writes_of c.args.files.now); paths = refl; quiet = (refl, refl) }

pub loop-file-preserved : goal.loop-file-preserved
loop-file-preserved g c =
    let kept = c.loop-file.invariant in
    record {
      held = one_more _ _ _ c.args.files.now c.loop-file.file-index c.file-item.result c.items.result.now kept.held c.in-Ok.ensures.ok c.items.ensures c.loop-file-test.true c.file-item.is;
      paths = c.in-Ok.ensures.paths ∙ kept.paths;
      quiet = (c.in-Ok.ensures.cause.quiet ∙ kept.quiet.0, c.in-Ok.ensures.named ∙ kept.quiet.1);
    }

pub returns-in-Err-clause-err : goal.returns-in-Err-clause-err
returns-in-Err-clause-err g c =
    let at = c.loop-file.file-index in
    let inside = c.requires at c.file-item.result c.loop-file-test.true in
    let same = ap (λ f. f.index) c.file-item.is in
    let listed = ap length (c.in-Err.ensures.paths ∙ c.loop-file.invariant.paths) in (
      at,
      c.loop-file-test.true,
      ap (λ e. e.0) (sym (write_at c.args.files.now at c.file-item.result c.loop-file-test.true c.file-item.is)),
      omega (arith, inside, same, listed),
      c.in-Err.ensures.err ∙ c.loop-file.invariant.held,
    )

use Rattle.run_plans.proofs.InlinedPrograms.Before.{text_fits, comes_before}
use Rattle.run_plans.proofs.inlined_programs.taken.progress_before.Goals as goal

pub progress-requires : goal.progress-requires
progress-requires c =
    text_fits c.args.program.now c.args.first.now c.requires.may c.index-kept.result.now c.index.result.now c.items-text.result.now c.index-kept.ensures c.index.ensures c.items-text.ensures c.requires.fits

pub returns : goal.returns
returns c =
    comes_before c.args.program.now c.args.first.now c.requires.may c.index-kept.result.now c.index.result.now c.items-text.result.now c.index-kept.ensures c.index.ensures c.items-text.ensures c.args.counts.now
    c.args.offset c.progress.result c.progress.ensures.steps c.progress.ensures.steps_of_use c.progress.ensures.bytes

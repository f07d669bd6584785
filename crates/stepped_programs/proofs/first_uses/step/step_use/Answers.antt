use Rattle.std.proofs.Common.{refl}
use Rattle.stepped_programs.proofs.FirstUses.MadeSteps.{a_view, source_read, text_read, tokens_read, may_be_made, step_made, step_refused}
use Rattle.stepped_programs.proofs.first_uses.step.step_use.Goals as goal

pub step_file-requires-clause-laid : goal.step_file-requires-clause-laid
step_file-requires-clause-laid c =
    let p = c.args.program.now in
    let u = c.args.first.now in
    let kept = c.index-kept.result.now in
    let source = c.index-items-found.result in
    let text = c.items-text.result.now in
    let tokens = c.index-tokens.result.now in
    let source_is = source_read p u c.requires c.index-home.result.now c.items.result.now source c.index-home.ensures c.items.ensures c.index-items-found.is in
    let text_is = text_read p u c.requires kept c.index.result.now text c.index-kept.ensures c.index.ensures c.items-text.ensures in
    let tokens_are = tokens_read p u c.requires kept tokens c.index-kept.ensures c.index-tokens.ensures in
    (may_be_made p u c.requires (a_view u source tokens) source text tokens source_is text_is tokens_are refl (record { names_are = refl; table_is = refl })).laid

pub step_file-requires-clause-ascend : goal.step_file-requires-clause-ascend
step_file-requires-clause-ascend c =
    let p = c.args.program.now in
    let u = c.args.first.now in
    let kept = c.index-kept.result.now in
    let source = c.index-items-found.result in
    let text = c.items-text.result.now in
    let tokens = c.index-tokens.result.now in
    let source_is = source_read p u c.requires c.index-home.result.now c.items.result.now source c.index-home.ensures c.items.ensures c.index-items-found.is in
    let text_is = text_read p u c.requires kept c.index.result.now text c.index-kept.ensures c.index.ensures c.items-text.ensures in
    let tokens_are = tokens_read p u c.requires kept tokens c.index-kept.ensures c.index-tokens.ensures in
    (may_be_made p u c.requires (a_view u source tokens) source text tokens source_is text_is tokens_are refl (record { names_are = refl; table_is = refl })).ascend

pub step_file-requires-clause-behind : goal.step_file-requires-clause-behind
step_file-requires-clause-behind c =
    let p = c.args.program.now in
    let u = c.args.first.now in
    let kept = c.index-kept.result.now in
    let source = c.index-items-found.result in
    let text = c.items-text.result.now in
    let tokens = c.index-tokens.result.now in
    let source_is = source_read p u c.requires c.index-home.result.now c.items.result.now source c.index-home.ensures c.items.ensures c.index-items-found.is in
    let text_is = text_read p u c.requires kept c.index.result.now text c.index-kept.ensures c.index.ensures c.items-text.ensures in
    let tokens_are = tokens_read p u c.requires kept tokens c.index-kept.ensures c.index-tokens.ensures in
    (may_be_made p u c.requires (a_view u source tokens) source text tokens source_is text_is tokens_are refl (record { names_are = refl; table_is = refl })).behind

pub step_file-requires-clause-some : goal.step_file-requires-clause-some
step_file-requires-clause-some c =
    let p = c.args.program.now in
    let u = c.args.first.now in
    let kept = c.index-kept.result.now in
    let source = c.index-items-found.result in
    let text = c.items-text.result.now in
    let tokens = c.index-tokens.result.now in
    let source_is = source_read p u c.requires c.index-home.result.now c.items.result.now source c.index-home.ensures c.items.ensures c.index-items-found.is in
    let text_is = text_read p u c.requires kept c.index.result.now text c.index-kept.ensures c.index.ensures c.items-text.ensures in
    let tokens_are = tokens_read p u c.requires kept tokens c.index-kept.ensures c.index-tokens.ensures in
    (may_be_made p u c.requires (a_view u source tokens) source text tokens source_is text_is tokens_are refl (record { names_are = refl; table_is = refl })).some

pub returns-clause-made : goal.returns-clause-made
returns-clause-made c =
    let p = c.args.program.now in
    let u = c.args.first.now in
    let kept = c.index-kept.result.now in
    let source = c.index-items-found.result in
    let text = c.items-text.result.now in
    let tokens = c.index-tokens.result.now in
    let source_is = source_read p u c.requires c.index-home.result.now c.items.result.now source c.index-home.ensures c.items.ensures c.index-items-found.is in
    let text_is = text_read p u c.requires kept c.index.result.now text c.index-kept.ensures c.index.ensures c.items-text.ensures in
    let tokens_are = tokens_read p u c.requires kept tokens c.index-kept.ensures c.index-tokens.ensures in
    step_made p u c.requires _ source text tokens source_is text_is tokens_are refl (record { names_are = refl; table_is = refl }) c.args.progress.now
    c.step_file.result c.step_file.ensures.edits c.step_file.ensures.read c.step_file.ensures.within

pub returns-clause-refused : goal.returns-clause-refused
returns-clause-refused c =
    let p = c.args.program.now in
    let u = c.args.first.now in
    let kept = c.index-kept.result.now in
    let source = c.index-items-found.result in
    let text = c.items-text.result.now in
    let tokens = c.index-tokens.result.now in
    let source_is = source_read p u c.requires c.index-home.result.now c.items.result.now source c.index-home.ensures c.items.ensures c.index-items-found.is in
    let text_is = text_read p u c.requires kept c.index.result.now text c.index-kept.ensures c.index.ensures c.items-text.ensures in
    let tokens_are = tokens_read p u c.requires kept tokens c.index-kept.ensures c.index-tokens.ensures in
    step_refused p u c.requires _ source text tokens source_is text_is tokens_are refl (record { names_are = refl; table_is = refl }) c.args.progress.now
    c.step_file.result c.step_file.ensures.refused

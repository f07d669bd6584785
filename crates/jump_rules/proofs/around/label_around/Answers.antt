use Rattle.std.proofs.Common.{◌+◌, drop, subst, sym}
use Rattle.typed_names.proofs.TypeExprs.NewNames.{drop_all, drop_item}
use Rattle.jump_rules.specs.Labels.{LabelsRead}
use Rattle.jump_rules.proofs.JumpLemmas.{labels_end, labels_more, labels_start}
use Rattle.jump_rules.proofs.around.label_around.Goals as goal

pub loop-label-init : goal.loop-label-init
loop-label-init c = labels_start c.args.name.now c.args.labels.now

pub loop-label-preserved : goal.loop-label-preserved
loop-label-preserved c =
    let n = c.args.name.now in
    let xs = c.args.labels.now in
    let item = c.label-item.result in
    let left = drop (c.loop-label.label-index + 1) xs in
    subst (LabelsRead n xs left) (sym c.newer-found.ensures)
    (labels_more n xs left item c.loop-label.found
    (subst (λ rest. LabelsRead n xs rest c.loop-label.found)
    (drop_item xs c.loop-label.label-index item c.loop-label-test.true c.label-item.is) c.loop-label.invariant))

pub returns : goal.returns
returns c =
    let n = c.args.name.now in
    let xs = c.args.labels.now in
    labels_end n xs c.loop-label.found
    (subst (λ rest. LabelsRead n xs rest c.loop-label.found) (drop_all xs c.loop-label.label-index c.loop-label-test.false)
    c.loop-label.invariant)

use Rattle.std.proofs.Common.{drop}
use Rattle.jump_rules.specs.Labels.{LabelsRead}
use Rattle.jump_rules.proofs.around.label_around.Given as goal

abbrev pub invariant-loop-label : goal.invariant-loop-label
invariant-loop-label l = LabelsRead l.name l.labels (drop l.label-index l.labels) l.found

use Rattle.std.proofs.Common.{arith}
use Rattle.std.proofs.lemmas.List.{length-map}
use Rattle.type_table.specs.TypeRelations.Environment.{defined_types}
use Rattle.type_table.specs.OperandRules.Values.{typed_of}
use Rattle.operator_rules.proofs.AccessRules.CallLemmas.{value_item}
use Rattle.assignment_steps.specs.Targets.{target_of, targets_of}
use Rattle.assignment_steps.proofs.TargetLemmas.{lengths_differ, target_item}
use Rattle.assignment_steps.proofs.assignments.all_stored.Goals as goal

pub returns-then-targets-xs : goal.returns-then-targets-xs
returns-then-targets-xs c =
    let k = c.args.tables.now in
    let l = length-map c.args.targets.now (target_of k.env) in
    lengths_differ (defined_types k.env) (typed_of k.env k.consts) (targets_of k.env c.args.targets.now) c.args.xs.now
    (omega (arith, l))

pub stores-requires-clause-target : goal.stores-requires-clause-target
stores-requires-clause-target c =
    target_item c.args.tables.now.env c.args.targets.now c.loop-i.i _ c.requires.targets (omega arith)

pub stores-requires-clause-value : goal.stores-requires-clause-value
stores-requires-clause-value c =
    let k = c.args.tables.now in value_item k.env k.consts c.args.xs.now c.loop-i.i _ c.requires.values (omega arith)

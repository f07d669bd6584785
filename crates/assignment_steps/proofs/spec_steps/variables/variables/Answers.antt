use Rattle.std.proofs.Common.{subst}
use Rattle.type_table.specs.TypeRelations.Environment.{defined_types}
use Rattle.assignment_steps.specs.SpecSteps.Specs.{GivesWritten, IsWrittenIfOk}
use Rattle.assignment_steps.proofs.SpecSteps.SpecLemmas.{no_written_type, values_given, zeros_given}
use Rattle.assignment_steps.proofs.spec_steps.variables.variables.Goals as goal

pub zero_variables-requires : goal.zero_variables-requires
zero_variables-requires c = subst (IsWrittenIfOk c.args.tables.now.env) c.in-Ok.is c.requires.of

pub value_variables-requires-clause-of : goal.value_variables-requires-clause-of
value_variables-requires-clause-of c = subst (IsWrittenIfOk c.args.tables.now.env) c.in-Ok.is c.requires.of

pub returns-then-zeros : goal.returns-then-zeros
returns-then-zeros c =
    λ ns t vs l w h.
    let k = c.args.tables.now in
    zeros_given k.env k.consts ns (defined_types k.env) c.args.zeros t vs c.in-Ok.of c.if-zeros.true
    (subst (GivesWritten k.env t) c.in-Ok.is w) c.zero_variables.result (c.zero_variables.ensures ns l)

pub returns-else-zeros : goal.returns-else-zeros
returns-else-zeros c =
    λ ns t vs l w h.
    let k = c.args.tables.now in
    values_given k.env k.consts ns (defined_types k.env) c.args.zeros t vs c.in-Ok.of c.if-zeros.false
    (subst (GivesWritten k.env t) c.in-Ok.is w) c.value_variables.result (c.value_variables.ensures ns vs l h)

pub returns-in-Err : goal.returns-in-Err
returns-in-Err c =
    λ ns t vs l w h.
    let k = c.args.tables.now in
    no_written_type k.env k.consts ns (defined_types k.env) c.args.zeros t vs c.in-Err.refusal
    (subst (GivesWritten k.env t) c.in-Err.is w)

use Rattle.std.proofs.Common.{refl, subst, sym}
use Rattle.operand_modes.proofs.OperandAnswers.KeptLemmas.{keeps_self}
use Rattle.initial_values.specs.ValueEntities.Headers.{HasSpelledValues}
use Rattle.package_blocks.specs.Headers.{header_of}
use Rattle.collected.specs.ValueHeaders.Values.{GivesValues}
use Rattle.collected.proofs.ValueHeaders.HeaderLemmas.{no_value}
use Rattle.collected.proofs.value_headers.refusals.header_values.Goals as goal

pub constant_values-requires-clause-spelled : goal.constant_values-requires-clause-spelled
constant_values-requires-clause-spelled c =
    subst (λ k. HasSpelledValues (header_of k)) c.in-Constants.is c.requires.spelled

pub variable_values-requires-clause-spelled : goal.variable_values-requires-clause-spelled
variable_values-requires-clause-spelled c =
    subst (λ k. HasSpelledValues (header_of k)) c.in-Variables.is c.requires.spelled

pub returns-in-Constants-clause-gives : goal.returns-in-Constants-clause-gives
returns-in-Constants-clause-gives c =
    λ e.
    subst
    (λ x. GivesValues c.args.tables.now c.constant_values.new.tables c.args.blocks.now c.args.file.now (header_of x) c.constant_values.result)
    (sym c.in-Constants.is) c.constant_values.ensures.gives

pub returns-in-Variables-clause-gives : goal.returns-in-Variables-clause-gives
returns-in-Variables-clause-gives c =
    λ e.
    subst
    (λ x. GivesValues c.args.tables.now c.variable_values.new.tables c.args.blocks.now c.args.file.now (header_of x) c.variable_values.result)
    (sym c.in-Variables.is) c.variable_values.ensures.gives

pub returns-in-Type-clause-gives : goal.returns-in-Type-clause-gives
returns-in-Type-clause-gives c = λ e. absurd (no_value c.args.kind _ c.in-Type.is refl e)

pub returns-in-Function-clause-gives : goal.returns-in-Function-clause-gives
returns-in-Function-clause-gives c = λ e. absurd (no_value c.args.kind _ c.in-Function.is refl e)

pub returns-in-Type-clause-keeps : goal.returns-in-Type-clause-keeps
returns-in-Type-clause-keeps c = keeps_self c.args.tables.now

pub returns-in-Function-clause-keeps : goal.returns-in-Function-clause-keeps
returns-in-Function-clause-keeps c = keeps_self c.args.tables.now

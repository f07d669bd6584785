use Rattle.std.proofs.Common.{◌≡◌, IfOk, refl, subst, sym, true}
use Rattle.initial_values.specs.ValueEntities.Headers.{HasSpelledValues}
use Rattle.package_blocks.specs.declared.headers.HeaderKind.{HeaderKind}
use Rattle.package_blocks.specs.declared.headers.HeaderKind.TheVariants as kind
use Rattle.package_blocks.specs.Headers.{header_of}
use Rattle.value_rounds.specs.Values.{is_value}
use Rattle.collected.specs.ValueHeaders.Steps.{SetsValues}
use Rattle.collected.proofs.ValueHeaders.HeaderLemmas.{no_value, under_condition}
use Rattle.collected.proofs.value_headers.headers.declare_kind.Goals as goal

pub declare_constants-requires-clause-spelled : goal.declare_constants-requires-clause-spelled
declare_constants-requires-clause-spelled c =
    subst (λ k. HasSpelledValues (header_of k)) c.in-Constants.is c.requires.spelled

pub declare_variables-requires-clause-spelled : goal.declare_variables-requires-clause-spelled
declare_variables-requires-clause-spelled c =
    subst (λ k. HasSpelledValues (header_of k)) c.in-Variables.is c.requires.spelled

pub returns-in-Constants-clause-set : goal.returns-in-Constants-clause-set
returns-in-Constants-clause-set c =
    let k = c.args.tables.now in
    let m = c.declare_constants.new.tables in
    let bs = c.args.blocks.now in
    let ds = c.declare_constants.new.blocks in
    let file = c.args.file.now in
    let of : HeaderKind = kind.Constants c.in-Constants.names c.in-Constants.repeats c.in-Constants.number in
    subst
    (λ x. IfOk c.declare_constants.result (λ well. is_value (header_of x) ≡ true → SetsValues k bs m ds file (header_of x) well))
    (sym c.in-Constants.is)
    (under_condition c.declare_constants.result (is_value (header_of of) ≡ true) (SetsValues k bs m ds file (header_of of))
    c.declare_constants.ensures.set)

pub returns-in-Variables-clause-set : goal.returns-in-Variables-clause-set
returns-in-Variables-clause-set c =
    let k = c.args.tables.now in
    let m = c.declare_variables.new.tables in
    let bs = c.args.blocks.now in
    let ds = c.declare_variables.new.blocks in
    let file = c.args.file.now in
    let of : HeaderKind = kind.Variables c.in-Variables.spec in
    subst
    (λ x. IfOk c.declare_variables.result (λ well. is_value (header_of x) ≡ true → SetsValues k bs m ds file (header_of x) well))
    (sym c.in-Variables.is)
    (under_condition c.declare_variables.result (is_value (header_of of) ≡ true) (SetsValues k bs m ds file (header_of of))
    c.declare_variables.ensures.set)

pub returns-in-Type-clause-set : goal.returns-in-Type-clause-set
returns-in-Type-clause-set c = λ e. absurd (no_value c.args.kind _ c.in-Type.is refl e)

pub returns-in-Function-clause-set : goal.returns-in-Function-clause-set
returns-in-Function-clause-set c = λ e. absurd (no_value c.args.kind _ c.in-Function.is refl e)

use Rattle.std.proofs.Common.{◌≡◌, IfOk, subst, sym, true}
use Rattle.initial_values.specs.ValueEntities.Headers.{HasSpelledValues}
use Rattle.value_rounds.specs.Values.{is_value}
use Rattle.collected.specs.declared.single_headers.SingleKind.{SingleKind}
use Rattle.collected.specs.declared.single_headers.SingleKind.TheVariants as kind
use Rattle.collected.specs.SingleHeaders.Singles.{single_of}
use Rattle.collected.specs.ValueHeaders.Steps.{SetsValues}
use Rattle.collected.proofs.ValueHeaders.HeaderLemmas.{under_condition}
use Rattle.collected.proofs.ValueHeaders.ValueLemmas.{one_spelled}
use Rattle.collected.proofs.value_headers.singles.declare_single_kind.Goals as goal

pub declare_one-requires-clause-spelled : goal.declare_one-requires-clause-spelled
declare_one-requires-clause-spelled c =
    one_spelled c.in-One.name.now c.in-One.of.now c.in-One.value.now c.in-One.number
    (subst (λ k. HasSpelledValues (single_of k)) c.in-One.is c.requires.spelled)

pub declare_kind-requires-clause-spelled : goal.declare_kind-requires-clause-spelled
declare_kind-requires-clause-spelled c =
    subst (λ k. HasSpelledValues (single_of k)) c.in-Whole.is c.requires.spelled

pub returns-in-One-clause-set : goal.returns-in-One-clause-set
returns-in-One-clause-set c =
    let k = c.args.tables.now in
    let m = c.declare_one.new.tables in
    let bs = c.args.blocks.now in
    let ds = c.declare_one.new.blocks in
    let file = c.args.file.now in
    let of : SingleKind = kind.One c.in-One.name c.in-One.of c.in-One.value c.in-One.number in
    subst
    (λ x. IfOk c.declare_one.result (λ well. is_value (single_of x) ≡ true → SetsValues k bs m ds file (single_of x) well))
    (sym c.in-One.is)
    (under_condition c.declare_one.result (is_value (single_of of) ≡ true) (SetsValues k bs m ds file (single_of of))
    c.declare_one.ensures.set)

pub returns-in-Whole-clause-set : goal.returns-in-Whole-clause-set
returns-in-Whole-clause-set c =
    let k = c.args.tables.now in
    let m = c.declare_kind.new.tables in
    let bs = c.args.blocks.now in
    let ds = c.declare_kind.new.blocks in
    let file = c.args.file.now in
    subst
    (λ x. IfOk c.declare_kind.result (λ well. is_value (single_of x) ≡ true → SetsValues k bs m ds file (single_of x) well))
    (sym c.in-Whole.is) c.declare_kind.ensures.set

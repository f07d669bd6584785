use Rattle.std.proofs.Common.{[], ◌∷◌, ◌∙◌, subst, sym}
use Rattle.std.specs.Option.{option_map}
use Rattle.go_tree.specs.Tree.{expr_and, no_exprs}
use Rattle.go_tree.specs.View.{expr_of, name_at_of, type_of}
use Rattle.initial_values.specs.ValueEntities.Entities.{one_found}
use Rattle.initial_values.specs.ValuePlaces.Places.{IsValuePlace}
use Rattle.initial_values.proofs.ValuePlaces.PlaceLemmas.{place_stands}
use Rattle.collected.specs.SingleHeaders.Singles.{named_by}
use Rattle.collected.specs.ValueHeaders.Values.{GivesValues}
use Rattle.collected.proofs.ValueHeaders.ValueLemmas.{constants_given, variables_given}
use Rattle.collected.proofs.value_headers.singles.own_value.Goals as goal

pub constant_at-requires-clause-stands : goal.constant_at-requires-clause-stands
constant_at-requires-clause-stands c =
    place_stands c.args.tables.now c.args.blocks.now c.args.file.now c.in_ok-place.place c.args.number
    c.deref.result.now c.in_ok-place.ensures c.requires.ready c.requires.there.types c.requires.there.values

pub variable_at-requires-clause-stands : goal.variable_at-requires-clause-stands
variable_at-requires-clause-stands c =
    place_stands c.args.tables.now c.args.blocks.now c.args.file.now c.in_ok-place.place c.args.number
    c.deref.result.now c.in_ok-place.ensures c.requires.ready c.requires.there.types c.requires.there.values

pub returns-in-Some-clause-gives : goal.returns-in-Some-clause-gives
returns-in-Some-clause-gives c =
    let k = c.args.tables.now in
    let m = c.constant_at.new.tables in
    let bs = c.args.blocks.now in
    let file = c.args.file.now in
    let n = name_at_of c.args.name.now in
    let t = option_map type_of c.args.of.now in
    let es = expr_and (expr_of c.args.value.now) no_exprs in
    subst (λ i. GivesValues k m bs file (named_by (n ∷ []) t es i) (one_found c.constant_at.result)) (sym c.in-Some.is)
    (constants_given k m bs file (n ∷ []) c.in_ok-place.place t es c.deref.result.now
    (sym (c.deref.ensures.value ∙ c.in_ok-words.ensures)) (one_found c.constant_at.result) c.in-Some.field-0
    (subst (λ i. IsValuePlace file i c.deref.result.now c.in_ok-place.place) c.in-Some.is c.in_ok-place.ensures)
    (c.constant_at.ensures.gives n))

pub returns-clause-gives : goal.returns-clause-gives
returns-clause-gives c =
    let k = c.args.tables.now in
    let m = c.variable_at.new.tables in
    let bs = c.args.blocks.now in
    let file = c.args.file.now in
    let n = name_at_of c.args.name.now in
    let t = option_map type_of c.args.of.now in
    let es = expr_and (expr_of c.args.value.now) no_exprs in
    subst (λ i. GivesValues k m bs file (named_by (n ∷ []) t es i) (one_found c.variable_at.result)) (sym c.in-None.is)
    (variables_given k m bs file (n ∷ []) c.in_ok-place.place t es c.deref.result.now
    (sym (c.deref.ensures.value ∙ c.in_ok-words.ensures)) (one_found c.variable_at.result)
    (subst (λ i. IsValuePlace file i c.deref.result.now c.in_ok-place.place) c.in-None.is c.in_ok-place.ensures)
    (c.variable_at.ensures.gives n))

pub returns-in-Some-clause-ready : goal.returns-in-Some-clause-ready
returns-in-Some-clause-ready c = c.constant_at.ensures.stands.ready

pub returns-clause-ready : goal.returns-clause-ready
returns-clause-ready c = c.variable_at.ensures.stands.ready

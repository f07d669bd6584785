use Rattle.std.proofs.Common.{◌∙◌, Some, map, sym}
use Rattle.std.specs.Option.{option_map}
use Rattle.go_tree.specs.View.{exprs_of, name_at_of, type_of}
use Rattle.initial_values.proofs.ValuePlaces.PlaceLemmas.{place_stands}
use Rattle.collected.proofs.ValueHeaders.ValueLemmas.{constants_given}
use Rattle.collected.proofs.value_headers.values.spec_values.Goals as goal

pub spec_constants-requires-clause-stands : goal.spec_constants-requires-clause-stands
spec_constants-requires-clause-stands c =
    place_stands c.args.tables.now c.args.blocks.now c.args.file.now c.in_ok-place.place (Some c.args.number)
    c.deref.result.now c.in_ok-place.ensures c.requires.ready c.requires.there.types c.requires.there.values

pub returns-clause-gives : goal.returns-clause-gives
returns-clause-gives c =
    let spec = c.args.spec.now in
    constants_given c.args.tables.now c.spec_constants.new.tables c.args.blocks.now c.args.file.now
    (map name_at_of c.args.names.now) c.in_ok-place.place (option_map type_of spec.of) (exprs_of spec.values)
    c.deref.result.now (sym (c.deref.ensures.value ∙ c.in_ok-words.ensures)) c.spec_constants.result c.args.number
    c.in_ok-place.ensures c.spec_constants.ensures.gives

pub returns-clause-ready : goal.returns-clause-ready
returns-clause-ready c = c.spec_constants.ensures.stands.ready

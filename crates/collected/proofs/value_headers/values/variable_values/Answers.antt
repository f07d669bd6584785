use Rattle.std.proofs.Common.{◌∙◌, None, map, sym}
use Rattle.std.specs.Option.{option_map}
use Rattle.go_tree.specs.View.{exprs_of, name_at_of, type_of}
use Rattle.initial_values.proofs.ValuePlaces.PlaceLemmas.{place_stands}
use Rattle.collected.proofs.ValueHeaders.ValueLemmas.{variables_given}
use Rattle.collected.proofs.value_headers.values.variable_values.Goals as goal

pub variables_at-requires-clause-stands : goal.variables_at-requires-clause-stands
variables_at-requires-clause-stands c =
    place_stands c.args.tables.now c.args.blocks.now c.args.file.now c.in_ok-place.place None c.deref.result.now
    c.in_ok-place.ensures c.requires.ready c.requires.there.types c.requires.there.values

pub returns-clause-gives : goal.returns-clause-gives
returns-clause-gives c =
    let spec = c.args.spec.now in
    variables_given c.args.tables.now c.variables_at.new.tables c.args.blocks.now c.args.file.now
    (map name_at_of spec.names) c.in_ok-place.place (option_map type_of spec.of) (exprs_of spec.values)
    c.deref.result.now (sym (c.deref.ensures.value ∙ c.in_ok-words.ensures)) c.variables_at.result
    c.in_ok-place.ensures c.variables_at.ensures.gives

pub returns-clause-ready : goal.returns-clause-ready
returns-clause-ready c = c.variables_at.ensures.stands.ready

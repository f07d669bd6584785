use Rattle.std.proofs.Common.{drop}
use Rattle.initial_values.specs.ValuePlaces.Places.{NamesLooked}
use Rattle.initial_values.proofs.value_places.places.imports_named.Given as goal

abbrev pub invariant-loop-name : goal.invariant-loop-name
invariant-loop-name l = NamesLooked l.file l.names (drop l.name-index l.names) l.imports

use Rattle.std.proofs.Common.{◌≡◌, ◌+◌, [], ◌∷◌, drop, rules, subst}
use Rattle.std.specs.Prelude.{codes}
use Rattle.typed_names.proofs.TypeExprs.NewNames.{drop_all, drop_item}
use Rattle.initial_values.specs.ValuePlaces.Places.{AddsImports, NamesLooked}
use Rattle.initial_values.proofs.ValuePlaces.ImportLemmas.{looked_all, looked_blank, looked_more}
use Rattle.initial_values.proofs.value_places.places.imports_named.Goals as goal

pub loop-name-init : goal.loop-name-init
loop-name-init c =
    let is : c.as_slice.result.now ≡ codes "_" = search rules in
    looked_blank c.args.file.now c.args.names.now c.as_slice.result.now is c.new-imports.result c.add_import.new.imports
    c.new-imports.ensures c.in_ok-add_import.ensures

pub loop-name-preserved : goal.loop-name-preserved
loop-name-preserved c =
    let file = c.args.file.now in
    let names = c.args.names.now in
    let i = c.loop-name.name-index in
    let item = c.name-item.result in
    let old = c.loop-name.imports in
    let new = c.add_import-in-loop-name.new.imports in
    looked_more file names item (drop (i + 1) names) old new
    (subst (λ xs. NamesLooked file names xs old) (drop_item names i item c.loop-name-test.true c.name-item.is)
    c.loop-name.invariant)
    (subst (λ n. AddsImports file (n ∷ []) old new) c.items.ensures c.in_ok-add_import-2.ensures)

pub returns : goal.returns
returns c =
    let file = c.args.file.now in
    let names = c.args.names.now in
    looked_all file names c.loop-name.imports
    (subst (λ xs. NamesLooked file names xs c.loop-name.imports)
    (drop_all names c.loop-name.name-index c.loop-name-test.false) c.loop-name.invariant)

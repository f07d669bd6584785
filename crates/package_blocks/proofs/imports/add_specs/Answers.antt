use Rattle.std.proofs.Common.{[], ◌∷◌, ◌∙◌, ap, subst, sym, take}
use Rattle.package_blocks.specs.Imports.{AddsImports, linked_specs}
use Rattle.package_blocks.proofs.HeaderLemmas.{take_item}
use Rattle.package_blocks.proofs.ImportLemmas.{adds_on, specs_append}
use Rattle.package_blocks.proofs.imports.add_specs.Goals as goal

pub loop-spec-preserved : goal.loop-spec-preserved
loop-spec-preserved c =
    let ps = c.args.packages.now in
    let specs = c.args.specs.now in
    let i = c.loop-spec.spec-index in
    let item = c.spec-item.result in
    subst (λ is. AddsImports c.args.blocks.now c.args.home is c.args.block.now c.add_spec.new.block)
    (sym (ap (linked_specs ps) (take_item specs i item c.loop-spec-test.true c.spec-item.is) ∙ specs_append ps (take i specs) (item ∷ [])))
    (adds_on c.args.blocks.now c.args.home (linked_specs ps (take i specs)) (linked_specs ps (item ∷ [])) c.args.block.now
    c.loop-spec.block c.add_spec.new.block c.loop-spec.invariant c.in_ok-add_spec.ensures)

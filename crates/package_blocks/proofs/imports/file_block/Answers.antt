use Rattle.std.proofs.Common.{[], ◌∙◌, ap, subst, sym, take}
use Rattle.package_blocks.specs.Imports.{AddsImports, linked_decls, linked_specs}
use Rattle.package_blocks.proofs.HeaderLemmas.{take_all, take_item}
use Rattle.package_blocks.proofs.ImportLemmas.{adds_on, decls_last, file_block_read}
use Rattle.package_blocks.proofs.imports.file_block.Goals as goal

pub loop-decl-preserved : goal.loop-decl-preserved
loop-decl-preserved c =
    let ps = c.args.packages.now in
    let items = c.items-decl-items.result.now in
    let i = c.loop-decl.decl-index in
    let item = c.decl-item.result in
    subst (λ is. AddsImports c.args.blocks.now c.args.home is [] c.add_specs.new.block)
    (sym (ap (linked_decls ps) (take_item items i item c.loop-decl-test.true c.decl-item.is) ∙ decls_last ps (take i items) item))
    (adds_on c.args.blocks.now c.args.home (linked_decls ps (take i items)) (linked_specs ps item.specs) [] c.loop-decl.block
    c.add_specs.new.block c.loop-decl.invariant
    (subst (λ specs. AddsImports c.args.blocks.now c.args.home (linked_specs ps specs) c.loop-decl.block c.add_specs.new.block)
    c.items.ensures c.in_ok-add_specs.ensures))

pub returns : goal.returns
returns c =
    let ps = c.args.packages.now in
    let items = c.items-decl-items.result.now in
    file_block_read c.args.blocks.now c.args.home (linked_decls ps c.args.imports.now) c.loop-decl.block
    (subst (λ ds. AddsImports c.args.blocks.now c.args.home (linked_decls ps ds) [] c.loop-decl.block)
    (take_all items c.loop-decl.decl-index c.loop-decl-test.false ∙ c.items-decl-items.ensures) c.loop-decl.invariant)

use Rattle.std.proofs.Common.{OnOk, subst, sym}
use Rattle.package_blocks.proofs.NumberLemmas.{item_gone, item_there}
use Rattle.header_order.specs.FirstImports.Firsts.{AddsFirsts, of_package, tagged}
use Rattle.header_order.proofs.first_imports.firsts.add_package.Goals as goal

pub returns-in-Some : goal.returns-in-Some
returns-in-Some c =
    let old = c.args.firsts.now.items in
    let new = c.add_files.new.firsts.items in
    subst
    (λ o. OnOk c.add_files.result (AddsFirsts c.args.packages.now c.args.blocks.now c.args.used.now (of_package c.args.number o) old new))
    (sym (item_there c.args.packages.now c.args.number c.in-Some.package.now c.in-Some.ensures.lookup.0 c.in-Some.ensures.lookup.1))
    (subst
    (λ fs. OnOk c.add_files.result (AddsFirsts c.args.packages.now c.args.blocks.now c.args.used.now (tagged c.args.number fs) old new))
    c.items-files.ensures c.add_files.ensures)

pub returns-in-None : goal.returns-in-None
returns-in-None c =
    subst
    (λ o. AddsFirsts c.args.packages.now c.args.blocks.now c.args.used.now (of_package c.args.number o) c.args.firsts.now.items c.args.firsts.now.items)
    (sym (item_gone c.args.packages.now c.args.number c.in-None.ensures.lookup.0)) (λ all left p. p)

use Rattle.std.proofs.Common.{IfOk, None, subst, sym}
use Rattle.package_blocks.proofs.NumberLemmas.{item_gone, item_there}
use Rattle.header_order.specs.FirstImports.Firsts.{FirstWith}
use Rattle.header_order.proofs.first_imports.firsts.first_at.Goals as goal

pub returns-in-Some : goal.returns-in-Some
returns-in-Some c =
    subst
    (λ o. IfOk c.first_in_file.result (FirstWith c.args.packages.now c.args.blocks.now c.args.home c.args.tree.now o))
    (sym (item_there c.args.used.now c.args.number c.in-Some.names.now c.in-Some.ensures.lookup.0 c.in-Some.ensures.lookup.1))
    c.first_in_file.ensures

pub returns-in-None : goal.returns-in-None
returns-in-None c =
    subst
    (λ o. FirstWith c.args.packages.now c.args.blocks.now c.args.home c.args.tree.now o None)
    (sym (item_gone c.args.used.now c.args.number c.in-None.ensures.lookup.0)) tt

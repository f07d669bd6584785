use Rattle.std.proofs.Common.{◌∙◌, ◌+◌, ◌≡◌, arith}
use Rattle.package_blocks.proofs.NumberLemmas.{item_gone, item_there, name_by_number, no_name_by_number}
use Rattle.package_blocks.proofs.imports.own_name.Goals as goal

pub returns-in-Some : goal.returns-in-Some
returns-in-Some c =
    λ path e.
    let z : 0 + c.args.number ≡ c.args.number = omega arith in
    c.items.ensures
    ∙ name_by_number c.args.packages.now 0 c.args.number path c.in-Some.package.now (z ∙ e)
    (item_there c.args.packages.now c.args.number c.in-Some.package.now c.in-Some.ensures.lookup.0
    c.in-Some.ensures.lookup.1)

pub returns-in-None : goal.returns-in-None
returns-in-None c =
    λ path e.
    let z : 0 + c.args.number ≡ c.args.number = omega arith in
    no_name_by_number c.args.packages.now 0 c.args.number path (z ∙ e)
    (item_gone c.args.packages.now c.args.number c.in-None.ensures.lookup.0)

use Rattle.std.proofs.Common.{◌∙◌, ap, length, sym}
use Rattle.package_blocks.proofs.NumberLemmas.{item_gone, item_there}
use Rattle.checked_modules.specs.Firsts.{file_count}
use Rattle.checked_modules.proofs.firsts.file_count.Goals as goal

pub returns-in-Some : goal.returns-in-Some
returns-in-Some c =
    ap length c.items.ensures
    ∙ ap file_count
    (sym
    (item_there c.args.packages.now c.args.number c.in-Some.package.now c.in-Some.ensures.lookup.0 c.in-Some.ensures.lookup.1))

pub returns-in-None : goal.returns-in-None
returns-in-None c =
    ap file_count (sym (item_gone c.args.packages.now c.args.number c.in-None.ensures.lookup.0))

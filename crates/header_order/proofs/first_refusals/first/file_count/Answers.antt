use Rattle.std.proofs.Common.{◌∙◌, ap, length, sym}
use Rattle.package_blocks.proofs.NumberLemmas.{item_gone, item_there}
use Rattle.header_order.specs.FirstRefusals.Files.{package_files}
use Rattle.header_order.proofs.FirstRefusals.FileNumbers.{files_length}
use Rattle.header_order.proofs.first_refusals.first.file_count.Goals as goal

pub returns-in-Some : goal.returns-in-Some
returns-in-Some c =
    ap length c.items.ensures ∙ sym (files_length c.args.number 0 c.in-Some.package.now.files)
    ∙ ap (λ o. length (package_files c.args.number o))
    (sym
    (item_there c.args.packages.now c.args.number c.in-Some.package.now c.in-Some.ensures.lookup.0 c.in-Some.ensures.lookup.1))

pub returns-in-None : goal.returns-in-None
returns-in-None c =
    ap (λ o. length (package_files c.args.number o))
    (sym (item_gone c.args.packages.now c.args.number c.in-None.ensures.lookup.0))

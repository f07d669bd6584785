use Rattle.std.proofs.Common.{ap, sym}
use Rattle.package_blocks.proofs.NumberLemmas.{item_gone, item_there}
use Rattle.collected.specs.FirstRefusalsFiles.{number_in}
use Rattle.checked_modules.proofs.file_places.files.number_at.Goals as goal

pub returns-in-Some : goal.returns-in-Some
returns-in-Some c =
    ap number_in
    (sym
    (item_there c.args.numbers.now c.args.file c.in-Some.number.now c.in-Some.ensures.lookup.0 c.in-Some.ensures.lookup.1))

pub returns-in-None : goal.returns-in-None
returns-in-None c = ap number_in (sym (item_gone c.args.numbers.now c.args.file c.in-None.ensures.lookup.0))

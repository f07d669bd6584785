use Rattle.std.proofs.Common.{sym}
use Rattle.package_blocks.proofs.NumberLemmas.{item_gone, item_there}
use Rattle.checked_modules.proofs.file_places.files.place_at.Goals as goal

pub returns-in-Some : goal.returns-in-Some
returns-in-Some c =
    sym
    (item_there c.args.places.now c.args.number c.in-Some.place.now c.in-Some.ensures.lookup.0 c.in-Some.ensures.lookup.1)

pub returns-in-None : goal.returns-in-None
returns-in-None c = sym (item_gone c.args.places.now c.args.number c.in-None.ensures.lookup.0)

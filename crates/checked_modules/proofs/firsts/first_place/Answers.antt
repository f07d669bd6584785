use Rattle.std.proofs.Common.{None, get_or}
use Rattle.collected.proofs.ToldLemmas.{item_same}
use Rattle.checked_modules.proofs.FirstLemmas.{place_found, place_missing, place_passed}
use Rattle.checked_modules.proofs.firsts.first_place.Goals as goal

pub returns-in-Some : goal.returns-in-Some
returns-in-Some c =
    let bodies = c.args.bodies.now in
    let i = c.loop-file.file in
    let item = get_or bodies i None in
    place_found c.args.home bodies i c.loop-file.invariant item c.loop-file-test.true
    (item_same bodies i None item c.loop-file-test.true) c.in-Some.at c.in-Some.is

pub loop-file-preserved : goal.loop-file-preserved
loop-file-preserved c =
    let bodies = c.args.bodies.now in
    let i = c.loop-file.file in
    let item = get_or bodies i None in
    place_passed c.args.home bodies i c.loop-file.invariant item c.loop-file-test.true
    (item_same bodies i None item c.loop-file-test.true) c.in-None.is

pub returns : goal.returns
returns c =
    place_missing c.args.home c.args.bodies.now c.loop-file.file c.loop-file.invariant c.loop-file-test.false

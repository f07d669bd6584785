use Rattle.std.proofs.Common.{◌++◌, ◌∙◌, ap}
use Rattle.checked_modules.specs.FilePlaces.Places.{place_number, placed}
use Rattle.checked_modules.proofs.FilePlaces.PlaceLemmas.{placing_all, placing_one}
use Rattle.checked_modules.proofs.file_places.files.with_places.Goals as goal

pub loop-number-init : goal.loop-number-init
loop-number-init c =
    ap (λ fs. fs ++ placed c.args.headers.now c.args.trees.now c.args.firsts.now) c.new-files.ensures.items

pub loop-number-preserved : goal.loop-number-preserved
loop-number-preserved c =
    placing_one c.args.headers.now c.args.trees.now c.args.firsts.now c.loop-number.number c.loop-number.files.items
    c.push.new.self.items c.index-trees-number.result c.place_number-place.result c.loop-number-test.true
    c.index-trees-number.is
    (c.place_number-place.ensures ∙ ap (place_number c.args.headers.now) c.number_at.ensures)
    c.in_ok-push.ensures.items c.loop-number.invariant

pub returns : goal.returns
returns c =
    placing_all c.args.headers.now c.args.trees.now c.args.firsts.now c.loop-number.number c.loop-number.files.items
    c.loop-number-test.false c.loop-number.invariant

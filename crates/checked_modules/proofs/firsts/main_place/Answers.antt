use Rattle.std.proofs.Common.{◌∙◌, sym}
use Rattle.checked_modules.proofs.FirstLemmas.{main_lacking, main_there}
use Rattle.checked_modules.proofs.firsts.main_place.Goals as goal

pub returns-then-lacks_main : goal.returns-then-lacks_main
returns-then-lacks_main c =
    λ w e cs packages same.
    main_lacking w e cs c.args.blocks.now same packages c.args.home c.args.source.now c.args.first.now
    (sym c.lacks_main.ensures ∙ c.if-lacks_main.true)

pub returns-else-lacks_main : goal.returns-else-lacks_main
returns-else-lacks_main c =
    λ w e cs packages same.
    main_there w e cs c.args.blocks.now same packages c.args.home c.args.source.now c.args.first.now
    (sym c.lacks_main.ensures ∙ c.if-lacks_main.false)

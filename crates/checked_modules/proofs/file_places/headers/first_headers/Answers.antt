use Rattle.std.proofs.Common.{◌≡◌, ◌∙◌, ◌≤◌, length, subst}
use Rattle.collected.specs.Files.{counts_of, first_marks, total}
use Rattle.checked_modules.proofs.FilePlaces.PlaceLemmas.{firsts_found}
use Rattle.checked_modules.proofs.file_places.headers.first_headers.Goals as goal

pub returns : goal.returns
returns c =
    let counts = counts_of c.args.packages.now c.args.order.now in
    firsts_found c.args.packages.now c.args.order.now c.counts_of_modules.ensures c.headers_by_files.ensures.all c.requires
    c.args.count c.in_ok-firsts.firsts.items
    (subst (λ bs. total counts ≤ length bs → c.in_ok-firsts.firsts.items ≡ first_marks 0 counts bs)
    (c.deref.ensures.value ∙ c.in_ok-marks.ensures) c.in_ok-firsts.ensures)

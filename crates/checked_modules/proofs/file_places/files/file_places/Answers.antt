use Rattle.std.proofs.Common.{◌∙◌, ap₂, length, refl, subst, sym}
use Rattle.package_blocks.specs.FuncHeaders.Functions.{program_of}
use Rattle.checked_modules.specs.FilePlaces.Around.{all_around}
use Rattle.checked_modules.specs.FilePlaces.Places.{AreFiles, placed}
use Rattle.checked_modules.proofs.FilePlaces.PlaceLemmas.{files_found}
use Rattle.checked_modules.proofs.file_places.files.file_places.Goals as goal

pub returns : goal.returns
returns c =
    λ places are.
    let packages = c.args.packages.now in
    let headers = c.args.headers.now in
    subst (λ fs. AreFiles packages places fs (all_around (program_of packages)))
    (sym (c.in_ok-files.ensures ∙ ap₂ (placed headers) c.deref.ensures.value c.deref-2.ensures.value))
    (files_found c.one_order_at_most.ensures.unique packages c.args.order.now c.requires c.in_ok-trees.trees.items headers
    c.in_ok-firsts.firsts.items (length headers) c.in_ok-trees.ensures refl c.in_ok-firsts.ensures places are)

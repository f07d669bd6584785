use Rattle.std.proofs.Common.{◌≡◌, ◌++◌, ◌∙◌, OnOk, ap, subst, sym}
use Rattle.std.proofs.lemmas.List.{append-nil}
use Rattle.package_blocks.proofs.NumberLemmas.{item_gone, item_there}
use Rattle.checked_modules.specs.FilePlaces.Trees.{package_trees, shown, trees_in}
use Rattle.checked_modules.proofs.file_places.trees.add_package.Goals as goal

pub returns-in-Some : goal.returns-in-Some
returns-in-Some c =
    let old = shown c.args.trees.now.items in
    let new = shown c.add_trees.new.trees.items in
    subst (λ o. OnOk c.add_trees.result (new ≡ old ++ package_trees o))
    (sym (item_there c.args.packages.now c.args.number c.in-Some.package.now c.in-Some.ensures.lookup.0 c.in-Some.ensures.lookup.1))
    (subst (λ fs. OnOk c.add_trees.result (new ≡ old ++ trees_in fs)) c.items.ensures c.add_trees.ensures)

pub returns-in-None : goal.returns-in-None
returns-in-None c =
    let old = shown c.args.trees.now.items in
    sym
    (ap (λ o. old ++ package_trees o) (item_gone c.args.packages.now c.args.number c.in-None.ensures.lookup.0)
    ∙ append-nil old)

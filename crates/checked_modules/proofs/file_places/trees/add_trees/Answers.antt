use Rattle.std.proofs.Common.{◌∙◌, [], ◌∷◌, ap, refl}
use Rattle.std.proofs.lemmas.List.{map_push}
use Rattle.file_names.proofs.Walks.{one_listed}
use Rattle.checked_modules.specs.FilePlaces.Trees.{shown, trees_in}
use Rattle.checked_modules.proofs.file_places.trees.add_trees.Goals as goal

pub loop-file-preserved : goal.loop-file-preserved
loop-file-preserved c =
    one_listed (λ i xs. trees_in xs) (λ i x. x.tree ∷ []) (λ i x xs. refl) c.args.files.now c.loop-file.file-index
    c.file-item.result (shown c.loop-file.trees.items) (shown c.push.new.self.items) _ c.loop-file-test.true
    c.file-item.is (ap shown c.in_ok-push.ensures.items ∙ map_push (λ t. t.now) c.loop-file.trees.items _)
    c.loop-file.invariant

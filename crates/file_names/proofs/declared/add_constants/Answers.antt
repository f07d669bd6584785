use Rattle.std.proofs.Common.{◌∙◌, [], ◌∷◌, map, refl, ap}
use Rattle.std.proofs.lemmas.List.{map_push}
use Rattle.go_tree.specs.View.{name_at_of}
use Rattle.file_names.specs.DeclaredNames.{name_of}
use Rattle.file_names.proofs.Walks.{one_listed}
use Rattle.file_names.proofs.declared.add_constants.Goals as goal

pub loop-at-preserved : goal.loop-at-preserved
loop-at-preserved c =
    one_listed (λ i xs. map name_at_of xs) (λ i x. name_at_of x ∷ []) (λ i x xs. refl)
    c.items-name-items.result.now c.loop-at.at c.name-item.result (map name_of c.loop-at.names.items) (map name_of c.push.new.self.items) _
    c.loop-at-test.true c.name-item.is
    (ap (map name_of) c.in_ok-push.ensures.items ∙ map_push name_of c.loop-at.names.items _)
    c.loop-at.invariant

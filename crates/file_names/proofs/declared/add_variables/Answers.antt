use Rattle.std.proofs.Common.{◌∙◌, [], ◌∷◌, map, refl, ap}
use Rattle.std.proofs.lemmas.List.{map_push}
use Rattle.go_tree.specs.View.{name_at_of}
use Rattle.file_names.specs.DeclaredNames.{name_of}
use Rattle.file_names.proofs.Walks.{one_listed}
use Rattle.file_names.proofs.declared.add_variables.Goals as goal

pub loop-name-preserved : goal.loop-name-preserved
loop-name-preserved c =
    one_listed (λ i xs. map name_at_of xs) (λ i x. name_at_of x ∷ []) (λ i x xs. refl)
    c.items-name-items.result.now c.loop-name.name-index c.name-item.result (map name_of c.loop-name.names.items) (map name_of c.push.new.self.items) _
    c.loop-name-test.true c.name-item.is
    (ap (map name_of) c.in_ok-push.ensures.items ∙ map_push name_of c.loop-name.names.items _)
    c.loop-name.invariant

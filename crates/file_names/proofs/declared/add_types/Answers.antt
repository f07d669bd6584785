use Rattle.std.proofs.Common.{◌∙◌, [], ◌∷◌, map, refl, ap}
use Rattle.std.proofs.lemmas.List.{map_push}
use Rattle.go_tree.specs.View.{name_at_of}
use Rattle.go_tree.specs.FileView.{type_spec_of}
use Rattle.file_names.specs.DeclaredNames.{name_of}
use Rattle.file_names.proofs.Walks.{one_listed}
use Rattle.file_names.proofs.declared.add_types.Goals as goal

pub loop-spec-preserved : goal.loop-spec-preserved
loop-spec-preserved c =
    one_listed (λ i xs. map (λ s. s.name) (map type_spec_of xs)) (λ i x. name_at_of x.name ∷ []) (λ i x xs. refl)
    c.args.specs.now c.loop-spec.spec-index c.spec-item.result (map name_of c.loop-spec.names.items) (map name_of c.push.new.self.items) _
    c.loop-spec-test.true c.spec-item.is
    (ap (map name_of) c.in_ok-push.ensures.items ∙ map_push name_of c.loop-spec.names.items _)
    c.loop-spec.invariant

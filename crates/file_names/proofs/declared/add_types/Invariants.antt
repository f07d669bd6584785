use Rattle.std.proofs.Common.{◌≡◌, ◌++◌, drop, map}
use Rattle.go_tree.specs.FileView.{type_spec_of}
use Rattle.file_names.specs.DeclaredNames.{name_of}
use Rattle.file_names.proofs.declared.add_types.Given as goal

abbrev pub invariant-loop-spec : goal.invariant-loop-spec
invariant-loop-spec l =
    map name_of l.names.items ++ map (λ s. s.name) (map type_spec_of (drop l.spec-index l.specs))
    ≡ map name_of l.initial.names.items ++ map (λ s. s.name) (map type_spec_of l.specs)

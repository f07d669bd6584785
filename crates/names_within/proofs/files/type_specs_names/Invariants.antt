use Rattle.std.proofs.Common.{◌≡◌, drop, map}
use Rattle.go_tree.specs.FileView.{type_spec_of}
use Rattle.names_within.specs.FileWalk.{after_type_specs}
use Rattle.name_walks.specs.Walk.{walk_of}
use Rattle.names_within.proofs.files.type_specs_names.Given as goal

abbrev pub invariant-loop-spec : goal.invariant-loop-spec
invariant-loop-spec l =
    after_type_specs (map type_spec_of (drop l.spec-index l.specs)) (walk_of l.names)
    ≡ after_type_specs (map type_spec_of l.specs) (walk_of l.initial.names)

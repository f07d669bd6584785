use Rattle.std.proofs.Common.{◌≡◌, drop, map}
use Rattle.go_tree.specs.FileView.{import_spec_of}
use Rattle.names_within.specs.FileWalk.{after_import_specs}
use Rattle.name_walks.specs.Walk.{walk_of}
use Rattle.names_within.proofs.files.import_specs_names.Given as goal

abbrev pub invariant-loop-spec : goal.invariant-loop-spec
invariant-loop-spec l =
    after_import_specs (map import_spec_of (drop l.spec-index l.specs)) (walk_of l.names)
    ≡ after_import_specs (map import_spec_of l.specs) (walk_of l.initial.names)

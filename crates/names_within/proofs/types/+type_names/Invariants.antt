use Rattle.std.proofs.Common.{◌≡◌, drop, map}
use Rattle.go_tree.specs.View.{field_of}
use Rattle.go_tree.specs.Lists.{fields_from}
use Rattle.names_within.specs.TreeWalk.{after_fields}
use Rattle.name_walks.specs.Walk.{walk_of}
use Rattle.names_within.proofs.types.+type_names.Given as goal

abbrev pub invariant-fields_names-loop-field : goal.invariant-fields_names-loop-field
invariant-fields_names-loop-field l =
    after_fields (fields_from (map field_of (drop l.field-index l.field-items))) (walk_of l.names)
    ≡ after_fields (fields_from (map field_of l.field-items)) (walk_of l.initial.names)

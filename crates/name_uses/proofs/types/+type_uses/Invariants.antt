use Rattle.std.proofs.Common.{◌≡◌, drop, map}
use Rattle.go_tree.specs.View.{field_of}
use Rattle.go_tree.specs.Lists.{fields_from}
use Rattle.used_names.specs.Walks.{after_fields}
use Rattle.name_uses.specs.Walk.{walk_of, walked}
use Rattle.name_uses.proofs.types.+type_uses.Given as goal

abbrev pub invariant-fields_uses-loop-field : goal.invariant-fields_uses-loop-field
invariant-fields_uses-loop-field l =
    walked (after_fields (fields_from (map field_of (drop l.field-index l.field-items)))) (walk_of l.uses)
    ≡ walked (after_fields (fields_from (map field_of l.field-items))) (walk_of l.initial.uses)

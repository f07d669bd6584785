use Rattle.std.proofs.Common.{◌≡◌, drop, map}
use Rattle.go_tree.specs.View.{field_of}
use Rattle.go_tree.specs.Lists.{fields_from}
use Rattle.member_uses.specs.PossibleUses.Parts.{after_fields}
use Rattle.member_uses.specs.PossibleUses.Views.{part_of}
use Rattle.member_uses.proofs.possible_uses.types.+type_parts.Given as goal

abbrev pub invariant-fields_parts-loop-field : goal.invariant-fields_parts-loop-field
invariant-fields_parts-loop-field l =
    after_fields (fields_from (map field_of (drop l.field-index l.field-items))) (map part_of l.list.items)
    ≡ after_fields (fields_from (map field_of l.field-items)) (map part_of l.initial.list.items)

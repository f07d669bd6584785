use Rattle.std.proofs.Common.{◌≡◌, drop, map}
use Rattle.go_tree.specs.View.{field_of}
use Rattle.go_tree.specs.Lists.{fields_from}
use Rattle.repeated_parts.specs.Flags.{flags_fields}
use Rattle.repeated_parts.proofs.types.+type_flags.Given as goal

abbrev pub invariant-fields_flags-loop-field : goal.invariant-fields_flags-loop-field
invariant-fields_flags-loop-field l =
    flags_fields l.repeated (fields_from (map field_of (drop l.field-index l.field-items))) l.flags.items
    ≡ flags_fields l.repeated (fields_from (map field_of l.field-items)) l.initial.flags.items

use Rattle.std.proofs.Common.{◌≡◌, take, map}
use Rattle.go_tree.specs.View.{field_of}
use Rattle.go_syntax.proofs.copy_types.+copy_type.Given as goal

abbrev pub invariant-copy_fields-loop-field : goal.invariant-copy_fields-loop-field
invariant-copy_fields-loop-field l = map field_of l.copies.items ≡ map field_of (take l.field-index l.field-items)

use Rattle.std.proofs.Common.{◌≡◌, take, map}
use Rattle.go_tree.specs.View.{field_of}
use Rattle.call_forms.specs.Written.{written_field}
use Rattle.call_forms.proofs.types.+written_types.Given as goal

abbrev pub invariant-written_fields-loop-field : goal.invariant-written_fields-loop-field
invariant-written_fields-loop-field l = map field_of l.copies.items ≡ map (λ x. written_field l.there (field_of x))
    (take l.field-index l.field-items)

use Rattle.std.proofs.Common.{◌≡◌, ◌+◌, ◌*◌, ◌<◌, ◌≤◌, Some, length, map}
use Rattle.go_tree.specs.View.{field_of}
use Rattle.go_productions.specs.Cursors.{ahead}
use Rattle.go_read.specs.SpellsSpans.{span_to}
use Rattle.go_read.specs.Goals.{read_fields}
use Rattle.go_read.specs.Reading.{at}
use Rattle.go_productions.specs.Parts.{field_and, in_front, shared_onto, skipped}
use Rattle.go_productions.proofs.types.+types.Given as goal

abbrev pub decreases-field_list : goal.decreases-field_list
decreases-field_list l = 4 * length (ahead l.tokens) + 1

abbrev pub decreases-map_type : goal.decreases-map_type
decreases-map_type l = 4 * length (ahead l.tokens)

abbrev pub decreases-pointer_type : goal.decreases-pointer_type
decreases-pointer_type l = 4 * length (ahead l.tokens)

abbrev pub decreases-slice_type : goal.decreases-slice_type
decreases-slice_type l = 4 * length (ahead l.tokens)

abbrev pub decreases-struct_type : goal.decreases-struct_type
decreases-struct_type l = 4 * length (ahead l.tokens)

abbrev pub decreases-type_expr : goal.decreases-type_expr
decreases-type_expr l = 4 * length (ahead l.tokens) + 1

abbrev pub decreases-type_in_parens : goal.decreases-type_in_parens
decreases-type_in_parens l = 4 * length (ahead l.tokens)

abbrev pub decreases-shared_fields : goal.decreases-shared_fields
decreases-shared_fields l = 4 * length (ahead l.tokens)

abbrev pub decreases-shared_type : goal.decreases-shared_type
decreases-shared_type l = 4 * length (ahead l.tokens) + 2

abbrev pub invariant-field_list-loop-fields : goal.invariant-field_list-loop-fields
invariant-field_list-loop-fields l =
    (in_front field_and (map field_of l.fields.items) (at span_to read_fields (ahead l.left)) ≡ at span_to read_fields (ahead l.fn.tokens)) × (length (ahead l.left) ≤ length (ahead l.fn.tokens))

abbrev pub decreases-field_list-loop-fields : goal.decreases-field_list-loop-fields
decreases-field_list-loop-fields l = length (ahead l.left)

abbrev pub invariant-shared_fields-loop-fields : goal.invariant-shared_fields-loop-fields
invariant-shared_fields-loop-fields l =
    (shared_onto (map field_of l.fields.items) (ahead l.at) ≡ shared_onto (map field_of l.fn.fields.items) (ahead l.fn.tokens))
    × (skipped (ahead l.at) ≡ Some (ahead l.of_all)) × (length (ahead l.of_all) < length (ahead l.fn.tokens))

abbrev pub decreases-shared_fields-loop-fields : goal.decreases-shared_fields-loop-fields
decreases-shared_fields-loop-fields l = length (ahead l.at)

use Rattle.std.proofs.Common.{drop, map}
use Rattle.go_tree.specs.View.{field_of}
use Rattle.go_tree.specs.Lists.{fields_from}
use Rattle.typed_names.specs.TypeExprs.Fields.{FieldsRead}
use Rattle.typed_names.proofs.type_exprs.exprs.+resolved.Given as goal

abbrev pub invariant-resolved_fields-loop-field : goal.invariant-resolved_fields-loop-field
invariant-resolved_fields-loop-field l =
    FieldsRead l.initial.types l.types l.blocks l.scope (fields_from (map field_of l.field-items))
    (fields_from (map field_of (drop l.field-index l.field-items))) l.rows.items

abbrev pub decreases-resolved : goal.decreases-resolved
decreases-resolved l = goal.size-resolved l

abbrev pub decreases-resolved_fields : goal.decreases-resolved_fields
decreases-resolved_fields l = goal.size-resolved_fields l

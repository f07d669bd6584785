use Rattle.std.proofs.Common.{◌+◌, ◌*◌, drop}
use Rattle.type_words.specs.Written.{FieldsWritten, TypesWritten}
use Rattle.type_words.proofs.texts.+texts.Given as goal

abbrev pub invariant-add_fields-loop-field : goal.invariant-add_fields-loop-field
invariant-add_fields-loop-field l =
    FieldsWritten l.home.number l.home.paths.now l.types l.initial.text.items l.text.items l.fields l.later
    (drop l.field-index l.fields)

abbrev pub invariant-add_members-loop-member : goal.invariant-add_members-loop-member
invariant-add_members-loop-member l =
    TypesWritten l.home.number l.home.paths.now l.types l.initial.text.items l.text.items l.members l.later
    (drop l.member-index l.members)

-- a type takes one level, and its parts are of the levels below
abbrev pub decreases-add_type : goal.decreases-add_type
decreases-add_type l = 4 * l.depth

abbrev pub decreases-add_behind : goal.decreases-add_behind
decreases-add_behind l = 4 * l.depth + 1

abbrev pub decreases-add_map : goal.decreases-add_map
decreases-add_map l = 4 * l.depth + 1

abbrev pub decreases-add_field : goal.decreases-add_field
decreases-add_field l = 4 * l.depth + 1

abbrev pub decreases-add_fields : goal.decreases-add_fields
decreases-add_fields l = 4 * l.depth + 2

abbrev pub decreases-add_struct : goal.decreases-add_struct
decreases-add_struct l = 4 * l.depth + 3

abbrev pub decreases-add_member : goal.decreases-add_member
decreases-add_member l = 4 * l.depth + 1

abbrev pub decreases-add_members : goal.decreases-add_members
decreases-add_members l = 4 * l.depth + 2

abbrev pub decreases-add_tuple : goal.decreases-add_tuple
decreases-add_tuple l = 4 * l.depth + 3

use Rattle.std.proofs.Common.{◌≡◌, drop, map}
use Rattle.go_tree.specs.View.{field_of}
use Rattle.go_tree.specs.Lists.{fields_from}
use Rattle.used_names.specs.Uses.{fields_have_local}
use Rattle.name_uses.specs.Views.{local_names}
use Rattle.name_uses.proofs.locals.+local_types.Given as goal

abbrev pub invariant-fields_have_local-loop-field : goal.invariant-fields_have_local-loop-field
invariant-fields_have_local-loop-field l =
    fields_have_local (local_names l.locals) (fields_from (map field_of (drop l.field-index l.field-items)))
    ≡ fields_have_local (local_names l.locals) (fields_from (map field_of l.field-items))

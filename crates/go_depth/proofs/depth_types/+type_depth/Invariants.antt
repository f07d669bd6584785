use Rattle.std.proofs.Common.{◌≡◌, take}
use Rattle.go_depth.specs.Depth.{capped, greatest}
use Rattle.go_depth.specs.Deep.{field_deep}
use Rattle.go_depth.proofs.depth_types.+type_depth.Given as goal

abbrev pub invariant-fields_depth-loop-field : goal.invariant-fields_depth-loop-field
invariant-fields_depth-loop-field l = l.deepest ≡ capped (greatest field_deep (take l.field-index l.field-items))

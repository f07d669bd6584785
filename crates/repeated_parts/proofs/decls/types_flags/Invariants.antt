use Rattle.std.proofs.Common.{◌≡◌, false, drop, map}
use Rattle.go_tree.specs.FileView.{type_spec_of}
use Rattle.repeated_parts.specs.Flags.{flags_types}
use Rattle.repeated_parts.proofs.decls.types_flags.Given as goal

abbrev pub invariant-loop-spec : goal.invariant-loop-spec
invariant-loop-spec l =
    flags_types false (map type_spec_of (drop l.spec-index l.specs)) l.flags.items
    ≡ flags_types false (map type_spec_of l.specs) l.initial.flags.items

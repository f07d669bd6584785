use Rattle.std.proofs.Common.{◌≡◌, false, drop, map}
use Rattle.go_tree.specs.Lists.{specs_from}
use Rattle.go_tree.specs.View.{const_spec_of}
use Rattle.repeated_parts.specs.Flags.{flags_specs}
use Rattle.repeated_parts.specs.LiteralTypes.Views.{numbers_of}
use Rattle.repeated_parts.proofs.decls.const_specs_flags.Given as goal

abbrev pub invariant-loop-spec : goal.invariant-loop-spec
invariant-loop-spec l =
    flags_specs (numbers_of l.scopes) false (specs_from (map const_spec_of (drop l.spec-index l.specs))) l.flags.items
    ≡ flags_specs (numbers_of l.scopes) false (specs_from (map const_spec_of l.specs)) l.initial.flags.items

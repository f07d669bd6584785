use Rattle.std.proofs.Common.{◌≡◌, drop, map}
use Rattle.go_tree.specs.View.{param_of}
use Rattle.repeated_parts.specs.Flags.{flags_params}
use Rattle.repeated_parts.proofs.types.params_flags.Given as goal

abbrev pub invariant-loop-param : goal.invariant-loop-param
invariant-loop-param l =
    flags_params l.repeated (map param_of (drop l.param-index l.params)) l.flags.items
    ≡ flags_params l.repeated (map param_of l.params) l.initial.flags.items

use Rattle.std.proofs.Common.{◌≡◌, drop, map}
use Rattle.std.specs.Option.{option_map}
use Rattle.go_tree.specs.Lists.{specs_from}
use Rattle.go_tree.specs.View.{const_spec_of}
use Rattle.run_rules.specs.Sites.{name_of, nth_constant}
use Rattle.narrowed_marks.proofs.names.constant_name.Given as goal

abbrev pub invariant-loop-spec : goal.invariant-loop-spec
invariant-loop-spec l =
    option_map name_of (nth_constant l.left (specs_from (map const_spec_of (drop l.spec-index l.specs))))
    ≡ option_map name_of (nth_constant l.item (specs_from (map const_spec_of l.specs)))

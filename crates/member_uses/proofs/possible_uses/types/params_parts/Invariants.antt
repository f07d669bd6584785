use Rattle.std.proofs.Common.{◌≡◌, drop, map}
use Rattle.go_tree.specs.View.{param_of}
use Rattle.member_uses.specs.PossibleUses.Parts.{after_params}
use Rattle.member_uses.specs.PossibleUses.Views.{part_of}
use Rattle.member_uses.proofs.possible_uses.types.params_parts.Given as goal

abbrev pub invariant-loop-param : goal.invariant-loop-param
invariant-loop-param l =
    after_params (map param_of (drop l.param-index l.params)) (map part_of l.list.items)
    ≡ after_params (map param_of l.params) (map part_of l.initial.list.items)

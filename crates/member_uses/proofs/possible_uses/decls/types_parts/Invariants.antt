use Rattle.std.proofs.Common.{◌≡◌, drop, map}
use Rattle.go_tree.specs.FileView.{type_spec_of}
use Rattle.member_uses.specs.PossibleUses.Parts.{after_types}
use Rattle.member_uses.specs.PossibleUses.Views.{part_of}
use Rattle.member_uses.proofs.possible_uses.decls.types_parts.Given as goal

abbrev pub invariant-loop-spec : goal.invariant-loop-spec
invariant-loop-spec l =
    after_types (map type_spec_of (drop l.spec-index l.specs)) (map part_of l.list.items)
    ≡ after_types (map type_spec_of l.specs) (map part_of l.initial.list.items)

use Rattle.std.proofs.Common.{◌≡◌, drop, map}
use Rattle.go_tree.specs.FileView.{type_spec_of}
use Rattle.name_uses.specs.HeaderUses.Headers.{after_type_specs}
use Rattle.name_uses.specs.Walk.{walk_of, walked}
use Rattle.name_uses.proofs.header_uses.decls.type_specs_uses.Given as goal

abbrev pub invariant-loop-spec : goal.invariant-loop-spec
invariant-loop-spec l =
    walked (after_type_specs (map type_spec_of (drop l.spec-index l.specs))) (walk_of l.uses)
    ≡ walked (after_type_specs (map type_spec_of l.specs)) (walk_of l.initial.uses)

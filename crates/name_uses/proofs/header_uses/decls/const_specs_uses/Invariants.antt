use Rattle.std.proofs.Common.{◌≡◌, drop, map}
use Rattle.go_tree.specs.View.{const_spec_of}
use Rattle.go_tree.specs.Lists.{specs_from}
use Rattle.name_uses.specs.HeaderUses.Headers.{after_constants}
use Rattle.name_uses.specs.Walk.{walk_of, walked}
use Rattle.name_uses.proofs.header_uses.decls.const_specs_uses.Given as goal

abbrev pub invariant-loop-spec : goal.invariant-loop-spec
invariant-loop-spec l =
    walked (after_constants (specs_from (map const_spec_of (drop l.spec-index l.spec-items)))) (walk_of l.uses)
    ≡ walked (after_constants (specs_from (map const_spec_of l.spec-items))) (walk_of l.initial.uses)

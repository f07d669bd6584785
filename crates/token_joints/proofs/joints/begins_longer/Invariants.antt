use Rattle.std.proofs.Common.{◌≡◌, drop, map}
use Rattle.std.specs.List.{list_any}
use Rattle.token_joints.specs.Longer.{is_longer}
use Rattle.token_joints.proofs.joints.begins_longer.Given as goal

abbrev pub invariant-loop-word : goal.invariant-loop-word
invariant-loop-word l =
    list_any (is_longer l.size l.bytes) (map (λ w. w.now) (drop l.word-index l.words)) ≡ list_any (is_longer l.size l.bytes) (map (λ w. w.now) l.words)

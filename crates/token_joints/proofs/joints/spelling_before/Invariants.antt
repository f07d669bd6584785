use Rattle.std.proofs.Common.{◌≡◌, drop}
use Rattle.run_rules.specs.Texts.{spelling_before}
use Rattle.token_joints.proofs.joints.spelling_before.Given as goal

abbrev pub invariant-loop-token : goal.invariant-loop-token
invariant-loop-token l = spelling_before l.at (drop l.token-index l.tokens) ≡ spelling_before l.at l.tokens

use Rattle.std.proofs.Common.{refl, arith}
use Rattle.go_nesting.specs.Frames.{frames, Counted}
use Rattle.go_nesting.proofs.counts.Counts.new.Goals as goal

pub returns-clause-sound : goal.returns-clause-sound
unfolding frames Counted
returns-clause-sound c = record { total = refl; small = omega arith; counted = tt }

pub returns-clause-fresh : goal.returns-clause-fresh
unfolding frames
returns-clause-fresh c = refl

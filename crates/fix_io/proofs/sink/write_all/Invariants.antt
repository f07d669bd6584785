use Rattle.std.proofs.Common.{length, ◌-◌, ◌≡◌, ◌≤◌, take}
use Rattle.fix_io.specs.Contents.{appended}
use Rattle.fix_io.proofs.sink.write_all.Given as goal

-- The first `done` bytes are out, and no fault was counted.
abbrev pub invariant-loop-done : goal.invariant-loop-done
invariant-loop-done g l =
    (l.done ≤ length l.bytes)
    × (g.S.Sink.contents l.out ≡ appended (g.S.Sink.contents l.initial.out) (take l.done l.bytes))
    × (g.S.Sink.faults l.out ≡ g.S.Sink.faults l.initial.out)

abbrev pub decreases-loop-done : goal.decreases-loop-done
decreases-loop-done g l = length l.bytes - l.done

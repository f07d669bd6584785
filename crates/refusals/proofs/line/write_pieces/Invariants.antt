use Rattle.std.proofs.Common.{◌≡◌, take, map}
use Rattle.std.specs.List.{concat}
use Rattle.fix_io.specs.Contents.{appended}
use Rattle.refusals.proofs.line.write_pieces.Given as goal

-- The pieces so far are written, and no fault was counted.
abbrev pub invariant-loop-piece : goal.invariant-loop-piece
invariant-loop-piece g l = record {
  written : g.S.Sink.contents l.out ≡ appended (g.S.Sink.contents l.initial.out) (concat (map (λ p. p.now) (take l.piece-index l.pieces)));
  quiet : g.S.Sink.faults l.out ≡ g.S.Sink.faults l.initial.out;
}

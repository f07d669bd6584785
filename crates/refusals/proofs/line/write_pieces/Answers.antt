use Rattle.std.proofs.Common.{◌∙◌}
use Rattle.refusals.proofs.Pieces.{one_more_piece, part_of_pieces}
use Rattle.refusals.proofs.line.write_pieces.Goals as goal

pub loop-piece-preserved : goal.loop-piece-preserved
loop-piece-preserved g c =
    let kept = c.loop-piece.invariant in
    record {
      written = one_more_piece (λ p. p.now) c.args.pieces.now c.loop-piece.piece-index _ _ _ _ c.loop-piece-test.true kept.written c.in-Ok.ensures.ok;
      quiet = c.in-Ok.ensures.cause.quiet ∙ kept.quiet;
    }

pub returns-in-Err-clause-err : goal.returns-in-Err-clause-err
returns-in-Err-clause-err g c =
    part_of_pieces (λ p. p.now) c.args.pieces.now c.loop-piece.piece-index _ _ _ _ c.loop-piece-test.true c.loop-piece.invariant.written c.in-Err.ensures.err

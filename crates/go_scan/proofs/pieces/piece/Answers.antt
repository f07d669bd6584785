use Rattle.std.proofs.Common.{chars}
use Rattle.go_scan.specs.Pieces.{piece_of}
use Rattle.go_scan.proofs.SizeLemmas.{exact_size}
use Rattle.go_scan.proofs.PieceLemmas.{piece_exact}
use Rattle.go_scan.proofs.pieces.piece.Goals as goal

pub returns : goal.returns
returns c = exact_size (chars c.args.text.now) (piece_of (chars c.args.text.now)) _ c.front.ensures (piece_exact (chars c.args.text.now))

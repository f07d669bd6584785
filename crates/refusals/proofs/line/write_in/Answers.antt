use Rattle.std.proofs.Common.{◌≡◌, ◌++◌, [], codes, subst, OnErr}
use Rattle.std.specs.Prelude.{decimal}
use Rattle.fix_io.specs.Contents.{IsPartOut}
use Rattle.refusals.specs.Line.{line_in}
use Rattle.refusals.specs.Refusals.{number_of, text_of}
use Rattle.refusals.proofs.Pieces.{line_in_pieces}
use Rattle.refusals.proofs.line.write_in.Goals as goal

pub returns-clause-err : goal.returns-clause-err
returns-clause-err g c =
    let same : c.as_slice.result.now ++ (c.as_bytes.result.now ++ (c.as_slice-2.result.now ++ (c.args.whole.now ++ (c.as_slice-3.result.now ++ (c.text.result.now ++ (c.as_slice-4.result.now ++ [])))))) ≡ line_in c.args.whole.now c.args.detail.now =
    rw (c.as_slice.ensures, c.as_bytes.ensures.value, c.format.ensures.text, c.number.ensures, c.as_slice-2.ensures, c.as_slice-3.ensures, c.text.ensures, c.as_slice-4.ensures)
    (line_in_pieces (codes "gofix: ") (decimal (number_of c.args.detail.now)) (codes " ") c.args.whole.now (codes ": ") (text_of c.args.detail.now) (codes "\n")) in
    subst (λ l. OnErr c.write_pieces.result (IsPartOut (g.S.Sink.contents c.args.out.now) (g.S.Sink.contents c.write_pieces.new.out) l)) same c.write_pieces.ensures.err

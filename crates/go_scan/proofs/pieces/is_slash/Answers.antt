use Rattle.std.proofs.Common.{List, ℕ, sym, ap, ◌∙◌, bytes_eq}
use Rattle.go_scan.proofs.BytesLemmas.{slash_same}
use Rattle.go_scan.proofs.pieces.is_slash.Goals as goal

pub returns : goal.returns
returns c =
    c.eq.ensures ∙ ap (λ (bs : List ℕ). bytes_eq bs c.as_slice.result.now) c.as_bytes.ensures.value ∙ ap (bytes_eq c.args.word.now) c.as_slice.ensures
    ∙ sym (slash_same c.args.word.now c.utf8.word)

use Rattle.std.proofs.Common.{List, ℕ, ap, ◌∙◌}
use Rattle.go_tree.specs.GoWords.Tokens.Characters.{is_listed}
use Rattle.go_scan.proofs.NewlineLemmas.{any_listed}
use Rattle.go_scan.proofs.BytesLemmas.{newline_same}
use Rattle.go_scan.proofs.lists.has_newline.Goals as goal

pub returns : goal.returns
returns c =
    c.contains.ensures.value ∙ any_listed c.as_bytes.result.now 10 ∙ ap (λ (bs : List ℕ). is_listed bs 10) c.as_bytes.ensures.value
    ∙ newline_same c.args.word.now c.utf8.word

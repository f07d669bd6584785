use Rattle.std.proofs.Common.{◌≡◌, ℕ, List, Some, chars, slice_get, sym, ap, ◌∙◌}
use Rattle.go_scan.specs.Pieces.{kind_of}
use Rattle.go_scan.proofs.SizedPieces.{sized_end, sized_blanks, sized_word, sized_other, word_boundary, word_kind_at}
use Rattle.go_scan.proofs.pieces.front.Goals as goal

pub returns-in_default : goal.returns-in_default
returns-in_default c =
    sized_end (chars c.args.text.now) (sym c.in_default.is ∙ c.next.ensures.steps.2 ∙ ap (λ (bs : List ℕ). slice_get (chars bs) 0) c.chars.ensures.rest)

pub returns-then-is_blank : goal.returns-then-is_blank
returns-then-is_blank c =
    let first : Some c.in-Some.first ≡ slice_get (chars c.args.text.now) 0 = sym c.in-Some.is ∙ c.next.ensures.steps.2 ∙ ap (λ (bs : List ℕ). slice_get (chars bs) 0) c.chars.ensures.rest in
    sized_blanks (chars c.args.text.now) c.in-Some.first first c.blanks_size.result (sym c.is_blank.ensures ∙ c.if-is_blank.true) c.blanks_size.ensures.value

pub split_at-requires : goal.split_at-requires
split_at-requires c = word_boundary c.args.text.now c.utf8.text c.word_size-size.result c.word_size-size.ensures.value

pub returns-then-is_letter : goal.returns-then-is_letter
returns-then-is_letter c =
    let first : Some c.in-Some.first ≡ slice_get (chars c.args.text.now) 0 = sym c.in-Some.is ∙ c.next.ensures.steps.2 ∙ ap (λ (bs : List ℕ). slice_get (chars bs) 0) c.chars.ensures.rest in
    sized_word (chars c.args.text.now) c.in-Some.first first (kind_of c.word_kind.result) c.word_size-size.result (sym c.is_blank.ensures ∙ c.if-is_blank.false) (sym c.is_letter.ensures ∙ c.if-is_letter.true)
    c.word_size-size.ensures.value
    (word_kind_at c.args.text.now c.utf8.text c.word_size-size.result c.word_size-size.ensures.value (kind_of c.word_kind.result) c.split_at.result.0.now c.split_at.ensures.front c.word_kind.ensures)

pub returns : goal.returns
returns c =
    let first : Some c.in-Some.first ≡ slice_get (chars c.args.text.now) 0 = sym c.in-Some.is ∙ c.next.ensures.steps.2 ∙ ap (λ (bs : List ℕ). slice_get (chars bs) 0) c.chars.ensures.rest in
    c.lexeme.ensures ∙ sized_other (chars c.args.text.now) c.in-Some.first first (sym c.is_blank.ensures ∙ c.if-is_blank.false) (sym c.is_letter.ensures ∙ c.if-is_letter.false)

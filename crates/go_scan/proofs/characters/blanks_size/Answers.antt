use Rattle.std.proofs.Common.{ℕ, ◌+◌, chars, sym, ap, ◌∙◌, arith}
use Rattle.std.specs.Str.Iter.{chars_rest}
use Rattle.go_tree.specs.GoWords.Tokens.Characters.{is_blank}
use Rattle.go_scan.specs.Sizes.{size_while}
use Rattle.go_scan.proofs.SizeLemmas.{next_utf8, next_size, while_on, while_stops, while_ends}
use Rattle.go_scan.proofs.characters.blanks_size.Goals as goal

pub returns-else-is_blank-clause-value : goal.returns-else-is_blank-clause-value
returns-else-is_blank-clause-value c =
    while_stops (chars_rest c.loop-c.rest) (chars_rest c.next.new.self) c.in-Some.c c.loop-c.invariant.2 c.in-Some.ensures.steps.0 is_blank c.loop-c.size (size_while is_blank (chars c.args.text.now)) c.loop-c.invariant.4 (sym c.is_blank.ensures ∙ c.if-is_blank.false)

pub loop-c-preserved : goal.loop-c-preserved
loop-c-preserved c =
    let sizes = next_size (chars_rest c.loop-c.rest) (chars_rest c.next.new.self) c.in-Some.c c.loop-c.invariant.2 c.in-Some.ensures.steps.0 in
    let on = while_on (chars_rest c.loop-c.rest) (chars_rest c.next.new.self) c.in-Some.c c.loop-c.invariant.2 c.in-Some.ensures.steps.0 is_blank c.loop-c.size (size_while is_blank (chars c.args.text.now)) c.loop-c.invariant.4 (sym c.is_blank.ensures ∙ c.if-is_blank.true) in (
      tt,
      tt,
      next_utf8 (chars_rest c.loop-c.rest) (chars_rest c.next.new.self) c.in-Some.c c.loop-c.invariant.2 c.in-Some.ensures.steps.0,
      omega (arith, sizes, c.loop-c.invariant.3, c.len_utf8-size.ensures.value),
      ap (λ (n : ℕ). (c.loop-c.size + n) + size_while is_blank (chars (chars_rest c.next.new.self))) c.len_utf8-size.ensures.value ∙ on,
    )

pub returns-clause-value : goal.returns-clause-value
returns-clause-value c = while_ends is_blank (chars_rest c.loop-c.rest) c.loop-c.size (size_while is_blank (chars c.args.text.now)) c.in_default.ensures.steps.0.0 c.loop-c.invariant.4

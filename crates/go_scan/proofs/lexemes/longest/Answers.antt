use Rattle.std.proofs.Common.{chars, None, arith}
use Rattle.std.specs.Str.Iter.{chars_rest}
use Rattle.go_scan.specs.declared.automaton.TheConstants.{START}
use Rattle.go_scan.specs.Sizes.{longest_by_size}
use Rattle.go_scan.proofs.SizeLemmas.{next_utf8, next_size, longest_stops, longest_goes, longest_ends}
use Rattle.go_scan.proofs.lexemes.longest.Goals as goal

pub returns-then-state-eq-DEAD : goal.returns-then-state-eq-DEAD
returns-then-state-eq-DEAD c =
    longest_stops c.loop-c.state c.loop-c.size c.loop-c.found (longest_by_size START 0 None (chars c.args.text.now)) (chars_rest c.loop-c.rest) (chars_rest c.next.new.self) c.in-Some.c c.loop-c.invariant.2 c.in-Some.ensures.steps.0 c.loop-c.invariant.5 c.next-state.result c.next-state.ensures.value c.if-state-eq-DEAD.true

pub loop-c-preserved : goal.loop-c-preserved
loop-c-preserved c =
    let sizes = next_size (chars_rest c.loop-c.rest) (chars_rest c.next.new.self) c.in-Some.c c.loop-c.invariant.2 c.in-Some.ensures.steps.0 in (
      tt,
      tt,
      next_utf8 (chars_rest c.loop-c.rest) (chars_rest c.next.new.self) c.in-Some.c c.loop-c.invariant.2 c.in-Some.ensures.steps.0,
      omega (arith, sizes, c.loop-c.invariant.3, c.len_utf8-size.ensures.value),
      c.next-state.ensures.small,
      longest_goes c.loop-c.state c.loop-c.size c.loop-c.found (longest_by_size START 0 None (chars c.args.text.now)) (chars_rest c.loop-c.rest) (chars_rest c.next.new.self) c.in-Some.c c.loop-c.invariant.2 c.in-Some.ensures.steps.0 c.loop-c.invariant.5 c.next-state.result c.next-state.ensures.value c.if-state-eq-DEAD.false
          c.len_utf8-size.result c.len_utf8-size.ensures.value c.found_by-found.result c.found_by-found.ensures,
    )

pub returns : goal.returns
returns c = longest_ends c.loop-c.state c.loop-c.size c.loop-c.found (longest_by_size START 0 None (chars c.args.text.now)) (chars_rest c.loop-c.rest) c.in_default.ensures.steps.0.0 c.loop-c.invariant.5

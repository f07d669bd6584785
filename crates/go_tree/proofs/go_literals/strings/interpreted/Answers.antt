-- Each turn adds what a character's byte or an escape stands for.
use Rattle.std.proofs.Common.{sym, subst}
use Rattle.go_tree.specs.GoWords.Texts.{interpreted_value}
use Rattle.std.proofs.Common.{length}
use Rattle.go_tree.specs.GoLiterals.Units.{BeginsEscape}
use Rattle.go_tree.proofs.GoLiterals.UnitLemmas.{plain_turn, escape_turn, escape_begins}
use Rattle.go_tree.proofs.go_literals.strings.interpreted.Goals as goal

pub push_escape-requires : goal.push_escape-requires
push_escape-requires c = subst BeginsEscape (sym c.from.ensures) (escape_begins c.args.inside.now c.loop-at.at c.loop-at-test.true c.if-inside-at-eq92.true c.loop-at.invariant.1)

pub loop-at-preserved-then-inside-at-eq92 : goal.loop-at-preserved-then-inside-at-eq92
loop-at-preserved-then-inside-at-eq92 c =
    escape_turn c.args.inside.now c.loop-at.value.items c.push_escape.new.value.items (interpreted_value (length c.args.inside.now) c.args.inside.now) c.from.result.now c.loop-at.at c.in_ok-at.field-0
    c.loop-at-test.true c.if-inside-at-eq92.true c.from.ensures c.in_ok-at.ensures.0 c.in_ok-at.ensures.1 c.loop-at.invariant.1 c.loop-at.invariant.2

pub loop-at-preserved : goal.loop-at-preserved
loop-at-preserved c =
    plain_turn c.args.inside.now c.loop-at.value.items c.push.new.self.items (interpreted_value (length c.args.inside.now) c.args.inside.now) c.loop-at.at
    c.loop-at-test.true c.if-inside-at-eq92.false c.in_ok-push.ensures.items c.loop-at.invariant.1 c.loop-at.invariant.2

use Rattle.std.proofs.Common.{sym}
use Rattle.go_tree.specs.declared.spans.Span.{Span}
use Rattle.run_rules.specs.Sites.{Part}
use Rattle.member_uses.specs.Views.{names_in}
use Rattle.shadowed_names.specs.Told.{shadowed_part}
use Rattle.shadowed_names.proofs.Search.{none_here, one_here}
use Rattle.shadowed_names.proofs.names.first_shadowed.Goals as goal

pub loop-at-preserved : goal.loop-at-preserved
loop-at-preserved c =
    none_here
    (λ (x : Part Span). shadowed_part (λ s. s) (names_in c.args.home.now) (names_in c.args.there.now.file) c.args.there.now.at x)
    c.args.parts.now c.args.flags.now c.loop-at.at c.index-parts-at.result _ c.loop-at-test.true c.index-parts-at.is
    (sym c.in-None.ensures) c.loop-at.invariant

pub returns-in-Some : goal.returns-in-Some
returns-in-Some c =
    one_here
    (λ (x : Part Span). shadowed_part (λ s. s) (names_in c.args.home.now) (names_in c.args.there.now.file) c.args.there.now.at x)
    c.args.parts.now c.args.flags.now c.loop-at.at c.index-parts-at.result c.in-Some.name.now _ c.loop-at-test.true
    c.index-parts-at.is (sym c.in-Some.ensures) c.loop-at.invariant

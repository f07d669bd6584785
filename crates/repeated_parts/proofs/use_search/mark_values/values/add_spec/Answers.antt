use Rattle.std.proofs.Common.{◌++◌, length, map, sym, ap, arith}
use Rattle.std.proofs.lemmas.List.{length-map}
use Rattle.go_tree.specs.View.{name_at_of}
use Rattle.member_uses.specs.Views.{names_in}
use Rattle.repeated_parts.specs.UseSearch.MarkValues.Values.{spec_values}
use Rattle.repeated_parts.proofs.UseSearch.MarkValues.Lists.{one_value, all_values}
use Rattle.repeated_parts.proofs.use_search.mark_values.values.add_spec.Goals as goal

pub loop-at-init : goal.loop-at-init
loop-at-init c =
    ap (λ es. c.args.values.now.items ++ spec_values (λ s. s) (names_in c.args.file.now) (map name_at_of c.args.spec.now.names) es)
    (sym c.items-exprs.ensures.seen)

pub loop-at-preserved : goal.loop-at-preserved
loop-at-preserved c =
    one_value (names_in c.args.file.now) (map name_at_of c.args.spec.now.names) c.items-exprs.result.now c.loop-at.at
    c.loop-at.values.items c.push.new.self.items _ c.in_ok-value.value
    (omega (arith, c.loop-at-test.true, ap length c.items-count.ensures, length-map c.args.spec.now.names name_at_of))
    c.in_ok-value.ensures c.in_ok-push.ensures.items c.loop-at.invariant

pub returns : goal.returns
returns c =
    all_values (names_in c.args.file.now) (map name_at_of c.args.spec.now.names) c.items-exprs.result.now c.loop-at.at
    c.loop-at.values.items _ (omega (arith, c.loop-at-test.false, ap length c.items-count.ensures, length-map c.args.spec.now.names name_at_of)) c.loop-at.invariant

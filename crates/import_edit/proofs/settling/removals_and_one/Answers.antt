use Rattle.std.proofs.Common.{◌++◌, [], ◌∷◌, List, map, sym, subst}
use Rattle.text_edits.specs.declared.edit.Edit.{Edit}
use Rattle.text_edits.specs.Order.{InOrder}
use Rattle.run_rules.specs.ImportRules.Settled.{removal}
use Rattle.import_edit.proofs.SettleLaws.{order_front}
use Rattle.import_edit.proofs.settling.removals_and_one.Goals as goal

pub push_removals-requires : goal.push_removals-requires
push_removals-requires c =
    subst (λ (es : List Edit). InOrder (es ++ map removal c.args.ranges.now)) (sym c.new-edits.ensures) (order_front (map removal c.args.ranges.now) (c.args.last ∷ []) c.requires)

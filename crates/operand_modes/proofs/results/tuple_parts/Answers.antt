use mathlib.Core.Path.{sym, subst, ◌∙◌}
use Rattle.type_table.specs.Rows.{row_of}
use Rattle.operator_rules.specs.Parts.{RowParts}
use Rattle.operator_rules.specs.AccessRules.Functions.{AreTypes}
use Rattle.operand_modes.proofs.TupleLemmas.{tuple_typed}
use Rattle.operand_modes.proofs.results.tuple_parts.Goals as goal

pub returns-in-Tuple-clause-typed : goal.returns-in-Tuple-clause-typed
returns-in-Tuple-clause-typed c =
    let e = c.args.env.now in
    subst (AreTypes e) (sym (c.deref.ensures.value ∙ c.parts.view_is))
    (tuple_typed e c.in-Tuple.parts
    (subst (λ n. RowParts e (row_of n)) c.in-Tuple.is
    (c.requires.types.rows c.args.t.0 (row_of c.node.result.now) c.node.ensures.row)))

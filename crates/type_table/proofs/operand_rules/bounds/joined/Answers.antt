use Rattle.std.proofs.Common.{◌≡◌, Some, rules, arith, to_z-of_z, to_z, of_z, SFits}
use Rattle.std.specs.Int.{w128}
use mathlib.Core.Path.{sym, subst}
use Rattle.type_table.specs.OperandRules.Open.{AreJoined}
use Rattle.type_table.proofs.OperandRules.OpenLemmas.{both_joined, lesser_read, greater_read}
use Rattle.type_table.proofs.operand_rules.bounds.joined.Goals as goal

pub returns-in-Some-b : goal.returns-in-Some-b
returns-in-Some-b c =
    let a = c.in-Some.a in
    let b = c.in-Some-b.b in
    let l = c.lesser.result in
    let g = c.greater.result in
    let low : SFits w128 l = search rules in
    let high : SFits w128 g = search rules in
    let al : to_z w128 (of_z w128 a.least) ≡ a.least = grind (arith, to_z-of_z) in
    let bl : to_z w128 (of_z w128 b.least) ≡ b.least = grind (arith, to_z-of_z) in
    let ag : to_z w128 (of_z w128 a.greatest) ≡ a.greatest = grind (arith, to_z-of_z) in
    let bg : to_z w128 (of_z w128 b.greatest) ≡ b.greatest = grind (arith, to_z-of_z) in
    let least = to_z w128 (of_z w128 l) in
    let greatest = to_z w128 (of_z w128 g) in
    let both : AreJoined (Some a) (Some b) (Some (record { least = least; greatest = greatest })) = both_joined a b least greatest
    (lesser_read a.least b.least _ _ l least al bl (to_z-of_z low) c.lesser.ensures)
    (greater_read a.greatest b.greatest _ _ g greatest ag bg (to_z-of_z high) c.greater.ensures) in
    subst (λ o. AreJoined o c.args.b (Some (record { least = least; greatest = greatest }))) (sym c.in-Some.is)
    (subst (λ o. AreJoined (Some a) o (Some (record { least = least; greatest = greatest }))) (sym c.in-Some-b.is) both)

use Rattle.std.proofs.Common.{◌≡◌, ◌∙◌, ◌<◌, ◌≤◌, ◌+◌, ◌-◌, suc, drop-cons, get_or, length, ap, arith, subst, sym}
use Rattle.typed_names.proofs.TypeExprs.NewNames.{drop_all}
use Rattle.typed_names.specs.declared.entities.Entity.{Entity}
use Rattle.typed_names.specs.declared.entities.Entity.TheVariants.{Variable}
use Rattle.initial_values.specs.ValueBlocks.Values.{AreThere, NamesSet}
use Rattle.initial_values.proofs.ValueBlocks.ValueLemmas.{set_more, set_none}
use Rattle.initial_values.proofs.value_blocks.values.set_values.Goals as goal

pub loop-count-init : goal.loop-count-init
loop-count-init c =
    let listed = c.items-listed.result.now in
    let xs = c.args.entities.now in
    let sized : length listed ≤ length xs - 0 = omega (arith, c.requires, ap length c.items-listed.ensures) in
    set_none c.args.home listed xs c.args.blocks.now (length xs - 0) (drop_all listed (length xs - 0) sized)

pub returns-in_err-set_value-clause-there : goal.returns-in_err-set_value-clause-there
returns-in_err-set_value-clause-there c =
    λ e cs k a.
    subst (AreThere e cs) (sym c.in_err-set_value.ensures.same) (c.loop-count.invariant.there e cs k a)

pub loop-count-preserved : goal.loop-count-preserved
loop-count-preserved c =
    let home = c.args.home in
    let items = c.items-listed.result.now in
    let xs = c.args.entities.now in
    let old = c.args.blocks.now in
    let mid = c.loop-count.blocks in
    let new = c.set_value.new.blocks in
    let i = c.loop-count.count in
    let place = length xs - 1 - i in
    let before : i < length xs = c.loop-count-test.true in
    let within : place < length xs = omega (arith, before) in
    let sized : length items ≡ length xs = ap length c.items-listed.ensures ∙ sym c.requires in
    let listed : place < length items = omega (arith, within, sized) in
    let left : length xs - i ≡ suc place = omega (arith, before) in
    let after : place ≡ length xs - (i + 1) = omega (arith, before) in
    let none : Entity = Variable (record { 0 = 0 }) in
    subst (λ n. NamesSet home n items xs old new) after
    (set_more home items xs old place (get_or items place c.index-listed-place.result) (get_or xs place none) mid new
    (subst (λ n. NamesSet home n items xs old mid) left c.loop-count.invariant)
    (drop-cons items place c.index-listed-place.result listed) (drop-cons xs place none within)
    c.in_ok-set_value.ensures.set c.in_ok-set_value.ensures.there)

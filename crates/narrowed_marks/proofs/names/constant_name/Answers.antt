use Rattle.std.proofs.Common.{◌≡◌, ◌∙◌, ◌+◌, ◌-◌, ◌≤◌, ◌∷◌, List, drop, length, map, ap, sym, arith}
use Rattle.std.proofs.lemmas.List.{drop_more}
use Rattle.std.specs.Option.{option_map}
use Rattle.go_tree.specs.declared.stmts.ConstSpec.{ConstSpec}
use Rattle.go_tree.specs.declared.texts.NameAt.{NameAt}
use Rattle.go_tree.specs.Lists.{specs_from}
use Rattle.go_tree.specs.View.{const_spec_of}
use Rattle.run_rules.specs.Sites.{name_of, nth_constant}
use Rattle.narrowed_marks.proofs.NameLemmas.{further}
use Rattle.narrowed_marks.proofs.names.constant_name.Goals as goal

pub loop-spec-preserved : goal.loop-spec-preserved
loop-spec-preserved c =
    let specs = c.args.specs.now in
    let i = c.loop-spec.spec-index in
    let at = c.loop-spec.left in
    let one = c.spec-item.result in
    let rest = drop (i + 1) specs in
    let less_names : length one.names ≤ at = omega (arith, c.if-left-count.false, ap length c.items-count.ensures) in
    let first : drop i specs ≡ one ∷ rest = drop_more specs i one c.loop-spec-test.true ∙ ap (λ (x : ConstSpec). x ∷ rest) (sym c.spec-item.is) in
    ap (λ (ns : List NameAt). option_map name_of (nth_constant (at - length ns) (specs_from (map const_spec_of rest)))) c.items-count.ensures
    ∙ ap (option_map name_of) (further at one rest less_names)
    ∙ sym (ap (λ (ss : List ConstSpec). option_map name_of (nth_constant at (specs_from (map const_spec_of ss)))) first)
    ∙ c.loop-spec.invariant

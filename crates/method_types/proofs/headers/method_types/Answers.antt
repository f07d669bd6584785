use Rattle.std.proofs.Common.{[], ◌∷◌, ◌++◌, ◌+◌, ◌∙◌, ap, cond, drop, subst, sym}
use Rattle.typed_names.proofs.TypeExprs.NewNames.{drop_all, drop_item}
use Rattle.method_types.specs.Steps.{TypesHeader, TypesPassed}
use Rattle.method_types.proofs.TypeSteps.{passed_all, passed_more, passed_none}
use Rattle.method_types.proofs.headers.method_types.Goals.{then-wrong+in_ok-push-2, else-wrong}
use Rattle.method_types.proofs.headers.method_types.Goals as goal

pub loop-number-init : goal.loop-number-init
loop-number-init c =
    let e = c.args.types.now in
    let bs = c.args.blocks.now in
    let files = c.args.files.now in
    let headers = c.args.headers.now in
    let types = c.args.attached.now in
    subst (λ ms. TypesPassed e e bs files headers types 0 c.args.flags.now ms c.new-refused.result.items)
    (sym c.new-methods.ensures.items)
    (subst (TypesPassed e e bs files headers types 0 c.args.flags.now []) (sym c.new-refused.ensures.items)
    (passed_none e bs files headers types c.requires.known c.args.flags.now c.requires.flags c.requires.defined))

pub loop-number-preserved : goal.loop-number-preserved
loop-number-preserved c =
    let e = c.args.types.now in
    let bs = c.args.blocks.now in
    let files = c.args.files.now in
    let headers = c.args.headers.now in
    let types = c.args.attached.now in
    let i = c.loop-number.number in
    let f = c.loop-number.types in
    let g = c.declared_method.new.types in
    let y = c.declared_method.new.flags in
    let item = c.index-headers-number.result in
    let ms = c.loop-number.methods.items in
    let refused = c.loop-number.refused.items in
    let o = c.in_ok-method.method in
    let b = c.is_refused-wrong.result in
    let more = passed_more e bs files headers types c.requires.known i f g c.loop-number.flags y ms refused
    c.loop-number.invariant item (drop (i + 1) headers)
    (drop_item headers i item c.loop-number-test.true c.index-headers-number.is) c.declared_method.ensures.grown
    c.declared_method.ensures.values c.declared_method.ensures.known c.declared_method.ensures.flags c.declared_method.ensures.defined o b
    c.in_ok-method.ensures.typed
    (subst (λ n. TypesHeader f g bs files item n o) c.is_attached-new.ensures c.in_ok-method.ensures.gives)
    c.is_refused-wrong.ensures in
    subst (λ xs. TypesPassed e g bs files headers types (i + 1) y xs c.if-wrong.refused.items)
    (sym c.in_ok-push.ensures.items)
    (subst (TypesPassed e g bs files headers types (i + 1) y (ms ++ o ∷ []))
    (elim c.if-wrong.branch [
      | then-wrong+in_ok-push-2 w ↦
          ap (λ b. cond b (refused ++ i ∷ []) refused) w.if-wrong.true
          ∙ sym (ap (λ v. v.items) w.refused-is ∙ w.in_ok-push-2.ensures.items)
      | else-wrong w ↦
          ap (λ b. cond b (refused ++ i ∷ []) refused) w.if-wrong.false ∙ sym (ap (λ v. v.items) w.refused-is)
    ])
    more)

pub returns-clause-found : goal.returns-clause-found
returns-clause-found c =
    passed_all c.args.types.now c.args.blocks.now c.args.files.now c.args.headers.now c.args.attached.now
    c.requires.known c.loop-number.number c.loop-number.types c.loop-number.flags c.loop-number.methods.items
    c.loop-number.refused.items c.loop-number.invariant
    (drop_all c.args.headers.now c.loop-number.number c.loop-number-test.false)

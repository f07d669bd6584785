use Rattle.std.proofs.Common.{[], ◌∷◌, ◌++◌, ◌+◌, ◌∙◌, ap, cond, drop, map, subst, sym, refl}
use Rattle.typed_names.proofs.TypeExprs.NewNames.{drop_all, drop_item}
use Rattle.typed_names.specs.Meanings.{world_at}
use Rattle.declared_types.proofs.Passed.{members_on, places_on}
use Rattle.defined_types.specs.DeclaredTypes.{declared_of}
use Rattle.refused_headers.specs.Refused.{refuses_type}
use Rattle.header_order.specs.Types.{TypesPassed}
use Rattle.header_order.proofs.TypeSteps.{passed_all, passed_more, passed_none, types_of_program}
use Rattle.header_order.proofs.types.refused_types.Goals.{then-wrong+in_ok-push, else-wrong}
use Rattle.header_order.proofs.types.refused_types.Goals as goal

pub loop-number-init : goal.loop-number-init
loop-number-init c =
    let e = c.args.types.now in
    let headers = c.args.headers.now in
    record {
      passed =
          subst (TypesPassed e e c.args.tests.now.declared.items c.args.blocks.now c.args.files.now headers headers 0)
          (sym c.new-refused.ensures.items)
          (passed_none e c.args.tests.now.declared.items c.args.blocks.now c.args.files.now headers c.requires.known);
      tested = c.requires.tested;
      declared = refl;
    }

pub loop-number-preserved : goal.loop-number-preserved
loop-number-preserved c =
    let e = c.args.types.now in
    let listed = c.args.tests.now.declared.items in
    let bs = c.args.blocks.now in
    let files = c.args.files.now in
    let headers = c.args.headers.now in
    let i = c.loop-number.number in
    let f = c.loop-number.types in
    let g = c.is_refused_type.new.types in
    let item = c.index-headers-number.result in
    let refused = c.loop-number.refused.items in
    let wrong = c.in_ok-wrong.wrong in
    let items = ap (λ d. d.items) c.loop-number.invariant.declared in
    let known = c.loop-number.invariant.passed.known in
    record {
      passed =
          subst (TypesPassed e g listed bs files headers (drop (i + 1) headers) (i + 1))
          (elim c.if-wrong.branch [
            | then-wrong+in_ok-push w ↦
                ap (λ b. cond b (refused ++ i ∷ []) refused) w.if-wrong.true
                ∙ sym (ap (λ v. v.items) w.refused-is ∙ w.in_ok-push.ensures.items)
            | else-wrong w ↦
                ap (λ b. cond b (refused ++ i ∷ []) refused) w.if-wrong.false ∙ sym (ap (λ v. v.items) w.refused-is)
          ])
          (passed_more e listed bs files headers c.requires.known.members c.requires.tested.finite.are f item
          (drop (i + 1) headers) i refused
          (subst (λ left. TypesPassed e f listed bs files headers left i refused)
          (drop_item headers i item c.loop-number-test.true c.index-headers-number.is) c.loop-number.invariant.passed)
          g c.is_refused_type.ensures.grown c.is_refused_type.ensures.values
          (places_on f g bs bs files known c.is_refused_type.ensures.grown
          (members_on f g c.is_refused_type.ensures.grown bs known.members))
          wrong
          (λ cs h is.
          c.in_ok-wrong.ensures.refuses cs h is
          ∙ ap (λ ts. refuses_type (map (declared_of f) ts) (world_at f cs bs) h) items));
      tested = c.is_refused_type.ensures.tested;
      declared = c.is_refused_type.ensures.declared ∙ c.loop-number.invariant.declared;
    }

pub returns-clause-found : goal.returns-clause-found
returns-clause-found c =
    λ ps hs cs are known declared.
    let e = c.args.types.now in
    let listed = c.args.tests.now.declared.items in
    let bs = c.args.blocks.now in
    let files = c.args.files.now in
    let headers = c.args.headers.now in
    let i = c.loop-number.number in
    passed_all e listed bs files headers c.loop-number.types i c.loop-number.refused.items
    (subst (λ left. TypesPassed e c.loop-number.types listed bs files headers left i c.loop-number.refused.items)
    (drop_all headers i c.loop-number-test.false) c.loop-number.invariant.passed)
    hs cs are
    ∙ types_of_program ps hs e listed cs bs known declared

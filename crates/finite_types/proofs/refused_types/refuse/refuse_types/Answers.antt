use Rattle.std.proofs.Common.{◌∙◌, ap, subst}
use Rattle.finite_types.specs.RefusedTypes.Steps.{AllOpen, StaysTyped, StillTyped}
use Rattle.defined_types.specs.DeclaredTypes.{AreDeclared}
use Rattle.finite_types.proofs.RefusedTypes.Passed.{refused_end, still_on}
use Rattle.finite_types.proofs.refused_types.refuse.refuse_types.Goals as goal

pub returns-then-not-branch-clause-refused : goal.returns-then-not-branch-clause-refused
returns-then-not-branch-clause-refused c =
    λ ps hs cs are same declared defined.
    let files = c.args.files.now in
    let headers = c.args.headers.now in
    let items = ap (λ d. d.items) c.loop.invariant.tested.declared in
    refused_end ps hs cs files headers c.args.tests.now.declared.items c.args.types.now c.loop.types
    c.refuse_more.new.types c.args.blocks.now c.loop.blocks c.refuse_more.new.blocks are same declared defined
    c.loop.invariant.still (subst (AreDeclared c.loop.types) items c.loop.invariant.tested.tested.finite.are)
    c.refuse_more.ensures.grown (c.in_ok-refuse_more.ensures.unset c.if-not-branch.true)
    (subst (λ ts. AllOpen c.loop.types ts c.loop.blocks files headers) items
    (c.in_ok-refuse_more.ensures.opens c.if-not-branch.true))

pub loop-preserved : goal.loop-preserved
loop-preserved c =
    let files = c.args.files.now in
    let headers = c.args.headers.now in
    let listed = c.args.tests.now.declared.items in
    let f = c.loop.types in
    let ds = c.loop.blocks in
    let g = c.refuse_more.new.types in
    let es = c.refuse_more.new.blocks in
    let step : StillTyped files headers listed f ds g es =
    record {
      grown = c.refuse_more.ensures.grown;
      values = c.refuse_more.ensures.values;
      known = c.refuse_more.ensures.known;
      count = c.refuse_more.ensures.count;
      typed =
          subst (λ ts. StaysTyped files headers ts f ds g es) (ap (λ d. d.items) c.loop.invariant.tested.declared)
          c.refuse_more.ensures.typed;
    } in
    record {
      still = still_on files headers listed c.args.types.now f g c.args.blocks.now ds es c.loop.invariant.still step;
      tested =
          record {
            tested = c.refuse_more.ensures.tested;
            declared = c.refuse_more.ensures.declared ∙ c.loop.invariant.tested.declared;
          };
    }

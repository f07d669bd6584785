use Rattle.std.proofs.Common.{◌∙◌, ap, sym}
use Rattle.std.specs.Prelude.{slice_get}
use Rattle.collected.specs.Declarations.{refusal_of}
use Rattle.checked_modules.proofs.FirstLemmas.{declaration_named, none_named, refused_named}
use Rattle.checked_modules.proofs.firsts.place_in_package.Goals as goal

pub returns-then-is_in : goal.returns-then-is_in
returns-then-is_in c =
    λ w e cs packages same are.
    declaration_named packages c.args.home c.args.source.now w (refusal_of c.args.declaration.now) c.in-Some.first.now
    (c.in-Some.ensures.value ∙ ap (λ fs. slice_get fs 0) c.items.ensures) c.args.bodies.now are
    (sym c.is_in.ensures ∙ c.if-is_in.true)

pub returns-else-is_in : goal.returns-else-is_in
returns-else-is_in c =
    λ w e cs packages same are.
    refused_named packages c.args.home c.args.source.now w (refusal_of c.args.declaration.now) c.in-Some.first.now
    (c.in-Some.ensures.value ∙ ap (λ fs. slice_get fs 0) c.items.ensures) c.args.bodies.now are
    (sym c.is_in.ensures ∙ c.if-is_in.false) (refusal_of c.body_place.result) (c.body_place.ensures w e cs packages same)

pub returns-in-None : goal.returns-in-None
returns-in-None c =
    λ w e cs packages same are.
    none_named packages c.args.home c.args.source.now w (refusal_of c.args.declaration.now)
    (c.in-None.ensures.value ∙ ap (λ fs. slice_get fs 0) c.items.ensures)

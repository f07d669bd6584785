use Rattle.std.proofs.Common.{Some, None, slice_get, chars, ap, ap₂, ◌∙◌, ◌∷◌}
use Rattle.std.specs.Str.{chars_after}
use Rattle.exported_names.proofs.UpperLaws.{chars_lead, first_decides}
use Rattle.exported_names.proofs.exported.begins_upper.Goals as goal

pub returns-in-Some : goal.returns-in-Some
returns-in-Some c =
    c.is_upper.ensures
    ∙ first_decides (chars (c.args.first ∷ c.args.rest.now)) (Some c.in-Some.c)
    (c.in-Some.ensures
    ∙ ap₂ (λ n b. slice_get (chars_after n b c.args.rest.now) 0) c.continuation_len.ensures.count c.lead_bits.ensures.bits
    ∙ ap (λ cs. slice_get cs 0) (chars_lead c.args.first c.args.rest.now))

pub returns-in-None : goal.returns-in-None
returns-in-None c =
    first_decides (chars (c.args.first ∷ c.args.rest.now)) None
    (c.in-None.ensures
    ∙ ap₂ (λ n b. slice_get (chars_after n b c.args.rest.now) 0) c.continuation_len.ensures.count c.lead_bits.ensures.bits
    ∙ ap (λ cs. slice_get cs 0) (chars_lead c.args.first c.args.rest.now))

use Rattle.std.proofs.Common.{◌∙◌, ap, sym}
use Rattle.std.specs.Option.{option_map}
use Rattle.constant_forms.specs.Views.{obstacle_of}
use Rattle.constant_forms.proofs.Exact.{kept_is, becomes_is}
use Rattle.constant_forms.proofs.reduced.reduced_constant.Goals as goal

pub returns-in-Some : goal.returns-in-Some
returns-in-Some c =
    λ ps commented marks x home n e h.
    kept_is ps commented marks x home n e c.args.use_.now h c.in-Some.kept (ap (option_map obstacle_of) (sym c.in-Some.is) ∙ c.in_ok-kept.ensures)

pub returns-in_ok-form-in-None : goal.returns-in_ok-form-in-None
returns-in_ok-form-in-None c =
    λ ps commented marks x home n e h.
    becomes_is ps commented marks x home n e c.args.use_.now h c.in_ok-form-in-None.form (ap (option_map obstacle_of) (sym c.in-None.is) ∙ c.in_ok-kept.ensures)
    c.in_ok-form-in-None.ensures

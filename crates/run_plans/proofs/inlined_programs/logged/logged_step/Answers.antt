use Rattle.std.proofs.Common.{◌∙◌, option_copied, refl, sym, ap}
use Rattle.run_plans.proofs.inlined_programs.logged.logged_step.Goals as goal

pub returns : goal.returns
returns c =
    record {
      source = c.in-Some.source.now;
      source_is = sym c.source_at.ensures ∙ ap option_copied c.in-Some.is;
      origins = c.in-Some-origins_at.origins.now;
      origins_are = sym c.origins_at.ensures ∙ ap option_copied c.in-Some-origins_at.is;
      origin = c.in_ok-origin.origin;
      comes = c.in_ok-origin.ensures;
      log_is = refl;
    }

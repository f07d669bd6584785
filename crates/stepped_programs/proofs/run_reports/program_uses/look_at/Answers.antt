use Rattle.std.proofs.Common.{◌∙◌, option_copied, refl, sym, ap}
use Rattle.stepped_programs.proofs.RunReports.Made.{kept_look}
use Rattle.stepped_programs.proofs.run_reports.program_uses.look_at.Goals as goal

pub returns-clause-look : goal.returns-clause-look
returns-clause-look c =
    kept_look c.args.program.now c.args.home c.args.block.names (c.args.file, c.args.source.now) c.in_ok-look.look _ c.in-Some.tokens.now c.deref.ensures.value refl refl refl refl
    (sym c.tokens_at.ensures ∙ ap option_copied c.in-Some.is) c.in_ok-look.ensures.look (sym c.is_some.ensures ∙ c.if-is_some.false)

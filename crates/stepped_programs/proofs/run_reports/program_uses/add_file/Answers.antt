use Rattle.std.proofs.Common.{◌∙◌}
use Rattle.stepped_programs.proofs.RunReports.Made.{adds_as}
use Rattle.stepped_programs.proofs.run_reports.program_uses.add_file.Goals as goal

pub returns-clause-block : goal.returns-clause-block
returns-clause-block c = c.in_tables.ensures ∙ c.in_ok-look.ensures.block

pub returns-clause-rows : goal.returns-clause-rows
returns-clause-rows c =
    record {
      seen = c.in_ok-look.look;
      look = c.in_ok-look.ensures.look;
      table = c.in_ok-origins.origins;
      origins = c.in_ok-origins.ensures;
      added =
          adds_as c.deref.result.now c.args.program.now.packages.items c.args.files.now c.items.result.now c.args.source.now.path c.in_ok-origins.origins c.deref-2.result.now
          c.in_ok-look.look.kept.items c.args.rows.now.items c.add_kept.new.rows.items c.deref.ensures.value c.items.ensures c.deref-2.ensures.value c.in_ok-add_kept.ensures;
    }

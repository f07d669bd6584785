use Rattle.std.proofs.Common.{◌∙◌, option_copied, sym, ap}
use Rattle.run_rules.specs.FormTrees.{ConstForm}
use Rattle.report_order.specs.ReportWords.Words.{inlined_text}
use Rattle.stepped_programs.proofs.RunReports.Made.{row_as}
use Rattle.stepped_programs.proofs.run_reports.steps.step_row.Goals as goal

pub returns : goal.returns
returns c =
    record {
      source = c.in-Some.source.now;
      there = sym c.file_at.ensures ∙ ap option_copied c.in-Some.is;
      home = c.in_ok-parts.parts.home.now;
      name = c.in_ok-parts.parts.name.now;
      named = c.in_ok-parts.ensures;
      row =
          row_as c.args.files.now _ c.in-Some.source.now.path c.args.step.offset c.in_ok-told.told (inlined_text c.in_ok-parts.parts.home.now c.in_ok-parts.parts.name.now ConstForm)
          c.in_ok-row.row c.in_ok-row.ensures c.items.ensures c.in_ok-told.ensures;
    }

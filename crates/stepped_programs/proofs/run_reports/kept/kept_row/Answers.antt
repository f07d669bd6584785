use Rattle.std.proofs.Common.{◌∙◌, refl, sym, arith}
use Rattle.constant_forms.specs.Views.{obstacle_of}
use Rattle.report_order.specs.ReportWords.Words.{kept_text}
use Rattle.stepped_programs.proofs.RunReports.Made.{row_as}
use Rattle.stepped_programs.proofs.run_reports.kept.kept_row.Goals as goal

pub returns : goal.returns
returns c =
    let parts = c.in_ok-parts.parts in
    record {
      some = omega arith;
      origin = c.in-Some.origin;
      comes = sym c.find.ensures ∙ c.in-Some.is;
      home = parts.home.now;
      name = parts.name.now;
      named = c.in_ok-parts.ensures;
      row =
          row_as c.args.file.now.files.now c.args.file.now.path.now c.args.file.now.path.now c.in-Some.origin.start c.in_ok-told.told
          (kept_text parts.home.now parts.name.now (obstacle_of c.args.kept.now.obstacle)) c.in_ok-row.row c.in_ok-row.ensures refl c.in_ok-told.ensures;
    }

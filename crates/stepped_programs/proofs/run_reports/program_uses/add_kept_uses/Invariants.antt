use Rattle.std.proofs.Common.{drop}
use Rattle.stepped_programs.specs.RunReports.Kept.{IsPackageTold}
use Rattle.stepped_programs.proofs.RunReports.Turns.{Leads}
use Rattle.stepped_programs.proofs.run_reports.program_uses.add_kept_uses.Given as goal

abbrev pub invariant-loop-number : goal.invariant-loop-number
invariant-loop-number l = Leads (IsPackageTold l.program l.files) l.program.order.items l.initial.rows.items (drop l.number-index l.program.order.items) l.rows.items

use Rattle.std.proofs.Common.{◌≡◌, drop}
use Rattle.run_rules.specs.Programs.{numbered, numbered_from}
use Rattle.file_tables.specs.Blocks.{HasOwnTable}
use Rattle.stepped_programs.specs.RunReports.Kept.{IsFileTold}
use Rattle.stepped_programs.proofs.RunReports.Turns.{Leads}
use Rattle.stepped_programs.proofs.run_reports.program_uses.add_package.Given as goal

abbrev pub invariant-loop-file : goal.invariant-loop-file
invariant-loop-file l = record {
  same : l.block.names ≡ l.initial.block.names;
  table : HasOwnTable l.block;
  rows :
      Leads (IsFileTold l.program l.files l.number l.initial.block.names) (numbered l.source-items) l.initial.rows.items (numbered_from l.file (drop l.file l.source-items))
      l.rows.items;
}

use Rattle.report_lines.proofs.LineLemmas.{AreWritten}
use Rattle.report_lines.proofs.lines.report_lines.Given as goal

abbrev pub invariant-loop-item : goal.invariant-loop-item
invariant-loop-item l = AreWritten l.path l.text l.items l.item-index l.at l.place l.out.items

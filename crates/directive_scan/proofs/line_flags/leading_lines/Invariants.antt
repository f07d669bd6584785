use Rattle.std.proofs.Common.{◌≡◌, ◌-◌, drop, length}
use Rattle.directive_scan.specs.Tables.{leads_list}
use Rattle.directive_scan.proofs.LeadsLaws.{says_below}
use Rattle.directive_scan.proofs.line_flags.leading_lines.Given as goal

abbrev pub invariant-loop-count : goal.invariant-loop-count
invariant-loop-count l = record {
  made : drop (length l.leads - l.count) l.lines.items ≡ leads_list (drop (length l.leads - l.count) l.leads) (drop (length l.leads - l.count) l.starts);
  said : l.below ≡ says_below (drop (length l.leads - l.count) l.leads) (drop (length l.leads - l.count) l.starts);
  long : length l.lines.items ≡ length l.leads;
}

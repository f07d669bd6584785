use Rattle.std.proofs.Common.{◌≡◌, ◌≤◌, ◌++◌, ℕ, drop, length}
use Rattle.report_order.specs.Rows.{row, report_from}
use Rattle.report_order.proofs.text.table_text.Given as goal

abbrev pub invariant-loop-k : goal.invariant-loop-k
invariant-loop-k l = record {
  lines : l.out.items ++ report_from l.k (drop l.k l.files) (row l.initial.table) ≡ report_from 0 l.files (row l.initial.table);
  rest : (j : ℕ) → l.k ≤ j → row l.table j ≡ row l.initial.table j;
  size : length l.table ≡ length l.initial.table;
}

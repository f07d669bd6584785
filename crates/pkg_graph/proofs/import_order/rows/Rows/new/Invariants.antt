use Rattle.std.proofs.Common.{◌≡◌, map, replicate, []}
use Rattle.pkg_graph.proofs.import_order.rows.Rows.new.Given as goal

abbrev pub invariant-loop-row : goal.invariant-loop-row
invariant-loop-row l = map (λ v. v.items) l.rows.items ≡ replicate l.row []

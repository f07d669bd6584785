-- A run within the limits has few steps.
use Rattle.std.proofs.Common.{◌≡◌, ap, ℕ, suc, ◌+◌, ◌<◌, ◌≤◌, ◌^◌, Bool, true, false, cond, List, [], ◌∷◌, ◌++◌, map, length, Option, Some, None, nat_lt, arith, length-append}
use Rattle.pkg_graph.specs.Reads.{Source}
use Rattle.report_order.specs.Laws.{RowsTell}
use Rattle.report_order.specs.declared.rows.ReportRow.{ReportRow}
use Rattle.run_rules.specs.Inlining.{Reaches, begins, steps_on}
use Rattle.run_rules.specs.Report.{step_entry}
use Rattle.run_rules.specs.Run.{Logged, Run, Standing, TooLarge, ends, goes_on, step_in, the_limits}
use Rattle.run_rules.specs.Sites.{MarkRef}

-- steps that come to a program without a free use are a run
pub run_of : (marks : List MarkRef) (files : List Source) (done log : List Logged) (st last : Standing) → Reaches marks the_limits files done st log last → step_in marks last ≡ None → Run marks st log last
run_of marks files done _ st _ (begins _ _) e = ends st e
run_of marks files done _ st last (steps_on _ log l _ t _ n p r) e = goes_on st t last l log n (run_of marks files (done ++ l ∷ []) log t last r e)

-- a count that doesn't pass its limit is within it
within : (count bound : ℕ) (t : TooLarge) (rest : Option TooLarge) → (cond (nat_lt bound count) (Some t) rest) ≡ None → count ≤ bound
within count bound t rest e = by (nat_lt bound count) refl_is e
  where
    refl_is : nat_lt bound count ≡ nat_lt bound count
    refl_is = λ v. nat_lt bound count

    by : (b : Bool) → nat_lt bound count ≡ b → cond b (Some t) rest ≡ None → count ≤ bound
    by true f g = absurd cc
    by false f g = grind (arith, f)

steps_few : (marks : List MarkRef) (files : List Source) (done log : List Logged) (st last : Standing) → length done ≤ 65536 → Reaches marks the_limits files done st log last → length done + length log ≤ 65536
steps_few marks files done _ st _ few (begins _ _) = omega (arith, few)
steps_few marks files done _ st last few (steps_on _ log l _ t _ n p r) =
    let one : suc (length done) ≤ 65536 = within (suc (length done)) 65536 _ _ p in
    let more : length (done ++ l ∷ []) ≡ length done + 1 = length-append done (l ∷ []) in
    let few_more : length (done ++ l ∷ []) ≤ 65536 = omega (arith, one, more) in
    let rest = steps_few marks files (done ++ l ∷ []) log t last few_more r in
    omega (arith, rest, more)

-- each step has a row
rows_count : (paths : List (List ℕ)) (rows : List ReportRow) (log : List Logged) → RowsTell paths rows (map step_entry log) → length rows ≡ length log
rows_count paths [] [] h = λ v. 0
rows_count paths [] (l ∷ ls) h = absurd h
rows_count paths (r ∷ rs) [] h = absurd h
rows_count paths (r ∷ rs) (l ∷ ls) h = ap suc (rows_count paths rs ls h.1)

pub counts_alike : (paths : List (List ℕ)) (rows : List ReportRow) (log : List Logged) → RowsTell paths rows (map step_entry log) → length rows ≡ length log
counts_alike paths rows log h = rows_count paths rows log h

pub few_rows : (marks : List MarkRef) (files : List Source) (log : List Logged) (st last : Standing) (paths : List (List ℕ)) (rows : List ReportRow) → Reaches marks the_limits files [] st log last
    → RowsTell paths rows (map step_entry log) → length rows < 2 ^ 32
few_rows marks files log st last paths rows r h =
    let few = steps_few marks files [] log st last (omega arith) r in
    let same = rows_count paths rows log h in
    omega (arith, few, same)

-- Rows that lie within their files.
use Rattle.std.proofs.Common.{◌≡◌, ◌∙◌, ◌≤◌, sym, ap, ℕ, Bool, true, false, ◌&&◌, if◌then◌else◌, nat_eq, List, [], ◌∷◌, length, Option, Some, None, refl, arith}
use Rattle.std.specs.Prelude.{nat_le, slice_get}
use Rattle.std.specs.List.{list_all}
use Rattle.std.proofs.lemmas.Bool.{eqb-true}
use Rattle.std.proofs.lemmas.Bool.Decides.{nat_tests}
use Rattle.report_order.specs.Order.{LieWithin}
use Rattle.report_order.specs.Rows.{items_in}
use Rattle.report_order.specs.declared.rows.ReportRow.{ReportRow}
use Rattle.report_order.specs.declared.text.ReportSource.{ReportSource}
use Rattle.stepped_programs.specs.RunReports.Reports.{is_within}

both_true : (a b : Bool) → (a && b) ≡ true → (a ≡ true) × (b ≡ true)
both_true true b h = (refl, h)
both_true false b h = absurd cc

abbrev within_of : ℕ → Option ReportSource → Bool
within_of offset None = true
within_of offset (Some f) = nat_le offset (length f.text.now)

tests_within : (offset : ℕ) (o : Option ReportSource) → (elim o as (λ x. Bool) [ None ↦ true | Some f ↦ nat_le offset (length f.text.now) ]) ≡ within_of offset o
tests_within offset None = refl
tests_within offset (Some f) = refl

le_of : (m n : ℕ) → nat_le m n ≡ true → m ≤ n
le_of m n h = grind (arith, nat_tests, h)

pub rows_within : (files : List ReportSource) (rows : List ReportRow) → list_all (is_within files) rows ≡ true → (k : ℕ) (f : ReportSource) → slice_get files k ≡ Some f
    → LieWithin (length f.text.now) (items_in k rows)
rows_within files [] h k f there = tt
rows_within files (r ∷ rs) h k f there =
    let b = both_true (is_within files r) (list_all (is_within files) rs) h in
    by (nat_eq r.file k) refl (rows_within files rs b.1 k f there) b.0
  where
    by : (t : Bool) → nat_eq r.file k ≡ t → LieWithin (length f.text.now) (items_in k rs) → is_within files r ≡ true → LieWithin (length f.text.now) (if t then r.item ∷ items_in k rs else items_in k rs)
    by true q l w =
        let same : slice_get files r.file ≡ Some f = ap (slice_get files) (eqb-true r.file k q) ∙ there in
        (le_of r.item.offset (length f.text.now) (sym (ap (within_of r.item.offset) same) ∙ sym (tests_within r.item.offset (slice_get files r.file)) ∙ w), l)
    by false q l w = l

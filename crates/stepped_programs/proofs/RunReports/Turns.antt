-- Rows that are added for each of a list, in turn, by a loop.
use Rattle.std.proofs.Common.{◌≡◌, ◌∙◌, ◌+◌, ◌<◌, ◌≤◌, refl, sym, ap, subst, ℕ, suc, List, [], ◌∷◌, length, drop, get_or, arith}
use Rattle.std.proofs.lemmas.List.{drop_more, drop_all}
use Rattle.run_rules.specs.Programs.{numbered_from, numbered}
use Rattle.report_order.specs.declared.rows.ReportRow.{ReportRow}
use Rattle.stepped_programs.specs.RunReports.Rows.{InTurn}

module _ {A : Type 0} (One : A → List ReportRow → List ReportRow → Type 0) where
  -- the rows of those that are left lead from these to the rows of all
  abbrev pub Leads : List A → List ReportRow → List A → List ReportRow → Type 0
  Leads all old left now = (new : List ReportRow) → InTurn One left now new → InTurn One all old new

  pub turns_begin : (all : List A) (old : List ReportRow) → Leads all old all old
  turns_begin all old = λ new h. h

  -- one more
  pub turn_more : (all left rest : List A) (x : A) (old now next : List ReportRow) → left ≡ x ∷ rest → Leads all old left now → One x now next → Leads all old rest next
  turn_more all left rest x old now next e lead one = λ new h. lead new (subst (λ (l : List A). InTurn One l now new) (sym e) (next, one, h))

  -- all
  pub turns_end : (all left : List A) (old now : List ReportRow) → left ≡ [] → Leads all old left now → InTurn One all old now
  turns_end all left old now e lead = lead now (subst (λ (l : List A). InTurn One l now now) (sym e) refl)

  -- ---- a list that is read from its front

  pub read_more : (all : List A) (i : ℕ) (x : A) (old now next : List ReportRow) → i < length all → x ≡ get_or all i x → Leads all old (drop i all) now → One x now next → Leads all old (drop (i + 1) all) next
  read_more all i x old now next lt e lead one =
      turn_more all (drop i all) (drop (i + 1) all) x old now next (drop_more all i x lt ∙ ap (λ (y : A). y ∷ drop (i + 1) all) (sym e)) lead one

  -- read of a slice with the same items
  pub read_with : (items all : List A) (i : ℕ) (d : A) (old now next : List ReportRow) → items ≡ all → i < length items → Leads all old (drop i all) now → One (get_or items i d) now next
      → Leads all old (drop (i + 1) all) next
  read_with items all i d old now next same lt lead one =
      turn_more all (drop i all) (drop (i + 1) all) (get_or all i d) old now next (drop_more all i d (subst (λ (xs : List A). i < length xs) same lt)) lead
      (subst (λ (xs : List A). One (get_or xs i d) now next) same one)

  pub read_all : (all : List A) (i : ℕ) (old now : List ReportRow) → length all ≤ i → Leads all old (drop i all) now → InTurn One all old now
  read_all all i old now le lead = turns_end all (drop i all) old now (drop_all i all le) lead

-- ---- items with their numbers

suc_is : (k : ℕ) → suc k ≡ k + 1
suc_is k = omega arith

numbered_more : {A : Type 0} (xs : List A) (i : ℕ) (x : A) → i < length xs → x ≡ get_or xs i x → numbered_from i (drop i xs) ≡ (i, x) ∷ numbered_from (i + 1) (drop (i + 1) xs)
numbered_more {A = A} xs i x lt e =
    ap (numbered_from i) (drop_more xs i x lt ∙ ap (λ (y : A). y ∷ drop (i + 1) xs) (sym e))
    ∙ ap (λ (j : ℕ). (i, x) ∷ numbered_from j (drop (i + 1) xs)) (suc_is i)

module _ {A : Type 0} (One : ℕ × A → List ReportRow → List ReportRow → Type 0) where
  pub number_more : (all : List A) (i : ℕ) (x : A) (old now next : List ReportRow) → i < length all → x ≡ get_or all i x → Leads One (numbered all) old (numbered_from i (drop i all)) now → One (i, x) now next
      → Leads One (numbered all) old (numbered_from (i + 1) (drop (i + 1) all)) next
  number_more all i x old now next lt e lead one =
      turn_more One (numbered all) (numbered_from i (drop i all)) (numbered_from (i + 1) (drop (i + 1) all)) (i, x) old now next (numbered_more all i x lt e) lead one

  -- read of a slice with the same items
  pub number_read : (items all : List A) (i : ℕ) (x : A) (old now next : List ReportRow) → items ≡ all → i < length items → x ≡ get_or items i x → Leads One (numbered all) old (numbered_from i (drop i all)) now → One (i, x) now next
      → Leads One (numbered all) old (numbered_from (i + 1) (drop (i + 1) all)) next
  number_read items all i x old now next same lt e lead one =
      number_more all i x old now next (subst (λ (xs : List A). i < length xs) same lt) (e ∙ ap (λ (xs : List A). get_or xs i x) same) lead one

  pub number_all : (all : List A) (i : ℕ) (old now : List ReportRow) → length all ≤ i → Leads One (numbered all) old (numbered_from i (drop i all)) now → InTurn One (numbered all) old now
  number_all all i old now le lead = turns_end One (numbered all) (numbered_from i (drop i all)) old now (ap (numbered_from i) (drop_all i all le)) lead

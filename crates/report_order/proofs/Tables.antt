-- Tables of what is told of files.
use Rattle.std.proofs.Common.{◌≡◌, ◌∙◌, refl, sym, ap, subst, ℕ, zero, suc, ◌+◌, ◌<◌, ◌≤◌, Bool, true, false, nat_eq, ◌⊎◌, inl, inr, if◌then◌else◌, List, [], ◌∷◌, ◌++◌, length, drop, get_or, replicate, slice_set, Some, arith, eq-eqb, append_assoc}
use Rattle.std.specs.Prelude.{slice_get}
use Rattle.std.proofs.lemmas.Bool.{true≢false, eqb-true, eqb-false}
use Rattle.std.proofs.lemmas.List.{append-nil, length-set, get_or-set_same, get_or-set_other}
use Rattle.report_lines.specs.declared.lines.ReportItem.{ReportItem}
use Rattle.report_lines.specs.Lines.{lines_of, StandInOrder}
use Rattle.report_order.specs.declared.rows.ReportRow.{ReportRow}
use Rattle.report_order.specs.declared.text.ReportSource.{ReportSource}
use Rattle.report_order.specs.Order.{in_order, LieWithin}
use Rattle.report_order.specs.Rows.{items_in, row, IsPut, AreItems, report_from}
use Rattle.report_order.proofs.Sorted.{in_order-stands}

nat_cases : (j k : ℕ) → (j ≡ k) ⊎ (j ≡ k → ⊥)
nat_cases j k = by (nat_eq j k) refl
  where
    by : (b : Bool) → nat_eq j k ≡ b → (j ≡ k) ⊎ (j ≡ k → ⊥)
    by true e = inl (eqb-true j k e)
    by false e = inr (eqb-false j k e)

-- ---- one row more

one_item : (b : Bool) (r : ReportRow) → b ≡ true → (if b then r.item ∷ [] else []) ≡ r.item ∷ []
one_item true r e = refl
one_item false r e = absurd (true≢false (sym e))

no_item : (b : Bool) (r : ReportRow) → b ≡ false → (if b then r.item ∷ [] else []) ≡ []
no_item true r e = absurd (true≢false e)
no_item false r e = refl

same_eq : (j k : ℕ) → j ≡ k → nat_eq j k ≡ true
same_eq j k e = eq-eqb j k e

other_eq : (j k : ℕ) → (j ≡ k → ⊥) → nat_eq j k ≡ false
other_eq j k f = by (nat_eq j k) refl
  where
    by : (b : Bool) → nat_eq j k ≡ b → b ≡ false
    by true e = absurd (f (eqb-true j k e))
    by false e = refl

-- the file is there
pub put_there : (r : ReportRow) (old new : List (List ReportItem)) → r.file < length old → new ≡ slice_set old r.file (row old r.file ++ r.item ∷ []) → IsPut r old new
put_there r old new l e = record {
  size = ap length e ∙ length-set old r.file (row old r.file ++ r.item ∷ []);
  told = λ k h. ap (λ (t : List (List ReportItem)). row t k) e ∙ at k (nat_cases k r.file);
}
  where
    at : (k : ℕ) → (k ≡ r.file) ⊎ (k ≡ r.file → ⊥) → row (slice_set old r.file (row old r.file ++ r.item ∷ [])) k ≡ row old k ++ items_in k (r ∷ [])
    at k (inl q) =
        ap (row (slice_set old r.file (row old r.file ++ r.item ∷ []))) q ∙ get_or-set_same old r.file (row old r.file ++ r.item ∷ []) [] l
        ∙ (λ w. row old (sym q w) ++ sym (one_item (nat_eq r.file k) r (same_eq r.file k (sym q))) w)
    at k (inr q) =
        get_or-set_other old r.file k (row old r.file ++ r.item ∷ []) [] q
        ∙ sym (append-nil (row old k)) ∙ ap (λ (xs : List ReportItem). row old k ++ xs) (sym (no_item (nat_eq r.file k) r (other_eq r.file k (λ s. q (sym s)))))

-- it isn't there
pub put_nowhere : (r : ReportRow) (old : List (List ReportItem)) → length old ≤ r.file → IsPut r old old
put_nowhere r old l = record {
  size = refl;
  told = λ k h. sym (append-nil (row old k)) ∙ ap (λ (xs : List ReportItem). row old k ++ xs) (sym (no_item (nat_eq r.file k) r (other_eq r.file k (λ s. absurd (omega (arith, l, h, s))))));
}

-- ---- all rows

items_both : (k : ℕ) (xs ys : List ReportRow) → items_in k (xs ++ ys) ≡ items_in k xs ++ items_in k ys
items_both k [] ys = refl
items_both k (x ∷ xs) ys = by (nat_eq x.file k) (items_both k xs ys)
  where
    by : (b : Bool) → items_in k (xs ++ ys) ≡ items_in k xs ++ items_in k ys → (if b then x.item ∷ items_in k (xs ++ ys) else items_in k (xs ++ ys)) ≡ (if b then x.item ∷ items_in k xs else items_in k xs) ++ items_in k ys
    by true e = ap (λ (l : List ReportItem). x.item ∷ l) e
    by false e = e

nothing_told : (n k : ℕ) → row (replicate n []) k ≡ []
nothing_told zero k = refl
nothing_told (suc n) zero = refl
nothing_told (suc n) (suc k) = nothing_told n k

abbrev nothing : List ReportItem
nothing = []

length_same : (n : ℕ) → length (replicate n nothing) ≡ n
length_same zero = refl
length_same (suc n) = ap suc (length_same n)

pub none_put : (count : ℕ) (t : List (List ReportItem)) → t ≡ replicate count [] → AreItems count [] t
none_put count t e = record { size = ap length e ∙ length_same count; told = λ k h. ap (λ (u : List (List ReportItem)). row u k) e ∙ nothing_told count k }

pub one_put : (count : ℕ) (done all : List ReportRow) (r : ReportRow) (old new : List (List ReportItem)) → all ≡ done ++ r ∷ [] → AreItems count done old → IsPut r old new → AreItems count all new
one_put count done all r old new e a p = record {
  size = p.size ∙ a.size;
  told = λ k h. p.told k (subst (λ (n : ℕ). k < n) (sym a.size) h) ∙ ap (λ (xs : List ReportItem). xs ++ items_in k (r ∷ [])) (a.told k h)
      ∙ sym (items_both k done (r ∷ [])) ∙ ap (items_in k) (sym e);
}

-- ---- files one after another

-- what is told of a file is taken
pub taken : (t old new : List (List ReportItem)) (k : ℕ) → k < length old → new ≡ slice_set old k [] → ((j : ℕ) → k ≤ j → row old j ≡ row t j) → (j : ℕ) → k + 1 ≤ j → row new j ≡ row t j
taken t old new k l e rest j h =
    ap (λ (u : List (List ReportItem)). row u j) e ∙ get_or-set_other old k j [] [] (λ s. absurd (omega (arith, h, s))) ∙ rest j (omega (arith, h))

got : {A : Type 0} (xs : List A) (i : ℕ) (x : A) → i < length xs → x ≡ get_or xs i x → slice_get xs i ≡ Some x
got [] i x h e = absurd (omega (arith, h))
got (y ∷ xs) zero x h e = ap (λ z. Some z) (sym e)
got (y ∷ xs) (suc i) x h e = got xs i x (omega (arith, h)) e

pub file_there : (fs : List ReportSource) (k : ℕ) (f : ReportSource) → k < length fs → f ≡ get_or fs k f → slice_get fs k ≡ Some f
file_there fs k f l e = got fs k f l e

suc_is : (k : ℕ) → suc k ≡ k + 1
suc_is k = omega arith

cut_file : (items : ℕ → List ReportItem) (xs : List ReportSource) (i n : ℕ) (f : ReportSource) → i < length xs → f ≡ get_or xs i f
    → report_from n (drop i xs) items ≡ lines_of f.path.now f.text.now (in_order (items n)) ++ report_from (suc n) (drop (suc i) xs) items
cut_file items [] i n f l e = absurd (omega (arith, l))
cut_file items (x ∷ xs) zero n f l e = λ w. lines_of (sym e w).path.now (sym e w).text.now (in_order (items n)) ++ report_from (suc n) xs items
cut_file items (x ∷ xs) (suc i) n f l e = cut_file items xs i n f (omega (arith, l)) e

-- the next file, and those behind it
pub next_file : (items : ℕ → List ReportItem) (fs : List ReportSource) (k : ℕ) (f : ReportSource) → k < length fs → f ≡ get_or fs k f
    → report_from k (drop k fs) items ≡ lines_of f.path.now f.text.now (in_order (items k)) ++ report_from (k + 1) (drop (k + 1) fs) items
next_file items fs k f l e =
    cut_file items fs k k f l e
    ∙ ap (λ (j : ℕ). lines_of f.path.now f.text.now (in_order (items k)) ++ report_from j (drop j fs) items) (suc_is k)

pub past_all : (items : ℕ → List ReportItem) (fs : List ReportSource) (k : ℕ) → length fs ≤ k → report_from k (drop k fs) items ≡ []
past_all items fs k l = cut fs k k l
  where
    cut : (xs : List ReportSource) (i n : ℕ) → length xs ≤ i → report_from n (drop i xs) items ≡ []
    cut [] zero n l = refl
    cut [] (suc i) n l = refl
    cut (x ∷ xs) zero n l = absurd (omega (arith, l))
    cut (x ∷ xs) (suc i) n l = cut xs i n (omega (arith, l))

-- files of which the same is told
pub same_told : (items others : ℕ → List ReportItem) (fs : List ReportSource) (k count : ℕ) → count ≡ k + length fs → ((j : ℕ) → j < count → items j ≡ others j) → report_from k fs items ≡ report_from k fs others
same_told items others [] k count e h = refl
same_told items others (f ∷ fs) k count e h =
    let here : items k ≡ others k = h k (omega (arith, e)) in
    λ w. lines_of f.path.now f.text.now (in_order (here w)) ++ same_told items others fs (suc k) count (omega (arith, e)) h w

-- an item of a list, by any default
any_default : {A : Type 0} (xs : List A) (i : ℕ) (d e : A) → i < length xs → get_or xs i d ≡ get_or xs i e
any_default [] i d e h = absurd (omega (arith, h))
any_default (x ∷ xs) zero d e h = refl
any_default (x ∷ xs) (suc i) d e h = any_default xs i d e (omega (arith, h))

pub file_at : (fs : List ReportSource) (k : ℕ) (d : ReportSource) → k < length fs → slice_get fs k ≡ Some (get_or fs k d)
file_at fs k d h = file_there fs k (get_or fs k d) h (any_default fs k d (get_or fs k d) h)

-- the lines of one file more
pub more_lines : (items : ℕ → List ReportItem) (fs : List ReportSource) (k : ℕ) (d : ReportSource) (is : List ReportItem) (out lines new all : List ℕ) → k < length fs → new ≡ out ++ lines
    → lines ≡ lines_of (get_or fs k d).path.now (get_or fs k d).text.now is → is ≡ in_order (items k) → out ++ report_from k (drop k fs) items ≡ all
    → new ++ report_from (k + 1) (drop (k + 1) fs) items ≡ all
more_lines items fs k d is out lines new all h e l o r =
    let rest : List ℕ = report_from (k + 1) (drop (k + 1) fs) items in
    let f : ReportSource = get_or fs k d in
    ap (λ (x : List ℕ). x ++ rest) e ∙ append_assoc out lines rest
    ∙ ap (λ (x : List ℕ). out ++ x) (ap (λ (x : List ℕ). x ++ rest) (l ∙ ap (lines_of f.path.now f.text.now) o) ∙ sym (next_file items fs k f h (any_default fs k d f h)))
    ∙ r

-- they stand in order within its text
pub next_stands : (fs : List ReportSource) (items : ℕ → List ReportItem) (k : ℕ) (d : ReportSource) (is : List ReportItem) → k < length fs
    → ((j : ℕ) (f : ReportSource) → slice_get fs j ≡ Some f → LieWithin (length f.text.now) (items j)) → is ≡ in_order (items k)
    → StandInOrder 0 (length (get_or fs k d).text.now) is
next_stands fs items k d is h within e =
    subst (λ (l : List ReportItem). StandInOrder 0 (length (get_or fs k d).text.now) l) (sym e)
    (in_order-stands (length (get_or fs k d).text.now) (items k) (within k (get_or fs k d) (file_at fs k d h)))

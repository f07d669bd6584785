-- A stable sort by offsets gives the items in their order.
use Rattle.std.proofs.Common.{◌≡◌, ℕ, zero, suc, ◌<◌, ◌≤◌, Bool, true, false, cond, List, [], ◌∷◌, length, get_or, filter, nat_cmp, nat_le, is_lt, refl, sym, ap, ◌∙◌, arith, inl, inr, suc-le-suc, zero-le, if◌then◌else◌}
use Rattle.std.proofs.lemmas.Bool.{cond-true, cond-false, cases_Bool}
use Rattle.std.proofs.lemmas.Bool.Decides.{nat_tests}
use Rattle.std.specs.List.Sorted.{ties, IsNonDecreasingBy, IsStableByKey}
use Rattle.report_lines.specs.declared.lines.ReportItem.{ReportItem}
use Rattle.report_lines.specs.Lines.{StandInOrder}
use Rattle.report_order.specs.Order.{put_item, in_order, LieWithin}

-- ---- items of one place

abbrev one_place : ReportItem → ReportItem → Bool
one_place = ties (λ x y. is_lt (nat_cmp x.offset y.offset))

ties_at : (m n : ℕ) → (ties (λ x y. is_lt (nat_cmp x y)) m n ≡ true → m ≡ n) × (m ≡ n → ties (λ x y. is_lt (nat_cmp x y)) m n ≡ true)
ties_at m n = (λ h. grind (arith, nat_tests), λ h. grind (arith, nat_tests))

place-true : (x y : ReportItem) → one_place x y ≡ true → x.offset ≡ y.offset
place-true x y = (ties_at x.offset y.offset).0

place_from : (x y : ReportItem) → x.offset ≡ y.offset → one_place x y ≡ true
place_from x y = (ties_at x.offset y.offset).1

no_later : (m n : ℕ) → nat_le m n ≡ false → n < m
no_later m n h = grind (arith, h)

no_sooner : (m n : ℕ) → nat_le m n ≡ true → m ≤ n
no_sooner m n h = grind (arith, h)

filter-kept : (p : ReportItem → Bool) (y : ReportItem) (ys : List ReportItem) → p y ≡ true → filter p (y ∷ ys) ≡ y ∷ filter p ys
filter-kept p y ys h = cond-true _ _ _ h

filter-dropped : (p : ReportItem → Bool) (y : ReportItem) (ys : List ReportItem) → p y ≡ false → filter p (y ∷ ys) ≡ filter p ys
filter-dropped p y ys h = cond-false _ _ _ h

put-first : (i j : ReportItem) (js : List ReportItem) → nat_le i.offset j.offset ≡ true → put_item i (j ∷ js) ≡ i ∷ j ∷ js
put-first i j js h = cond-true _ _ _ h

put-later : (i j : ReportItem) (js : List ReportItem) → nat_le i.offset j.offset ≡ false → put_item i (j ∷ js) ≡ j ∷ put_item i js
put-later i j js h = cond-false _ _ _ h

filter-put : (x i : ReportItem) (js : List ReportItem) → filter (one_place x) (put_item i js) ≡ filter (one_place x) (i ∷ js)
filter-put x i [] = refl
filter-put x i (j ∷ js) =
    let p = one_place x in
    elim (cases_Bool (nat_le i.offset j.offset)) [
      | inl first ↦ ap (filter p) (put-first i j js first)
      | inr past ↦
          let higher : j.offset < i.offset = no_later i.offset j.offset past in
          ap (filter p) (put-later i j js past)
          ∙ elim (cases_Bool (p j)) [
            | inr without ↦
                filter-dropped p j (put_item i js) without ∙ filter-put x i js
                ∙ ap (λ l. cond (p i) (i ∷ l) l) (sym (filter-dropped p j js without))
            | inl with ↦
                elim (cases_Bool (p i)) [
                  | inl both ↦ absurd (omega (arith, higher, place-true x i both, place-true x j with))
                  | inr only ↦
                      filter-kept p j (put_item i js) with ∙ ap (λ l. j ∷ l) (filter-put x i js ∙ filter-dropped p i js only)
                      ∙ sym (filter-dropped p i (j ∷ js) only ∙ filter-kept p j js with)
                ]
          ]
    ]

filter-in_order : (x : ReportItem) (is : List ReportItem) → filter (one_place x) (in_order is) ≡ filter (one_place x) is
filter-in_order x [] = refl
filter-in_order x (i ∷ is) =
    filter-put x i (in_order is) ∙ ap (λ l. cond (one_place x i) (i ∷ l) l) (filter-in_order x is)

-- ---- items that rise

abbrev AreAtLeast : ℕ → List ReportItem → Type 0
AreAtLeast n [] = Unit {0}
AreAtLeast n (y ∷ ys) = (n ≤ y.offset) × AreAtLeast n ys

abbrev Rises : List ReportItem → Type 0
Rises [] = Unit {0}
Rises (y ∷ ys) = AreAtLeast y.offset ys × Rises ys

AreAtLeast-le : (n m : ℕ) (ys : List ReportItem) → n ≤ m → AreAtLeast m ys → AreAtLeast n ys
AreAtLeast-le n m [] le h = tt
AreAtLeast-le n m (y ∷ ys) le h = let first = h.0 in (omega (arith, le, first), AreAtLeast-le n m ys le h.1)

AreAtLeast-at : (n : ℕ) (ys : List ReportItem) → ((j : ℕ) (d : ReportItem) → j < length ys → n ≤ (get_or ys j d).offset) → AreAtLeast n ys
AreAtLeast-at n [] h = tt
AreAtLeast-at n (y ∷ ys) h = (h zero y (suc-le-suc zero-le), AreAtLeast-at n ys (λ j d lt. h (suc j) d (suc-le-suc lt)))

Rises-from_sort : (ys : List ReportItem) → IsNonDecreasingBy (λ i. i.offset) ys → Rises ys
Rises-from_sort [] h = tt
Rises-from_sort (y ∷ ys) h = (
  AreAtLeast-at y.offset ys (λ j d lt. h zero (suc j) d zero-le (suc-le-suc lt)),
  Rises-from_sort ys (λ i j d le lt. h (suc i) (suc j) d (suc-le-suc le) (suc-le-suc lt)),
)

put-least : (n : ℕ) (i : ReportItem) (js : List ReportItem) → n ≤ i.offset → AreAtLeast n js → AreAtLeast n (put_item i js)
put-least n i [] low a = (low, tt)
put-least n i (j ∷ js) low a = by (nat_le i.offset j.offset) (put-least n i js low a.1)
  where
    by : (b : Bool) → AreAtLeast n (put_item i js) → AreAtLeast n (if b then i ∷ j ∷ js else j ∷ put_item i js)
    by true r = (low, a)
    by false r = (a.0, r)

put-rises : (i : ReportItem) (js : List ReportItem) → Rises js → Rises (put_item i js)
put-rises i [] r = (tt, tt)
put-rises i (j ∷ js) r = by (nat_le i.offset j.offset) refl (put-rises i js r.1)
  where
    by : (b : Bool) → nat_le i.offset j.offset ≡ b → Rises (put_item i js) → Rises (if b then i ∷ j ∷ js else j ∷ put_item i js)
    by true q s = let le : i.offset ≤ j.offset = no_sooner i.offset j.offset q in ((le, AreAtLeast-le i.offset j.offset js le r.0), r)
    by false q s = let lt : j.offset < i.offset = no_later i.offset j.offset q in (put-least j.offset i js (omega (arith, lt)) r.0, s)

Rises-in_order : (is : List ReportItem) → Rises (in_order is)
Rises-in_order [] = tt
Rises-in_order (i ∷ is) = put-rises i (in_order is) (Rises-in_order is)

-- ---- one list rises with these items of each place

AreAtLeast-found : (n : ℕ) (x : ReportItem) (ys : List ReportItem) (w : ReportItem) (ws : List ReportItem) → AreAtLeast n ys → filter (one_place x) ys ≡ w ∷ ws → n ≤ x.offset
AreAtLeast-found n x [] w ws h e = cc
AreAtLeast-found n x (y ∷ ys) w ws h e =
    elim (cases_Bool (one_place x y)) [
      | inl with ↦ omega (arith, h.0, place-true x y with)
      | inr without ↦ AreAtLeast-found n x ys w ws h.1 (sym (filter-dropped (one_place x) y ys without) ∙ e)
    ]

same_from_places : (ys zs : List ReportItem) → Rises ys → Rises zs → ((x : ReportItem) → filter (one_place x) ys ≡ filter (one_place x) zs) → ys ≡ zs
same_from_places [] [] left right same = refl
same_from_places [] (z ∷ zs) left right same =
    let clash = same z ∙ filter-kept (one_place z) z zs (place_from z z refl) in cc
same_from_places (y ∷ ys) [] left right same =
    let clash = sym (same y) ∙ filter-kept (one_place y) y ys (place_from y y refl) in cc
same_from_places (y ∷ ys) (z ∷ zs) left right same =
    let at_y = filter-kept (one_place y) y ys (place_from y y refl) in
    let at_z = filter-kept (one_place z) z zs (place_from z z refl) in
    let itself : (n : ℕ) → n ≤ n = λ n. omega arith in
    let up = AreAtLeast-found z.offset y (z ∷ zs) y _ (itself z.offset, right.0) (sym (same y) ∙ at_y) in
    let down = AreAtLeast-found y.offset z (y ∷ ys) z _ (itself y.offset, left.0) (same z ∙ at_z) in
    let heads = sym at_y ∙ same y ∙ filter-kept (one_place y) z zs (place_from y z (omega (arith, up, down))) in
    let head : y ≡ z = cc in
    let tails : (x : ReportItem) → filter (one_place x) ys ≡ filter (one_place x) zs =
    λ x. elim (cases_Bool (one_place x y)) [
      | inl with ↦
          let both = sym (filter-kept (one_place x) y ys with) ∙ same x ∙ filter-kept (one_place x) z zs (ap (one_place x) (sym head) ∙ with) in cc
      | inr without ↦
          sym (filter-dropped (one_place x) y ys without) ∙ same x ∙ filter-dropped (one_place x) z zs (ap (one_place x) (sym head) ∙ without)
    ] in
    ap (λ w. w ∷ ys) head ∙ ap (λ l. z ∷ l) (same_from_places ys zs left.1 right.1 tails)

pub in_order-from_sort : (xs ys : List ReportItem) → IsNonDecreasingBy (λ i. i.offset) ys → IsStableByKey (λ (i : ReportItem). i.offset) nat_cmp xs ys → ys ≡ in_order xs
in_order-from_sort xs ys sorted stable =
    same_from_places ys (in_order xs) (Rises-from_sort ys sorted) (Rises-in_order xs) (λ x. stable x ∙ sym (filter-in_order x xs))

-- ---- within a text

put-stands : (from size : ℕ) (i : ReportItem) (js : List ReportItem) → from ≤ i.offset → i.offset ≤ size → StandInOrder from size js → StandInOrder from size (put_item i js)
put-stands from size i [] low high s = (low, high, tt)
put-stands from size i (j ∷ js) low high s = by (nat_le i.offset j.offset) refl (λ l. put-stands j.offset size i js l high s.2)
  where
    by : (b : Bool) → nat_le i.offset j.offset ≡ b → (j.offset ≤ i.offset → StandInOrder j.offset size (put_item i js)) → StandInOrder from size (if b then i ∷ j ∷ js else j ∷ put_item i js)
    by true q r = (low, high, (no_sooner i.offset j.offset q, s.1, s.2))
    by false q r = let lt : j.offset < i.offset = no_later i.offset j.offset q in (s.0, s.1, r (omega (arith, lt)))

pub in_order-stands : (size : ℕ) (is : List ReportItem) → LieWithin size is → StandInOrder 0 size (in_order is)
in_order-stands size [] h = tt
in_order-stands size (i ∷ is) h = put-stands 0 size i (in_order is) (omega arith) h.0 (in_order-stands size is h.1)

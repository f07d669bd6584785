-- The counts of the open brackets in an array.
use Rattle.std.proofs.Common.{◌≡◌, ◌≢◌, ℕ, zero, suc, ◌+◌, ◌-◌, ◌<◌, ◌≤◌, List, [], ◌∷◌, length, get_or, refl, sym, ap, subst, ◌∙◌, arith, get_or-set_other, get_or-set_same}
use Rattle.std.specs.Prelude.{sum}
use Rattle.std.proofs.lemmas.List.Sums.{sum_by-cons}
use Rattle.std.proofs.Math.ListN.{set, length-set}
use Rattle.go_read.specs.SpellsWeight.{opened, closed, separated, counted}
use Rattle.go_nesting.specs.declared.counts.Counts.{Counts}
use Rattle.go_nesting.specs.declared.counts.Nesting.{Nesting}
use Rattle.go_nesting.specs.declared.counts.Nesting.TheVariants.{Opens, Closes, Separates, Adds}
use Rattle.go_nesting.specs.Nesting.{after}
use Rattle.go_nesting.specs.Frames.{frames, Counted, counts_of, IsSound}

frames_other : (cs : List ℕ) (k v d : ℕ) → d < k → frames (set cs k v) d ≡ frames cs d
unfolding frames
frames_other cs k v zero lt = let ne : 0 ≢ k = omega arith in ap (λ (x : ℕ). x ∷ []) (get_or-set_other cs k 0 v 0 ne)
frames_other cs k v (suc d) lt =
    let ne : suc d ≢ k = omega arith in
    ap (λ (x : ℕ). x ∷ frames (set cs k v) d) (get_or-set_other cs k (suc d) v 0 ne) ∙ ap (λ (xs : List ℕ). get_or cs (suc d) 0 ∷ xs) (frames_other cs k v d (omega arith))

counted_other : (cs : List ℕ) (k v d : ℕ) → d ≤ k → Counted cs d → Counted (set cs k v) d
unfolding Counted
counted_other cs k v zero le h = tt
counted_other cs k v (suc d) le h =
    let ne : d ≢ k = omega arith in
    (subst (λ (x : ℕ). 0 < x) (sym (get_or-set_other cs k d v 0 ne)) h.0, counted_other cs k v d (omega arith) h.1)

-- a new last entry
topped : ℕ → List ℕ → List ℕ
topped v [] = []
topped v (n ∷ ns) = v ∷ ns

frames_top : (cs : List ℕ) (v d : ℕ) → d < length cs → frames (set cs d v) d ≡ topped v (frames cs d)
unfolding frames topped
frames_top cs v zero lt = ap (λ (x : ℕ). x ∷ []) (get_or-set_same cs 0 v 0 lt)
frames_top cs v (suc d) lt =
    ap (λ (x : ℕ). x ∷ frames (set cs (suc d) v) d) (get_or-set_same cs (suc d) v 0 lt) ∙ ap (λ (xs : List ℕ). v ∷ xs) (frames_other cs (suc d) v d (omega arith))

pub separated_is : (cs : List ℕ) (d : ℕ) → d < length cs → frames (set cs d 0) d ≡ separated (frames cs d)
unfolding frames topped
separated_is cs d lt = frames_top cs 0 d lt ∙ shape cs d
  where
    shape : (cs : List ℕ) (d : ℕ) → topped 0 (frames cs d) ≡ separated (frames cs d)
    shape cs zero = refl
    shape cs (suc d) = refl

pub counted_is : (cs : List ℕ) (d : ℕ) → d < length cs → frames (set cs d (get_or cs d 0 + 1)) d ≡ counted (frames cs d)
unfolding frames topped
counted_is cs d lt = frames_top cs (get_or cs d 0 + 1) d lt ∙ shape cs d
  where
    shape : (cs : List ℕ) (d : ℕ) → topped (get_or cs d 0 + 1) (frames cs d) ≡ counted (frames cs d)
    shape cs zero = refl
    shape cs (suc d) = refl

pub closed_zero : (cs : List ℕ) → closed (frames cs 0) ≡ frames cs 0
unfolding frames
closed_zero cs = refl

pub closed_suc : (cs : List ℕ) (d : ℕ) → closed (frames cs (suc d)) ≡ frames cs d
unfolding frames
closed_suc cs zero = refl
closed_suc cs (suc d) = refl

-- the entries before the last
below : List ℕ → ℕ → List ℕ
below cs zero = []
below cs (suc d) = frames cs d

shape : (cs : List ℕ) (d : ℕ) → frames cs d ≡ get_or cs d 0 ∷ below cs d
unfolding frames below
shape cs zero = refl
shape cs (suc d) = refl

opened_counted : (cs : List ℕ) (d : ℕ) → 0 ∷ counted (frames cs d) ≡ opened (frames cs d)
opened_counted cs d = subst (λ (ns : List ℕ). 0 ∷ counted ns ≡ opened ns) (sym (shape cs d)) refl

opened_at : (cs : List ℕ) (d : ℕ) → d + 1 < length (set cs d (get_or cs d 0 + 1)) → frames (set (set cs d (get_or cs d 0 + 1)) (d + 1) 0) (d + 1) ≡ 0 ∷ frames (set cs d (get_or cs d 0 + 1)) d
unfolding frames topped
opened_at cs d lt = at_suc (set cs d (get_or cs d 0 + 1)) d (d + 1) (omega arith) lt
  where
    at_suc : (cs : List ℕ) (d k : ℕ) → k ≡ suc d → k < length cs → frames (set cs k 0) k ≡ 0 ∷ frames cs d
    at_suc cs d k e lt =
        subst (λ (k : ℕ). k < length cs → frames (set cs k 0) k ≡ 0 ∷ frames cs d) (sym e) (λ lt. frames_top cs 0 (suc d) lt) lt

pub opened_is : (cs : List ℕ) (d : ℕ) → d + 1 < length cs → frames (set (set cs d (get_or cs d 0 + 1)) (d + 1) 0) (d + 1) ≡ opened (frames cs d)
opened_is cs d lt =
    let long : d + 1 < length (set cs d (get_or cs d 0 + 1)) = simp length-set lt in
    opened_at cs d long ∙ ap (λ (xs : List ℕ). 0 ∷ xs) (counted_is cs d (omega arith)) ∙ opened_counted cs d

-- the entries and their sum
sum_cons : (n : ℕ) (ns : List ℕ) → sum (n ∷ ns) ≡ n + sum ns
sum_cons n ns = sum_by-cons (λ (x : ℕ). x) n ns

pub top_below : (cs : List ℕ) (d : ℕ) → get_or cs d 0 ≤ sum (frames cs d)
top_below cs d = subst (λ (ns : List ℕ). get_or cs d 0 ≤ sum ns) (sym (shape cs d)) (let total = sum_cons (get_or cs d 0) (below cs d) in omega (arith, total))

sum_below : (cs : List ℕ) (d : ℕ) → sum (frames cs d) ≡ get_or cs d 0 + sum (below cs d)
sum_below cs d = ap sum (shape cs d) ∙ sum_cons (get_or cs d 0) (below cs d)

-- a place, with what stands there, is at most the sum
room : (cs : List ℕ) (d : ℕ) → Counted cs d → d + get_or cs d 0 ≤ sum (frames cs d)
unfolding Counted below
room cs zero h = let le = top_below cs zero in omega (arith, le)
room cs (suc d) h = let le = room cs d h.1 in let total = sum_below cs (suc d) in omega (arith, le, h.0, total)

pub place_below : (cs : List ℕ) (d : ℕ) → Counted cs d → d ≤ sum (frames cs d)
place_below cs d h = let le = room cs d h in omega (arith, le)

-- ---- what each kind of token leaves

pub counted_opened : (cs : List ℕ) (d : ℕ) → d + 1 < length cs → Counted cs d → Counted (set (set cs d (get_or cs d 0 + 1)) (d + 1) 0) (d + 1)
unfolding Counted
counted_opened cs d lt h =
    counted_other (set cs d (get_or cs d 0 + 1)) (d + 1) 0 (d + 1) (omega arith)
    (at_suc (set cs d (get_or cs d 0 + 1)) d (d + 1) (omega arith) (subst (λ (x : ℕ). 0 < x) (sym (get_or-set_same cs d (get_or cs d 0 + 1) 0 (omega arith))) (omega arith)) (counted_other cs d (get_or cs d 0 + 1) d (omega arith) h))
  where
    at_suc : (cs : List ℕ) (d k : ℕ) → k ≡ suc d → 0 < get_or cs d 0 → Counted cs d → Counted cs k
    at_suc cs d k e lt h = subst (λ (k : ℕ). Counted cs k) (sym e) (lt, h)

pub counted_closed : (cs : List ℕ) (d : ℕ) → Counted cs d → Counted cs (d - 1)
unfolding Counted
counted_closed cs zero h = h
counted_closed cs (suc d) h = subst (λ (k : ℕ). Counted cs k) (same d) h.1
  where
    same : (d : ℕ) → d ≡ suc d - 1
    same d = omega arith

pub counted_at : (cs : List ℕ) (d v : ℕ) → Counted cs d → Counted (set cs d v) d
counted_at cs d v h = counted_other cs d v d (omega arith) h

pub closed_is : (cs : List ℕ) (d : ℕ) → frames cs (d - 1) ≡ closed (frames cs d)
closed_is cs zero = sym (closed_zero cs)
closed_is cs (suc d) = subst (λ (k : ℕ). frames cs k ≡ closed (frames cs (suc d))) (same d) (sym (closed_suc cs d))
  where
    same : (d : ℕ) → d ≡ suc d - 1
    same d = omega arith

-- ---- the sums

at_shape : (P : List ℕ → Type 0) (cs : List ℕ) (d : ℕ) → P (get_or cs d 0 ∷ below cs d) → P (frames cs d)
at_shape P cs d h = subst P (sym (shape cs d)) h

sum_opened : (cs : List ℕ) (d : ℕ) → sum (opened (frames cs d)) ≡ sum (frames cs d) + 1
sum_opened cs d = at_shape (λ ns. sum (opened ns) ≡ sum ns + 1) cs d (let total = sum_cons (get_or cs d 0) (below cs d) in let more = sum_cons 0 ((get_or cs d 0 + 1) ∷ below cs d) in let one = sum_cons (get_or cs d 0 + 1) (below cs d) in omega (arith, total, more, one))

sum_counted : (cs : List ℕ) (d : ℕ) → sum (counted (frames cs d)) ≡ sum (frames cs d) + 1
sum_counted cs d = at_shape (λ ns. sum (counted ns) ≡ sum ns + 1) cs d (let total = sum_cons (get_or cs d 0) (below cs d) in let more = sum_cons (get_or cs d 0 + 1) (below cs d) in omega (arith, total, more))

sum_separated : (cs : List ℕ) (d : ℕ) → sum (separated (frames cs d)) ≡ sum (frames cs d) - get_or cs d 0
sum_separated cs d = at_shape (λ ns. sum (separated ns) ≡ sum ns - get_or cs d 0) cs d (let total = sum_cons (get_or cs d 0) (below cs d) in let less = sum_cons 0 (below cs d) in omega (arith, total, less))

sum_closed : (cs : List ℕ) (d : ℕ) → 0 < d → sum (closed (frames cs d)) ≡ sum (frames cs d) - get_or cs d 0
unfolding below
sum_closed cs zero lt = absurd (omega (arith, lt))
sum_closed cs (suc d) lt = let total = sum_below cs (suc d) in let rest = ap sum (closed_suc cs d) in omega (arith, total, rest)

-- ---- of counts

pub top_small : {c : Counts} → IsSound c → c.top < 401
top_small {c} h = let le = place_below c.counts c.top h.counted in omega (arith, le, h.total, h.small)

pub count_small : {c : Counts} → IsSound c → get_or c.counts c.top 0 ≤ c.total
count_small {c} h = let le = top_below c.counts c.top in omega (arith, le, h.total)

pub total_small : {c : Counts} → IsSound c → c.total < 401
total_small {c} h = omega (arith, h.small)

pub opens_small : {c : Counts} (n : Nesting) → IsSound c → n ≡ Opens → sum (after n (counts_of c)) ≤ 400 → c.top + 1 < 401
opens_small {c} n h e small =
    let le = place_below c.counts c.top h.counted in
    let more = sum_opened c.counts c.top in
    let same = ap (λ (n : Nesting). sum (after n (counts_of c))) e in
    omega (arith, le, more, same, small)

pub weight_opens : {c : Counts} (n : Nesting) → IsSound c → n ≡ Opens → c.total + 1 ≡ sum (after n (counts_of c))
weight_opens {c} n h e = let more = sum_opened c.counts c.top in let same = ap (λ (n : Nesting). sum (after n (counts_of c))) e in omega (arith, more, same, h.total)

pub weight_adds : {c : Counts} (n : Nesting) → IsSound c → n ≡ Adds → c.total + 1 ≡ sum (after n (counts_of c))
weight_adds {c} n h e = let more = sum_counted c.counts c.top in let same = ap (λ (n : Nesting). sum (after n (counts_of c))) e in omega (arith, more, same, h.total)

pub weight_separates : {c : Counts} (n : Nesting) → IsSound c → n ≡ Separates → c.total - get_or c.counts c.top 0 ≡ sum (after n (counts_of c))
weight_separates {c} n h e = let less = sum_separated c.counts c.top in let same = ap (λ (n : Nesting). sum (after n (counts_of c))) e in omega (arith, less, same, h.total)

pub weight_closes : {c : Counts} (n : Nesting) → IsSound c → n ≡ Closes → 0 < c.top → c.total - get_or c.counts c.top 0 ≡ sum (after n (counts_of c))
weight_closes {c} n h e lt = let less = sum_closed c.counts c.top lt in let same = ap (λ (n : Nesting). sum (after n (counts_of c))) e in omega (arith, less, same, h.total)

pub weight_stays : {c : Counts} (n : Nesting) → IsSound c → n ≡ Closes → c.top ≡ 0 → c.total ≡ sum (after n (counts_of c))
weight_stays {c} n h e z =
    let last = closed_zero c.counts in
    let there : counts_of c ≡ frames c.counts 0 = ap (λ (d : ℕ). frames c.counts d) z in
    let same : after n (counts_of c) ≡ counts_of c = ap (λ (n : Nesting). after n (counts_of c)) e ∙ ap closed there ∙ last ∙ sym there in
    let sums = ap sum same in
    omega (arith, sums, h.total)

-- counts with the entries that are wanted, and their sum
pub sound_of : (c : Counts) (ns : List ℕ) → counts_of c ≡ ns → c.total ≡ sum ns → sum ns ≤ 400 → Counted c.counts c.top → IsSound c
sound_of c ns e total small counted = let sums = ap sum e in record { total = omega (arith, sums, total); small = omega (arith, total, small); counted = counted }

-- Parts of a text.
use Rattle.std.proofs.Common.{◌≡◌, ◌≤◌, ◌+◌, ◌-◌, ℕ, zero, suc, List, [], ◌∷◌, ◌++◌, length, take, drop, sym, ap, ◌∙◌, arith}
use Rattle.std.specs.Prelude.{slice_range}
use Rattle.std.proofs.lemmas.List.{drop-drop, take-append-drop, take-take, drop-take}

pub take_over : (n : ℕ) (xs ys : List ℕ) → take n (xs ++ ys) ≡ take n xs ++ take (n - length xs) ys
take_over zero xs ys = let e : zero - length xs ≡ zero = omega arith in sym (ap (λ k. take k ys) e)
take_over (suc n) [] ys = let e : suc n - zero ≡ suc n = omega arith in sym (ap (λ k. take k ys) e)
take_over (suc n) (x ∷ xs) ys =
    let e : n - length xs ≡ suc n - suc (length xs) = omega arith in
    ap (λ zs. x ∷ zs) (take_over n xs ys ∙ ap (λ k. take n xs ++ take k ys) e)

pub drop_over : (n : ℕ) (xs ys : List ℕ) → drop n (xs ++ ys) ≡ drop n xs ++ drop (n - length xs) ys
drop_over zero xs ys = let e : zero - length xs ≡ zero = omega arith in sym (ap (λ k. xs ++ drop k ys) e)
drop_over (suc n) [] ys = let e : suc n - zero ≡ suc n = omega arith in sym (ap (λ k. drop k ys) e)
drop_over (suc n) (x ∷ xs) ys =
    let e : n - length xs ≡ suc n - suc (length xs) = omega arith in
    drop_over n xs ys ∙ ap (λ k. drop n xs ++ drop k ys) e

pub take_slice : (old : List ℕ) (from to m : ℕ) → m ≤ to - from → take m (slice_range old from to) ≡ slice_range old from (from + m)
take_slice old from to m le =
    let e : m ≡ from + m - from = omega arith in
    take-take m (to - from) (drop from old) le ∙ ap (λ k. take k (drop from old)) e

pub drop_slice : (old : List ℕ) (from to m : ℕ) → m ≤ to - from → drop m (slice_range old from to) ≡ slice_range old (from + m) to
drop_slice old from to m le =
    let e : to - from ≡ m + (to - (from + m)) = omega arith in
    ap (λ k. drop m (take k (drop from old))) e ∙ drop-take m (to - (from + m)) (drop from old) ∙ ap (take (to - (from + m))) (drop-drop m from old)

pub slice_split : (old : List ℕ) (from mid to : ℕ) → from ≤ mid → mid ≤ to → slice_range old from to ≡ slice_range old from mid ++ slice_range old mid to
slice_split old from mid to p q =
    let e : from + (mid - from) ≡ mid = omega arith in
    let s : List ℕ = slice_range old from to in
    let front : take (mid - from) s ≡ slice_range old from mid = take_slice old from to (mid - from) (omega arith) ∙ ap (slice_range old from) e in
    let back : drop (mid - from) s ≡ slice_range old mid to = drop_slice old from to (mid - from) (omega arith) ∙ ap (λ k. slice_range old k to) e in
    sym (take-append-drop (mid - from) s) ∙ (λ i. front i ++ back i)

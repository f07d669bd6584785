-- Marks that are set at numbers.
use Rattle.std.proofs.Common.{◌≡◌, ◌∙◌, ◌<◌, ◌≤◌, ◌++◌, ◌||◌, ℕ, zero, suc, Bool, true, false, List, [], ◌∷◌, refl, sym, ap, length, map, replicate, slice_set, append_assoc, arith}
use Rattle.std.specs.Prelude.{if◌then◌else◌}
use Rattle.header_order.specs.Kinds.{mark, mark_all}

pub mark_set : (bs : List Bool) (i : ℕ) → i < length bs → slice_set bs i true ≡ mark i bs
mark_set [] i l = absurd (omega (arith, l))
mark_set (b ∷ bs) zero l = refl
mark_set (b ∷ bs) (suc i) l = ap (λ cs. b ∷ cs) (mark_set bs i (omega (arith, l)))

pub mark_gone : (bs : List Bool) (i : ℕ) → length bs ≤ i → bs ≡ mark i bs
mark_gone [] i l = refl
mark_gone (b ∷ bs) zero l = absurd (omega (arith, l))
mark_gone (b ∷ bs) (suc i) l = ap (λ cs. b ∷ cs) (mark_gone bs i (omega (arith, l)))

-- the numbers of those that are true, counted on
abbrev pub numbers_of : ℕ → List Bool → List ℕ
numbers_of i [] = []
numbers_of i (b ∷ bs) = if b then i ∷ numbers_of (suc i) bs else numbers_of (suc i) bs

-- one or the other, place by place
abbrev pub either : List Bool → List Bool → List Bool
either [] ys = ys
either (x ∷ xs) [] = []
either (x ∷ xs) (y ∷ ys) = (x || y) ∷ either xs ys

pub either_length : (xs ys : List Bool) → length xs ≡ length ys → length (either xs ys) ≡ length ys
either_length [] ys e = refl
either_length (x ∷ xs) [] e = absurd (omega (arith, e))
either_length (x ∷ xs) (y ∷ ys) e = ap suc (either_length xs ys (omega (arith, e)))

pub length_map : {A : Type 0} (f : A → Bool) (xs : List A) → length (map f xs) ≡ length xs
length_map f [] = refl
length_map f (x ∷ xs) = ap suc (length_map f xs)

pub length_false : (n : ℕ) → length (replicate n false) ≡ n
length_false zero = refl
length_false (suc n) = ap suc (length_false n)

mark_behind : (before : List Bool) (b : Bool) (bs : List Bool) → mark (length before) (before ++ b ∷ bs) ≡ before ++ true ∷ bs
mark_behind [] b bs = refl
mark_behind (x ∷ xs) b bs = ap (λ cs. x ∷ cs) (mark_behind xs b bs)

length_more : (before : List Bool) (b : Bool) → length (before ++ b ∷ []) ≡ suc (length before)
length_more [] b = refl
length_more (x ∷ xs) b = ap suc (length_more xs b)

mark_from :
    (before ts bs : List Bool) → length ts ≡ length bs →
    mark_all (numbers_of (length before) ts) (before ++ bs) ≡ before ++ either ts bs
mark_from before [] bs e = refl
mark_from before (t ∷ ts) [] e = absurd (omega (arith, e))
mark_from before (t ∷ ts) (b ∷ bs) e =
    by t (λ c. mark_from (before ++ c ∷ []) ts bs (omega (arith, e)))
  where
    further :
        (c : Bool) →
        mark_all (numbers_of (length (before ++ c ∷ [])) ts) ((before ++ c ∷ []) ++ bs)
        ≡ (before ++ c ∷ []) ++ either ts bs →
        mark_all (numbers_of (suc (length before)) ts) (before ++ c ∷ bs) ≡ before ++ c ∷ either ts bs
    further c f =
        ap (λ xs. mark_all (numbers_of (suc (length before)) ts) xs) (sym (append_assoc before (c ∷ []) bs))
        ∙ ap (λ k. mark_all (numbers_of k ts) ((before ++ c ∷ []) ++ bs)) (sym (length_more before c))
        ∙ f
        ∙ append_assoc before (c ∷ []) (either ts bs)

    by :
        (t : Bool) →
        ((c : Bool) →
        mark_all (numbers_of (length (before ++ c ∷ [])) ts) ((before ++ c ∷ []) ++ bs)
        ≡ (before ++ c ∷ []) ++ either ts bs) →
        mark_all
        (if t
        then length before ∷ numbers_of (suc (length before)) ts
        else numbers_of (suc (length before)) ts)
        (before ++ b ∷ bs)
        ≡ before ++ (t || b) ∷ either ts bs
    by true f =
        ap (mark_all (numbers_of (suc (length before)) ts)) (mark_behind before b bs) ∙ further true (f true)
    by false f = further b (f b)

-- marks at the numbers of what is true
pub mark_numbers : (ts bs : List Bool) → length ts ≡ length bs → mark_all (numbers_of 0 ts) bs ≡ either ts bs
mark_numbers ts bs e = mark_from [] ts bs e

-- Two lists of bad marks joined by place, one entry after the other.
use Rattle.std.proofs.Common.{◌≡◌, ◌≤◌, ◌<◌, ◌+◌, drop, get_or, ℕ, zero, suc, true, false, nat_le, List, [], ◌∷◌, length, refl, sym, ◌∙◌, arith}
use Rattle.std.proofs.lemmas.List.{drop_more}
use Rattle.directive_scan.specs.declared.mark_types.BadMark.{BadMark}
use Rattle.directive_scan.specs.Marked.{first_comes, placed_in}

pub first_taken : (a : BadMark) (firsts bs : List BadMark) → first_comes (a ∷ firsts) bs ≡ true → placed_in (a ∷ firsts) bs ≡ a ∷ placed_in firsts bs
first_taken a firsts [] e = refl
first_taken a firsts (b ∷ bs) e = rw e refl

pub other_taken : (firsts : List BadMark) (b : BadMark) (bs : List BadMark) → first_comes firsts (b ∷ bs) ≡ false → placed_in firsts (b ∷ bs) ≡ b ∷ placed_in firsts bs
other_taken [] b bs e = refl
other_taken (a ∷ firsts) b bs e = rw e refl

-- ---- by place in the lists

pub comes_at : (firsts others : List BadMark) (i j : ℕ) (a b : BadMark) → i < length firsts → j < length others → first_comes (drop i firsts) (drop j others) ≡ nat_le (get_or firsts i a).at (get_or others j b).at
comes_at firsts others i j a b h k = λ w. first_comes (drop_more firsts i a h w) (drop_more others j b k w)

pub comes_alone : (firsts others : List BadMark) (i j : ℕ) → i < length firsts → length others ≤ j → first_comes (drop i firsts) (drop j others) ≡ true
comes_alone [] others i j h k = grind (arith, h)
comes_alone (a ∷ firsts) others (suc i) j h k = comes_alone firsts others i j (grind (arith, h)) k
comes_alone (a ∷ firsts) [] zero zero h k = refl
comes_alone (a ∷ firsts) [] zero (suc j) h k = refl
comes_alone (a ∷ firsts) (b ∷ others) zero zero h k = grind (arith, k)
comes_alone (a ∷ firsts) (b ∷ others) zero (suc j) h k = comes_alone (a ∷ firsts) others zero j h (grind (arith, k))

pub comes_not : (firsts others : List BadMark) (i j : ℕ) → length firsts ≤ i → first_comes (drop i firsts) (drop j others) ≡ false
comes_not [] others zero j h = refl
comes_not [] others (suc i) j h = refl
comes_not (a ∷ firsts) others zero j h = grind (arith, h)
comes_not (a ∷ firsts) others (suc i) j h = comes_not firsts others i j (grind (arith, h))

pub takes_first : (firsts others : List BadMark) (i j : ℕ) (a : BadMark) → i < length firsts → first_comes (drop i firsts) (drop j others) ≡ true
    → placed_in (drop i firsts) (drop j others) ≡ get_or firsts i a ∷ placed_in (drop (i + 1) firsts) (drop j others)
takes_first firsts others i j a h e =
    (λ w. placed_in (drop_more firsts i a h w) (drop j others))
    ∙ first_taken (get_or firsts i a) (drop (i + 1) firsts) (drop j others) (sym (λ w. first_comes (drop_more firsts i a h w) (drop j others)) ∙ e)

pub takes_other : (firsts others : List BadMark) (i j : ℕ) (b : BadMark) → j < length others → first_comes (drop i firsts) (drop j others) ≡ false
    → placed_in (drop i firsts) (drop j others) ≡ get_or others j b ∷ placed_in (drop i firsts) (drop (j + 1) others)
takes_other firsts others i j b h e =
    (λ w. placed_in (drop i firsts) (drop_more others j b h w))
    ∙ other_taken (drop i firsts) (get_or others j b) (drop (j + 1) others) (sym (λ w. first_comes (drop i firsts) (drop_more others j b h w)) ∙ e)

pub none_left : (firsts others : List BadMark) (i j : ℕ) → length firsts ≤ i → length others ≤ j → placed_in (drop i firsts) (drop j others) ≡ []
none_left [] [] zero zero h k = refl
none_left [] [] zero (suc j) h k = refl
none_left [] [] (suc i) zero h k = refl
none_left [] [] (suc i) (suc j) h k = refl
none_left [] (b ∷ others) zero zero h k = grind (arith, k)
none_left [] (b ∷ others) (suc i) zero h k = grind (arith, k)
none_left [] (b ∷ others) zero (suc j) h k = none_left [] others zero j h (grind (arith, k))
none_left [] (b ∷ others) (suc i) (suc j) h k = none_left [] others (suc i) j h (grind (arith, k))
none_left (a ∷ firsts) others zero j h k = grind (arith, h)
none_left (a ∷ firsts) others (suc i) j h k = none_left firsts others i j (grind (arith, h)) k

pub ruleset first_laws = (comes_at, comes_alone, comes_not)

pub ruleset merge_laws = (takes_first, takes_other, none_left, comes_not, comes_alone)

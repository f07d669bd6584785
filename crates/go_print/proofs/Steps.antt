-- Loops that write the entries of a list, one after another, and what stands between them.
use Rattle.std.proofs.Common.{◌≡◌, ◌<◌, ◌≤◌, ◌+◌, ℕ, suc, zero, Bool, true, false, nat_lt, List, [], ◌∷◌, ◌++◌, length, drop, get_or, map, refl, sym, ap, ◌∙◌, arith, add-one, append_assoc, append-nil}
use Rattle.std.proofs.Math.Seq.{drop-cons}
use Rattle.std.proofs.lemmas.List.{drop_all}
use Rattle.std.proofs.lemmas.Bool.{lt-ltb, le-ltb}
use Rattle.std.proofs.lemmas.Bool.Decides.{nat_tests}

-- whether there is any
abbrev pub has_more : {B : Type 0} → List B → Bool
has_more [] = false
has_more (y ∷ ys) = true

-- the text of the entries; an entry's text depends on whether others follow
abbrev pub all : {B : Type 0} → (Bool → B → List ℕ) → List B → List ℕ
all part [] = []
all part (y ∷ ys) = part (has_more ys) y ++ all part ys

ltb_suc : (n m : ℕ) → nat_lt n m ≡ nat_lt (suc n) (suc m)
ltb_suc n m = grind (arith, nat_tests)

more_at : {A B : Type 0} (f : A → B) (n : ℕ) (xs : List A) → has_more (map f (drop n xs)) ≡ nat_lt n (length xs)
more_at f zero [] = refl
more_at f zero (x ∷ xs) = sym (lt-ltb 0 (suc (length xs)) (omega arith))
more_at f (suc n) [] = sym (le-ltb (suc n) 0 (omega arith))
more_at f (suc n) (x ∷ xs) = more_at f n xs ∙ ltb_suc n (length xs)

here_and_more : {A B : Type 0} (f : A → B) (part : Bool → B → List ℕ) (xs : List A) (i : ℕ) (x : A) → i < length xs → x ≡ get_or xs i x → all part (map f (drop i xs)) ≡ part (nat_lt (i + 1) (length xs)) (f x) ++ all part (map f (drop (i + 1) xs))
here_and_more f part xs i x h at =
    let cut : drop i xs ≡ x ∷ drop (i + 1) xs = rw (add-one) (drop-cons xs i x h ∙ ap (λ y. y ∷ drop (suc i) xs) (sym at)) in
    ap (λ ys. all part (map f ys)) cut ∙ ap (λ m. part m (f x) ++ all part (map f (drop (i + 1) xs))) (more_at f (i + 1) xs)

shift : (a p q r : List ℕ) → (a ++ p) ++ (q ++ r) ≡ a ++ ((p ++ q) ++ r)
shift a p q r = simp append_assoc

-- two writes a turn
pub step : {A B : Type 0} (f : A → B) (part : Bool → B → List ℕ) (xs : List A) (i : ℕ) (x : A) (a b c whole p q : List ℕ) → i < length xs → x ≡ get_or xs i x → a ++ all part (map f (drop i xs)) ≡ whole → b ≡ a ++ p → c ≡ b ++ q → part (nat_lt (i + 1) (length xs)) (f x) ≡ p ++ q → c ++ all part (map f (drop (i + 1) xs)) ≡ whole
step f part xs i x a b c whole p q h at ea eb ec ep =
    let rest : List ℕ = all part (map f (drop (i + 1) xs)) in
    ap (λ ys. ys ++ rest) (ec ∙ ap (λ ys. ys ++ q) eb) ∙ append_assoc (a ++ p) q rest ∙ shift a p q rest
    ∙ ap (λ ys. a ++ (ys ++ rest)) (sym ep) ∙ ap (λ ys. a ++ ys) (sym (here_and_more f part xs i x h at)) ∙ ea

-- at the end nothing is left
pub done : {A B : Type 0} (f : A → B) (part : Bool → B → List ℕ) (xs : List A) (n : ℕ) (a whole : List ℕ) → length xs ≤ n → a ++ all part (map f (drop n xs)) ≡ whole → a ≡ whole
done f part xs n a whole h e = sym (append-nil a) ∙ ap (λ ys. a ++ all part (map f ys)) (sym (drop_all n xs h)) ∙ e

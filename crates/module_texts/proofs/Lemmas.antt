-- Lists of files.
use Rattle.std.proofs.Common.{◌≡◌, ◌∙◌, ◌<◌, ℕ, zero, suc, Bool, true, false, cond, List, [], ◌∷◌, ◌++◌, length, find, filter, map, take, drop, refl, sym, ap, Some, arith, slice_index_or}
use Rattle.std.proofs.lemmas.List.Elements.{filter-append, All-map}
use Rattle.std.specs.Prelude.{All}
use Rattle.std.proofs.lemmas.List.{length-map, length-take-le, map-append}
use Rattle.module_texts.specs.Refusals.{FailsFirst}

-- a list is cut at an element
pub cut_at : {A : Type 0} (xs : List A) (i : ℕ) (x : A) → i < length xs → x ≡ slice_index_or xs i x → xs ≡ take i xs ++ x ∷ drop (suc i) xs
cut_at [] i x h e = absurd (omega (arith, h))
cut_at (y ∷ ys) zero x h e = ap (λ z. z ∷ ys) (sym e)
cut_at (y ∷ ys) (suc i) x h e = let l : i < length ys = omega (arith, h) in ap (λ r. y ∷ r) (cut_at ys i x l e)

-- the first that fails, by its place
pub fails_at : {A : Type 0} (P Q : A → Type 0) (xs : List A) (i : ℕ) (x : A) → i < length xs → x ≡ slice_index_or xs i x → All P (take i xs) → Q x → FailsFirst P Q xs i
fails_at P Q xs i x h e passes fails = record {
  before = take i xs;
  of = x;
  behind = drop (suc i) xs;
  is = cut_at xs i x h e;
  count = length-take-le i xs (omega (arith, h));
  passes = passes;
  fails = fails;
}

-- a list of images fails as the list does
pub fails_map : {A B : Type 0} (f : A → B) (P Q : B → Type 0) (xs : List A) (k : ℕ) → FailsFirst (λ x. P (f x)) (λ x. Q (f x)) xs k → FailsFirst P Q (map f xs) k
fails_map f P Q xs k r = record {
  before = map f r.before;
  of = f r.of;
  behind = map f r.behind;
  is = ap (map f) r.is ∙ map-append f r.before (r.of ∷ r.behind);
  count = length-map r.before f ∙ r.count;
  passes = All-map P f r.before r.passes;
  fails = r.fails;
}

-- what fails for one cause fails for another that it implies
pub fails_weaker : {A : Type 0} {P Q R S : A → Type 0} (xs : List A) (k : ℕ) → ((x : A) → P x → R x) → ((x : A) → Q x → S x) → FailsFirst P Q xs k → FailsFirst R S xs k
fails_weaker xs k p q r = record {
  before = r.before;
  of = r.of;
  behind = r.behind;
  is = r.is;
  count = r.count;
  passes = λ j d l. p _ (r.passes j d l);
  fails = q _ r.fails;
}

module _ {A : Type 0} (p : A → Bool) where
  -- what passes is cut at an element that passes
  pub filter_cut : (xs : List A) (i : ℕ) (x : A) → i < length xs → x ≡ slice_index_or xs i x → p x ≡ true → filter p xs ≡ filter p (take i xs) ++ x ∷ filter p (drop (suc i) xs)
  filter_cut xs i x h e t =
      ap (filter p) (cut_at xs i x h e) ∙ filter-append p (take i xs) (x ∷ drop (suc i) xs)
      ∙ ap (λ b. filter p (take i xs) ++ cond b (x ∷ filter p (drop (suc i) xs)) (filter p (drop (suc i) xs))) t

module _ {A : Type 0} (p q : A → Bool) (implies : (x : A) → q x ≡ true → p x ≡ true) where
  find_filter_by : (x : A) (xs : List A) (t u : Bool) → p x ≡ t → q x ≡ u → find q (filter p xs) ≡ find q xs
      → find q (cond t (x ∷ filter p xs) (filter p xs)) ≡ cond u (Some x) (find q xs)
  find_filter_by x xs true u a b h = ap (λ v. cond v (Some x) (find q (filter p xs))) b ∙ ap (cond u (Some x)) h
  find_filter_by x xs false true a b h = let c = implies x b in absurd (cc)
  find_filter_by x xs false false a b h = h

  -- what is sought stands among what passes
  pub find_filter : (xs : List A) → find q (filter p xs) ≡ find q xs
  find_filter [] = refl
  find_filter (x ∷ xs) = find_filter_by x xs (p x) (q x) refl refl (find_filter xs)

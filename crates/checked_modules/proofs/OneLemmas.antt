-- Lists whose items stand one by one for one another.
use Rattle.std.proofs.Common.{◌≡◌, ◌∙◌, ◌<◌, ◌≤◌, ◌+◌, ◌++◌, ℕ, zero, suc, List, [], ◌∷◌, refl, sym, subst, ap, append_assoc, drop, get_or, length, map, arith}
use Rattle.typed_names.proofs.TypeExprs.NewNames.{drop_all}
use Rattle.typed_in_place.specs.ProgramsAlike.{OneByOne, no_more, and_more}
use Rattle.package_blocks.proofs.HeaderLemmas.{append_none}

module _ {A B : Type 0} (R : A → B → Type 0) where
  -- the item that stands for the one at a place
  pub record ItemAt (ys : List B) (i : ℕ) (x : A) : Type 0 where
    pub item : B
    pub left : drop i ys ≡ item ∷ drop (i + 1) ys
    pub is : R x item

  pub item_at :
      (xs : List A) (ys : List B) → OneByOne R xs ys → (i : ℕ) (x : A) → i < length xs → x ≡ get_or xs i x →
      ItemAt ys i x
  item_at _ _ no_more i x l e = absurd (omega (arith, l))
  item_at (a ∷ xs) (b ∷ ys) (and_more r rs) zero x l e =
      record { item = b; left = refl; is = subst (λ z. R z b) (sym e) r }
  item_at (a ∷ xs) (b ∷ ys) (and_more r rs) (suc i) x l e =
      let t = item_at xs ys rs i x (omega (arith, l)) e in
      let z : suc (i + 1) ≡ suc i + 1 = omega arith in
      record { item = t.item; left = t.left ∙ ap (λ k. t.item ∷ drop k (b ∷ ys)) z; is = t.is }

  pub same_length : (xs : List A) (ys : List B) → OneByOne R xs ys → length xs ≡ length ys
  same_length _ _ no_more = refl
  same_length (a ∷ xs) (b ∷ ys) (and_more r rs) = ap suc (same_length xs ys rs)

  -- behind the last there is none
  pub none_left :
      (xs : List A) (ys : List B) → OneByOne R xs ys → (i : ℕ) → length xs ≤ i → drop i ys ≡ []
  none_left xs ys rs i l = let e = same_length xs ys rs in drop_all ys i (omega (arith, l, e))

-- ---- items that are made one after the other

module _ {A B : Type 0} (f : A → B) where
  -- those that are made, with those that are left, are all
  abbrev pub Making : List A → ℕ → List B → Type 0
  Making xs i made = made ++ map f (drop i xs) ≡ map f xs

  pub making_one :
      (xs : List A) (i : ℕ) (x : A) (old new : List B) (y : B) → drop i xs ≡ x ∷ drop (i + 1) xs → y ≡ f x →
      new ≡ old ++ y ∷ [] → Making xs i old → Making xs (i + 1) new
  making_one xs i x old new y d e n m =
      ap (λ ys. ys ++ map f (drop (i + 1) xs)) n ∙ append_assoc old (y ∷ []) (map f (drop (i + 1) xs))
      ∙ ap (λ z. old ++ z ∷ map f (drop (i + 1) xs)) e
      ∙ ap (λ zs. old ++ map f zs) (sym d)
      ∙ m

  pub making_all : (xs : List A) (i : ℕ) (made : List B) → drop i xs ≡ [] → Making xs i made → made ≡ map f xs
  making_all xs i made d m = sym (append_none made) ∙ ap (λ zs. made ++ map f zs) (sym d) ∙ m

-- what holds of items that are made, whatever holds of those that are left, holds of all
module _ {A B : Type 0} (R : A → B → Type 0) where
  abbrev pub Gathering : List A → ℕ → List B → Type 0
  Gathering xs i made = (more : List B) → OneByOne R (drop i xs) more → OneByOne R xs (made ++ more)

  pub gathering_one :
      (xs : List A) (i : ℕ) (x : A) (old new : List B) (y : B) → drop i xs ≡ x ∷ drop (i + 1) xs → R x y →
      new ≡ old ++ y ∷ [] → Gathering xs i old → Gathering xs (i + 1) new
  gathering_one xs i x old new y d r n g =
      λ more rs.
      subst (OneByOne R xs) (sym (append_assoc old (y ∷ []) more) ∙ ap (λ ys. ys ++ more) (sym n))
      (g (y ∷ more) (subst (λ zs. OneByOne R zs (y ∷ more)) (sym d) (and_more r rs)))

  pub gathering_all :
      (xs : List A) (i : ℕ) (made : List B) → drop i xs ≡ [] → Gathering xs i made → OneByOne R xs made
  gathering_all xs i made d g =
      subst (OneByOne R xs) (append_none made) (g [] (subst (λ zs. OneByOne R zs []) (sym d) no_more))

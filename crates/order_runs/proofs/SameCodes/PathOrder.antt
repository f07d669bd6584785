-- Packages in the order of their paths, in whatever order they are put in their places.
use Rattle.std.proofs.Common.{◌≡◌, refl, sym, ◌∙◌, ℕ, Bool, true, false, not, List, [], ◌∷◌, if◌then◌else◌, arith}
use Rattle.std.specs.Prelude.{nat_eq, nat_lt}
use Rattle.std.proofs.lemmas.Bool.Decides.{nat_tests}
use Rattle.std.proofs.lemmas.Slice.Eq.{bytes_eq-Decides}
use Rattle.go_kernel.specs.Kernel.{Text, same_text}
use Rattle.go_translation.specs.Packages.{PackageCode, comes_first, inserted}
use Rattle.typed_in_place.proofs.SameWorlds.AtHome.{nat_same}

eq-back : (x y : ℕ) → nat_eq x y ≡ true → nat_eq y x ≡ true
eq-back x y e = grind (arith, nat_tests, e)

eq-apart : (x y : ℕ) → nat_eq x y ≡ false → nat_eq y x ≡ false
eq-apart x y e = grind (arith, nat_tests, e)

lt-other : (x y : ℕ) → nat_eq x y ≡ false → nat_lt x y ≡ not (nat_lt y x)
lt-other x y e = grind (arith, nat_tests, e)

lt-apart : (x y z : ℕ) → nat_lt x y ≡ true → nat_lt y z ≡ true → nat_eq x z ≡ false
lt-apart x y z e f = grind (arith, nat_tests, e, f)

lt-then : (x y z : ℕ) → nat_lt x y ≡ true → nat_lt y z ≡ true → nat_lt x z ≡ true
lt-then x y z e f = grind (arith, nat_tests, e, f)

-- ---- the order of texts

-- of two texts that differ one comes first
one-first : (a b : Text) → (a ≡ b → ⊥) → comes_first a b ≡ not (comes_first b a)
one-first [] [] d = absurd (d refl)
one-first [] (y ∷ ys) d = refl
one-first (x ∷ xs) [] d = refl
one-first (x ∷ xs) (y ∷ ys) d = by (λ h. one-first xs ys h) (nat_eq x y) refl (nat_eq y x) refl
  where
    by : ((xs ≡ ys → ⊥) → comes_first xs ys ≡ not (comes_first ys xs)) → (b : Bool) → nat_eq x y ≡ b → (c : Bool) → nat_eq y x ≡ c → (if b then comes_first xs ys else nat_lt x y) ≡ not (if c then comes_first ys xs else nat_lt y x)
    by i true e true f = i (λ h. d (λ z. nat_same x y e z ∷ h z))
    by i false e false f = lt-other x y e
    by i true e false f = let c : true ≡ false = sym (eq-back x y e) ∙ f in cc
    by i false e true f = let c : true ≡ false = sym (eq-back y x f) ∙ e in cc

first-then : (a b c : Text) → comes_first a b ≡ true → comes_first b c ≡ true → comes_first a c ≡ true
first-then [] b c e f = refl
first-then (x ∷ xs) [] c e f = cc
first-then (x ∷ xs) (y ∷ ys) [] e f = cc
first-then (x ∷ xs) (y ∷ ys) (z ∷ zs) e f = by (λ g h. first-then xs ys zs g h) (nat_eq x y) refl (nat_eq y z) refl (nat_eq x z) refl e f
  where
    by : (comes_first xs ys ≡ true → comes_first ys zs ≡ true → comes_first xs zs ≡ true) → (p : Bool) → nat_eq x y ≡ p → (q : Bool) → nat_eq y z ≡ q → (r : Bool) → nat_eq x z ≡ r → (if p then comes_first xs ys else nat_lt x y) ≡ true → (if q then comes_first ys zs else nat_lt y z) ≡ true → (if r then comes_first xs zs else nat_lt x z) ≡ true
    by i true g true h true k e f = i e f
    by i true g true h false k e f = let c : true ≡ false = sym h ∙ (λ v. nat_eq (sym (nat_same x y g) v) z) ∙ k in cc
    by i true g false h true k e f = let c : true ≡ false = sym k ∙ (λ v. nat_eq (nat_same x y g v) z) ∙ h in cc
    by i true g false h false k e f = (λ v. nat_lt (nat_same x y g v) z) ∙ f
    by i false g true h true k e f = let c : true ≡ false = sym k ∙ (λ v. nat_eq x (sym (nat_same y z h) v)) ∙ g in cc
    by i false g true h false k e f = (λ v. nat_lt x (sym (nat_same y z h) v)) ∙ e
    by i false g false h true k e f = let c : true ≡ false = sym k ∙ lt-apart x y z e f in cc
    by i false g false h false k e f = lt-then x y z e f

-- ---- put in their places

apart-texts : (a b : Text) → same_text a b ≡ false → a ≡ b → ⊥
apart-texts a b e h = let c : true ≡ false = sym ((bytes_eq-Decides a b).1 h) ∙ e in cc

module _ (c d : PackageCode) (apart : same_text c.path d.path ≡ false) where
  other : comes_first c.path d.path ≡ not (comes_first d.path c.path)
  other = one-first c.path d.path (apart-texts c.path d.path apart)

  two : (ds : List PackageCode) (a b : Bool) → a ≡ not b → (if a then c ∷ d ∷ ds else d ∷ c ∷ ds) ≡ (if b then d ∷ c ∷ ds else c ∷ d ∷ ds)
  two ds true true e = cc
  two ds true false e = refl
  two ds false true e = refl
  two ds false false e = cc

  -- of two with different paths it is the same which is put first
  pub inserted-both : (es : List PackageCode) → inserted c (inserted d es) ≡ inserted d (inserted c es)
  inserted-both [] = two [] (comes_first c.path d.path) (comes_first d.path c.path) other
  inserted-both (e ∷ es) = by (comes_first c.path e.path) refl (comes_first d.path e.path) refl (inserted-both es)
    where
      -- where c comes first, and e before d, d doesn't come before c
      not-before : (x y : PackageCode) → comes_first y.path e.path ≡ true → comes_first x.path e.path ≡ false → comes_first x.path y.path ≡ false
      not-before x y p q = go (comes_first x.path y.path) refl
        where
          go : (t : Bool) → comes_first x.path y.path ≡ t → t ≡ false
          go false r = refl
          go true r = sym (first-then x.path y.path e.path r p) ∙ q

      by : (p : Bool) → comes_first c.path e.path ≡ p → (q : Bool) → comes_first d.path e.path ≡ q → inserted c (inserted d es) ≡ inserted d (inserted c es)
          → inserted c (if q then d ∷ e ∷ es else e ∷ inserted d es) ≡ inserted d (if p then c ∷ e ∷ es else e ∷ inserted c es)
      by true g true h r =
          (λ v. if comes_first c.path d.path then c ∷ d ∷ e ∷ es else d ∷ (if g v then c ∷ e ∷ es else e ∷ inserted c es))
          ∙ two (e ∷ es) (comes_first c.path d.path) (comes_first d.path c.path) other
          ∙ (λ v. if comes_first d.path c.path then d ∷ c ∷ e ∷ es else c ∷ (if sym h v then d ∷ e ∷ es else e ∷ inserted d es))
      by true g false h r =
          (λ v. if g v then c ∷ e ∷ inserted d es else e ∷ inserted c (inserted d es))
          ∙ (λ v. if sym (not-before d c g h) v then d ∷ c ∷ e ∷ es else c ∷ (if sym h v then d ∷ e ∷ es else e ∷ inserted d es))
      by false g true h r =
          (λ v. if not-before c d h g v then c ∷ d ∷ e ∷ es else d ∷ (if g v then c ∷ e ∷ es else e ∷ inserted c es))
          ∙ (λ v. if sym h v then d ∷ e ∷ inserted c es else e ∷ inserted d (inserted c es))
      by false g false h r =
          (λ v. if g v then c ∷ e ∷ inserted d es else e ∷ inserted c (inserted d es))
          ∙ (λ v. e ∷ r v)
          ∙ (λ v. if sym h v then d ∷ e ∷ inserted c es else e ∷ inserted d (inserted c es))

-- Files that are placed in their packages, one after another.
use Rattle.std.proofs.Common.{◌≡◌, ◌∙◌, refl, sym, ap, ℕ, zero, suc, ◌+◌, ◌<◌, ◌≤◌, ◌⊎◌, inl, inr, Bool, true, false, ◌&&◌, nat_eq, nat_lt, List, [], ◌∷◌, ◌++◌, length, drop, get_or, map, arith, eq-eqb, slice_set, append_assoc, append-nil}
use Rattle.std.specs.Prelude.{if◌then◌else◌}
use Rattle.std.specs.List.{list_all}
use Rattle.std.proofs.lemmas.Bool.{eqb-true, eqb-false}
use Rattle.std.proofs.lemmas.Bool.Decides.{nat_tests}
use Rattle.std.proofs.lemmas.List.{length-set}
use Rattle.module_texts.specs.declared.files.ScannedFile.{ScannedFile}
use Rattle.programs.specs.declared.state.PackageFiles.{PackageFiles}
use Rattle.programs.specs.TextsOfPackages.Given.{given_to, kept_at, ArePlaced, HaveNone}

nat_cases : (j k : ℕ) → (j ≡ k) ⊎ (j ≡ k → ⊥)
nat_cases j k = by (nat_eq j k) refl
  where
    by : (b : Bool) → nat_eq j k ≡ b → (j ≡ k) ⊎ (j ≡ k → ⊥)
    by true e = inl (eqb-true j k e)
    by false e = inr (eqb-false j k e)

unequal : (j k : ℕ) → (j ≡ k → ⊥) → nat_eq j k ≡ false
unequal j k n = by (nat_eq j k) refl
  where
    by : (b : Bool) → nat_eq j k ≡ b → nat_eq j k ≡ false
    by false e = e
    by true e = absurd (n (eqb-true j k e))

both : (a b : Bool) → (a && b) ≡ true → (a ≡ true) × (b ≡ true)
both true b h = (refl, h)
both false b h = absurd cc

length_pushed : {A : Type 0} (xs : List A) (x : A) → length (xs ++ x ∷ []) ≡ length xs + 1
length_pushed [] x = refl
length_pushed (y ∷ xs) x = let h = length_pushed xs x in omega (arith, h)

-- ---- those that are left

first_given : (k : ℕ) (ns : List ℕ) (i n : ℕ) (s : ScannedFile) (ss : List ScannedFile) → i < length ns → n ≡ get_or ns i 0
    → given_to k (drop i ns) (s ∷ ss) ≡ (if nat_eq n k then s ∷ given_to k (drop (suc i) ns) ss else given_to k (drop (suc i) ns) ss)
first_given k [] i n s ss h e = absurd (omega (arith, h))
first_given k (m ∷ ns) zero n s ss h e =
    ap (λ (x : ℕ). if nat_eq x k then s ∷ given_to k ns ss else given_to k ns ss) (sym e)
first_given k (m ∷ ns) (suc i) n s ss h e = first_given k ns i n s ss (omega (arith, h)) e

-- ---- a part of what is kept

module _ {A : Type 0} (part : PackageFiles → List A) (g : ScannedFile → A) where
  set_same : (ks : List PackageFiles) (n : ℕ) (y : PackageFiles) → n < length ks → kept_at part (slice_set ks n y) n ≡ part y
  set_same [] n y h = absurd (omega (arith, h))
  set_same (x ∷ ks) zero y h = refl
  set_same (x ∷ ks) (suc n) y h = set_same ks n y (omega (arith, h))

  set_else : (ks : List PackageFiles) (n k : ℕ) (y : PackageFiles) → (k ≡ n → ⊥) → kept_at part (slice_set ks n y) k ≡ kept_at part ks k
  set_else [] n k y h = refl
  set_else (x ∷ ks) zero zero y h = absurd (h refl)
  set_else (x ∷ ks) zero (suc k) y h = refl
  set_else (x ∷ ks) (suc n) zero y h = refl
  set_else (x ∷ ks) (suc n) (suc k) y h = set_else ks n k y (λ e. h (ap suc e))

  kept_here : (ks : List PackageFiles) (n : ℕ) (x : PackageFiles) → n < length ks → x ≡ get_or ks n x → kept_at part ks n ≡ part x
  kept_here [] n x h e = absurd (omega (arith, h))
  kept_here (y ∷ ks) zero x h e = ap part (sym e)
  kept_here (y ∷ ks) (suc n) x h e = kept_here ks n x (omega (arith, h)) e

  -- of each package what is kept and what is left to come
  abbrev pub Gives : List ℕ → (ℕ → List A) → List PackageFiles → ℕ → List ScannedFile → Type 0
  Gives ns all ks i ss = (k : ℕ) → kept_at part ks k ++ map g (given_to k (drop i ns) ss) ≡ all k

  abbrev left_of : ℕ → List ℕ → ℕ → List ScannedFile → List ScannedFile
  left_of k ns i ss = given_to k (drop (suc i) ns) ss

  abbrev comes : ℕ → List ℕ → ℕ → ScannedFile → List ScannedFile → Bool → List A
  comes k ns i s ss b = map g (if b then s ∷ left_of k ns i ss else left_of k ns i ss)

  pub gives_on : (ns : List ℕ) (all : ℕ → List A) (ks : List PackageFiles) (i n : ℕ) (x y : PackageFiles) (s : ScannedFile) (ss : List ScannedFile) → n < length ks
      → x ≡ get_or ks n x → part y ≡ part x ++ g s ∷ [] → i < length ns → n ≡ get_or ns i 0 → Gives ns all ks i (s ∷ ss) → Gives ns all (slice_set ks n y) (i + 1) ss
  gives_on ns all ks i n x y s ss h is more l at a k =
      ap (λ (j : ℕ). kept_at part (slice_set ks n y) k ++ map g (given_to k (drop j ns) ss)) one ∙ by (nat_cases k n)
    where
      one : i + 1 ≡ suc i
      one = omega arith

      by : (k ≡ n) ⊎ (k ≡ n → ⊥) → kept_at part (slice_set ks n y) k ++ map g (left_of k ns i ss) ≡ all k
      by (inl e) =
          ap (λ (xs : List A). xs ++ map g (left_of k ns i ss))
          (ap (λ (j : ℕ). kept_at part (slice_set ks n y) j) e ∙ set_same ks n y h ∙ more ∙ ap (λ (xs : List A). xs ++ g s ∷ []) (sym (kept_here ks n x h is) ∙ ap (kept_at part ks) (sym e)))
          ∙ append_assoc (kept_at part ks k) (g s ∷ []) (map g (left_of k ns i ss))
          ∙ sym (ap (λ (xs : List ScannedFile). kept_at part ks k ++ map g xs) (first_given k ns i n s ss l at)
          ∙ ap (λ (b : Bool). kept_at part ks k ++ comes k ns i s ss b) (eq-eqb n k (sym e)))
          ∙ a k
      by (inr e) =
          ap (λ (xs : List A). xs ++ map g (left_of k ns i ss)) (set_else ks n k y e)
          ∙ sym (ap (λ (xs : List ScannedFile). kept_at part ks k ++ map g xs) (first_given k ns i n s ss l at)
          ∙ ap (λ (b : Bool). kept_at part ks k ++ comes k ns i s ss b) (unequal n k (λ q. e (sym q))))
          ∙ a k

  none_given : (k : ℕ) (ns : List ℕ) → given_to k ns [] ≡ []
  none_given k [] = refl
  none_given k (n ∷ ns) = refl

  -- no file is left
  pub no_more_files : (ns : List ℕ) (all : ℕ → List A) (ks : List PackageFiles) (i : ℕ) → Gives ns all ks i [] → (k : ℕ) → kept_at part ks k ≡ all k
  no_more_files ns all ks i a k =
      sym (ap (λ (xs : List ScannedFile). kept_at part ks k ++ map g xs) (none_given k (drop i ns)) ∙ append-nil (kept_at part ks k)) ∙ a k

  all_dropped : (k : ℕ) (ns : List ℕ) (i : ℕ) (ss : List ScannedFile) → length ns ≤ i → given_to k (drop i ns) ss ≡ []
  all_dropped k [] zero ss h = refl
  all_dropped k [] (suc i) ss h = refl
  all_dropped k (n ∷ ns) zero ss h = absurd (omega (arith, h))
  all_dropped k (n ∷ ns) (suc i) ss h = all_dropped k ns i ss (omega (arith, h))

  -- no number is left
  pub no_more_numbers : (ns : List ℕ) (all : ℕ → List A) (ks : List PackageFiles) (i : ℕ) (ss : List ScannedFile) → length ns ≤ i → Gives ns all ks i ss → (k : ℕ) → kept_at part ks k ≡ all k
  no_more_numbers ns all ks i ss h a k =
      sym (ap (λ (xs : List ScannedFile). kept_at part ks k ++ map g xs) (all_dropped k ns i ss h) ∙ append-nil (kept_at part ks k)) ∙ a k

-- ---- all parts

module _ (ns : List ℕ) (files : List ScannedFile) (old : List PackageFiles) where
  -- so far
  pub record Places (ks : List PackageFiles) (i : ℕ) (ss : List ScannedFile) : Type 0 where
    pub size : length ks ≡ length old
    pub texts : Gives (λ f. f.texts.items) (λ s. s.file.now.bytes) ns (λ k. kept_at (λ f. f.texts.items) old k ++ map (λ s. s.file.now.bytes) (given_to k ns files)) ks i ss
    pub tokens : Gives (λ f. f.tokens.items) (λ s. s.tokens) ns (λ k. kept_at (λ f. f.tokens.items) old k ++ map (λ s. s.tokens) (given_to k ns files)) ks i ss
    pub flags : Gives (λ f. f.settled.items) (λ s. false) ns (λ k. kept_at (λ f. f.settled.items) old k ++ map (λ s. false) (given_to k ns files)) ks i ss

  pub none_placed : Places old 0 files
  none_placed = record { size = refl; texts = λ k. refl; tokens = λ k. refl; flags = λ k. refl }

  pub one_placed : (ks : List PackageFiles) (i n : ℕ) (x y : PackageFiles) (s : ScannedFile) (ss : List ScannedFile) → n < length ks → x ≡ get_or ks n x → i < length ns → n ≡ get_or ns i 0
      → y.texts.items ≡ x.texts.items ++ s.file.now.bytes ∷ [] → y.tokens.items ≡ x.tokens.items ++ s.tokens ∷ [] → y.settled.items ≡ x.settled.items ++ false ∷ []
      → Places ks i (s ∷ ss) → Places (slice_set ks n y) (i + 1) ss
  one_placed ks i n x y s ss h is l at texts tokens flags p =
      record {
        size = length-set ks n y ∙ p.size;
        texts = gives_on (λ f. f.texts.items) (λ s. s.file.now.bytes) ns _ ks i n x y s ss h is texts l at p.texts;
        tokens = gives_on (λ f. f.tokens.items) (λ s. s.tokens) ns _ ks i n x y s ss h is tokens l at p.tokens;
        flags = gives_on (λ f. f.settled.items) (λ s. false) ns _ ks i n x y s ss h is flags l at p.flags;
      }

  pub placed_files : (ks : List PackageFiles) (i : ℕ) → Places ks i [] → ArePlaced ns files old ks
  placed_files ks i p =
      record {
        size = p.size;
        texts = no_more_files (λ f. f.texts.items) (λ s. s.file.now.bytes) ns _ ks i p.texts;
        tokens = no_more_files (λ f. f.tokens.items) (λ s. s.tokens) ns _ ks i p.tokens;
        flags = no_more_files (λ f. f.settled.items) (λ s. false) ns _ ks i p.flags;
      }

  pub placed_numbers : (ks : List PackageFiles) (i : ℕ) (ss : List ScannedFile) → length ns ≤ i → Places ks i ss → ArePlaced ns files old ks
  placed_numbers ks i ss h p =
      record {
        size = p.size;
        texts = no_more_numbers (λ f. f.texts.items) (λ s. s.file.now.bytes) ns _ ks i ss h p.texts;
        tokens = no_more_numbers (λ f. f.tokens.items) (λ s. s.tokens) ns _ ks i ss h p.tokens;
        flags = no_more_numbers (λ f. f.settled.items) (λ s. false) ns _ ks i ss h p.flags;
      }

-- ---- no files

module _ {A : Type 0} (part : PackageFiles → List A) where
  none_at : (ks : List PackageFiles) (y : PackageFiles) (k : ℕ) → part y ≡ [] → kept_at part ks k ≡ [] → kept_at part (ks ++ y ∷ []) k ≡ []
  none_at [] y zero e h = e
  none_at [] y (suc k) e h = refl
  none_at (x ∷ ks) y zero e h = h
  none_at (x ∷ ks) y (suc k) e h = none_at ks y k e h

pub one_without : (n : ℕ) (ks : List PackageFiles) (y : PackageFiles) → y.texts.items ≡ [] → y.tokens.items ≡ [] → y.settled.items ≡ [] → HaveNone n ks → HaveNone (n + 1) (ks ++ y ∷ [])
one_without n ks y t u f h =
    record {
      size = length_pushed ks y ∙ ap (λ (m : ℕ). m + 1) h.size;
      texts = λ k. none_at (λ f. f.texts.items) ks y k t (h.texts k);
      tokens = λ k. none_at (λ f. f.tokens.items) ks y k u (h.tokens k);
      flags = λ k. none_at (λ f. f.settled.items) ks y k f (h.flags k);
    }

pub none_without : HaveNone 0 []
none_without = record { size = refl; texts = λ k. refl; tokens = λ k. refl; flags = λ k. refl }

-- ---- numbers below a bound

pub all_below : (count : ℕ) (ns : List ℕ) (k d : ℕ) → list_all (λ n. nat_lt n count) ns ≡ true → k < length ns → get_or ns k d < count
all_below count [] k d h l = absurd (omega (arith, l))
all_below count (n ∷ ns) zero d h l = let e : nat_lt n count ≡ true = (both (nat_lt n count) (list_all (λ n. nat_lt n count) ns) h).0 in grind (arith, nat_tests, e)
all_below count (n ∷ ns) (suc k) d h l = all_below count ns k d (both (nat_lt n count) (list_all (λ n. nat_lt n count) ns) h).1 (omega (arith, l))

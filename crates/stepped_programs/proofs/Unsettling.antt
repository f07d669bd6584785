-- Flags that are taken back, one after another.
use Rattle.std.proofs.Common.{◌≡◌, ◌∙◌, ◌⊎◌, inl, inr, refl, sym, ap, subst, ℕ, zero, suc, ◌+◌, ◌<◌, ◌≤◌, Bool, true, false, not, ◌&&◌, List, [], ◌∷◌, length, Some, arith, slice_set}
use Rattle.std.specs.Prelude.{slice_get}
use Rattle.std.specs.Vec.{with_items}
use Rattle.std.proofs.lemmas.List.{length-set, with_items_is, get_or-set_same, get_or-set_other}
use Rattle.std.proofs.lemmas.Option.{same_Some, slice_get_within}
use Rattle.repeated_parts.specs.UseSearch.MarkValues.Tables.{DeclKey}
use Rattle.stepped_programs.specs.PackageSearch.Search.{is_settled}
use Rattle.programs.specs.Users.{Known, is_user}
use Rattle.programs.specs.declared.state.PackageFiles.{PackageFiles}
use Rattle.stepped_programs.proofs.SearchedSites.KeptPrograms.Kept.{set_here, set_else, nat_cases}
use Rattle.stepped_programs.specs.Flags.{IsLeftSettled, AreLeftSettled, IsUnsettled, AreUnsettled}

below : (i n : ℕ) → (i < n) ⊎ (n ≤ i)
below i zero = inr (omega arith)
below zero (suc n) = inl (omega arith)
below (suc i) (suc n) = by (below i n)
  where
    by : (i < n) ⊎ (n ≤ i) → (suc i < suc n) ⊎ (suc n ≤ suc i)
    by (inl h) = inl (omega (arith, h))
    by (inr h) = inr (omega (arith, h))

beyond : (flags : List Bool) (i : ℕ) → length flags ≤ i → is_settled flags i ≡ false
beyond [] i h = refl
beyond (b ∷ flags) zero h = absurd (omega (arith, h))
beyond (b ∷ flags) (suc i) h = beyond flags i (omega (arith, h))

module _ (users : Known) (d : DeclKey) (k : ℕ) where
  -- one flag
  pub used_here : (flags : List Bool) (i : ℕ) → i < length flags → is_user users d (k, i) ≡ true → IsLeftSettled users d k i flags (slice_set flags i false)
  used_here flags i h u =
      record {
        size = length-set flags i false;
        here =
            get_or-set_same flags i false false h
            ∙ sym (ap (λ (b : Bool). is_settled flags i && not b) u ∙ none (is_settled flags i));
        others = λ j differ. get_or-set_other flags i j false false differ;
      }
    where
      none : (b : Bool) → (b && false) ≡ false
      none true = refl
      none false = refl

  pub not_used : (flags : List Bool) (i : ℕ) → is_user users d (k, i) ≡ false → IsLeftSettled users d k i flags flags
  not_used flags i u =
      record { size = refl; here = sym (ap (λ (b : Bool). is_settled flags i && not b) u ∙ itself (is_settled flags i)); others = λ j differ. refl }
    where
      itself : (b : Bool) → (b && true) ≡ b
      itself true = refl
      itself false = refl

  -- those before a number
  pub record SoFar (old : List Bool) (n : ℕ) (now : List Bool) : Type 0 where
    pub size : length now ≡ length old
    pub before : (i : ℕ) → i < n → is_settled now i ≡ (is_settled old i && not (is_user users d (k, i)))
    pub behind : (i : ℕ) → n ≤ i → is_settled now i ≡ is_settled old i

  pub none_so_far : (flags : List Bool) → SoFar flags 0 flags
  none_so_far flags = record { size = refl; before = λ i h. absurd (omega (arith, h)); behind = λ i h. refl }

  pub one_more : (old was now : List Bool) (n : ℕ) → IsLeftSettled users d k n was now → SoFar old n was → SoFar old (n + 1) now
  one_more old was now n step s =
      record {
        size = step.size ∙ s.size;
        before = λ i h. at i h (nat_cases i n);
        behind = λ i h. step.others i (λ e. absurd (omega (arith, h, e))) ∙ s.behind i (omega (arith, h));
      }
    where
      at : (i : ℕ) → i < n + 1 → (i ≡ n) ⊎ (i ≡ n → ⊥) → is_settled now i ≡ (is_settled old i && not (is_user users d (k, i)))
      at i h (inl e) =
          subst (λ (j : ℕ). is_settled now j ≡ (is_settled old j && not (is_user users d (k, j)))) (sym e)
          (step.here ∙ ap (λ (b : Bool). b && not (is_user users d (k, n))) (s.behind n (omega arith)))
      at i h (inr ne) = step.others i ne ∙ s.before i (omega (arith, h, ne))

  pub all_flags : (old now : List Bool) (n : ℕ) → length now ≤ n → SoFar old n now → AreLeftSettled users d k old now
  all_flags old now n h s = record { size = s.size; each = λ i. at i (below i n) }
    where
      at : (i : ℕ) → (i < n) ⊎ (n ≤ i) → is_settled now i ≡ (is_settled old i && not (is_user users d (k, i)))
      at i (inl l) = s.before i l
      at i (inr l) =
          let off : is_settled now i ≡ false = beyond now i (omega (arith, h, l)) in
          off ∙ ap (λ (b : Bool). b && not (is_user users d (k, i))) (sym (sym (s.behind i l) ∙ off))

  -- the flags of a package
  pub flags_put : (was : PackageFiles) (old new : List Bool) → old ≡ was.settled.items → AreLeftSettled users d k old new → IsUnsettled users d k was (record was { settled = with_items was.settled new })
  flags_put was old new e a =
      let flags : (with_items was.settled new).items ≡ new = with_items_is was.settled new (a.size ∙ ap length e ∙ sym was.settled.ok.0) in
      record {
        texts = refl;
        tokens = refl;
        flags =
            subst (λ (bs : List Bool). AreLeftSettled users d k was.settled.items bs) (sym flags)
            (subst (λ (bs : List Bool). AreLeftSettled users d k bs new) e a);
      }

-- ---- packages

module _ (users : Known) (d : DeclKey) where
  -- those before a number
  pub record SoMany (old : List PackageFiles) (n : ℕ) (cur : List PackageFiles) : Type 0 where
    pub size : length cur ≡ length old
    pub before : (j : ℕ) (was now : PackageFiles) → j < n → slice_get old j ≡ Some was → slice_get cur j ≡ Some now → IsUnsettled users d j was now
    pub behind : (j : ℕ) → n ≤ j → slice_get cur j ≡ slice_get old j

  pub none_so_many : (files : List PackageFiles) → SoMany files 0 files
  none_so_many files = record { size = refl; before = λ j was now h. absurd (omega (arith, h)); behind = λ j h. refl }

  pub one_package : (old cur new : List PackageFiles) (n : ℕ) (x y : PackageFiles) → slice_get cur n ≡ Some x → new ≡ slice_set cur n y → IsUnsettled users d n x y → SoMany old n cur → SoMany old (n + 1) new
  one_package old cur new n x y there put u s =
      record {
        size = ap length put ∙ length-set cur n y ∙ s.size;
        before = λ j was now h e f. at j was now h e f (nat_cases j n);
        behind = λ j h. ap (λ (ks : List PackageFiles). slice_get ks j) put ∙ set_else cur n j y (λ e. absurd (omega (arith, h, e))) ∙ s.behind j (omega (arith, h));
      }
    where
      at : (j : ℕ) (was now : PackageFiles) → j < n + 1 → slice_get old j ≡ Some was → slice_get new j ≡ Some now → (j ≡ n) ⊎ (j ≡ n → ⊥) → IsUnsettled users d j was now
      at j was now h e f (inl q) =
          let x_is : x ≡ was = same_Some x was (sym there ∙ s.behind n (omega arith) ∙ ap (slice_get old) (sym q) ∙ e) in
          let y_is : y ≡ now = same_Some y now (sym (set_here cur n y (slice_get_within cur n x there)) ∙ ap (λ (ks : List PackageFiles). slice_get ks n) (sym put) ∙ ap (slice_get new) (sym q) ∙ f) in
          subst (λ (i : ℕ). IsUnsettled users d i was now) (sym q)
          (subst (λ (z : PackageFiles). IsUnsettled users d n z now) x_is (subst (λ (z : PackageFiles). IsUnsettled users d n x z) y_is u))
      at j was now h e f (inr ne) =
          s.before j was now (omega (arith, h, ne)) e (sym (set_else cur n j y ne) ∙ ap (λ (ks : List PackageFiles). slice_get ks j) (sym put) ∙ f)

  pub all_packages : (old cur : List PackageFiles) (n : ℕ) → length cur ≤ n → SoMany old n cur → AreUnsettled users d old cur
  all_packages old cur n h s =
      record {
        size = s.size;
        each = λ j was now e f. s.before j was now (let l : j < length cur = slice_get_within cur j now f in omega (arith, h, l)) e f;
      }

-- Files that are settled, one after another, with who uses what.
use Rattle.std.proofs.Common.{◌≡◌, ◌∙◌, refl, sym, ap, subst, ℕ, ◌<◌, Bool, true, false, nat_eq, ◌⊎◌, inl, inr, List, length, slice_set}
use Rattle.std.proofs.lemmas.Bool.{eqb-true, eqb-false}
use Rattle.std.proofs.lemmas.List.{length-set, get_or-set_same, get_or-set_other}
use Rattle.go_scan.specs.TokenLists.{TokenLists}
use Rattle.pkg_graph.specs.declared.packages.Package.{Package}
use Rattle.stepped_programs.specs.declared.package_search.looks.ProgramSources.{ProgramSources}
use Rattle.stepped_programs.specs.PackageSearch.Search.{is_settled}
use Rattle.programs.specs.Users.{Known}
use Rattle.stepped_programs.specs.PackageSearch.SearchedPrograms.Search.{Keeps, HasNoneOf, AreSettledFor}
use Rattle.stepped_programs.proofs.PackageSearch.SearchedPrograms.Users.{uses_stay}

nat_cases : (j k : ℕ) → (j ≡ k) ⊎ (j ≡ k → ⊥)
nat_cases j k = by (nat_eq j k) refl
  where
    by : (b : Bool) → nat_eq j k ≡ b → (j ≡ k) ⊎ (j ≡ k → ⊥)
    by true e = inl (eqb-true j k e)
    by false e = inr (eqb-false j k e)

module _ (s : ProgramSources) (number : ℕ) (home : Package) (tokens : List TokenLists) where
  abbrev None_ : Known → ℕ → Type 0
  None_ users i = HasNoneOf s number home tokens users i

  abbrev Settles : Known → List Bool → List Bool → Type 0
  Settles users old new = AreSettledFor s number home tokens users old new

  none_stays : (was now : Known) (i : ℕ) → Keeps was now → None_ was i → None_ now i
  none_stays was now i k h = record { seen = h.seen; look = h.look; none_free = h.none_free; used = uses_stay was now (number, i) h.seen.kept.items k h.used }

  pub same_settled : (users : Known) (flags : List Bool) → Settles users flags flags
  same_settled users flags = record { size = refl; stay = λ i h. h; come = λ i h. inl h }

  -- one more
  pub one_settled : (was now : Known) (old before after : List Bool) (n : ℕ) → n < length before → after ≡ slice_set before n true → Keeps was now → None_ now n
      → Settles was old before → Settles now old after
  one_settled was now old before after n h e k none a =
      record {
        size = ap length e ∙ length-set before n true ∙ a.size;
        stay = λ i f. at i (nat_cases i n) (a.stay i f);
        come = λ i f. from i (nat_cases i n) f;
      }
    where
      at : (i : ℕ) → (i ≡ n) ⊎ (i ≡ n → ⊥) → is_settled before i ≡ true → is_settled after i ≡ true
      at i (inl q) f = ap (λ (fs : List Bool). is_settled fs i) e ∙ ap (λ (j : ℕ). is_settled (slice_set before n true) j) q ∙ get_or-set_same before n true false h
      at i (inr q) f = ap (λ (fs : List Bool). is_settled fs i) e ∙ get_or-set_other before n i true false q ∙ f

      kept : (i : ℕ) → (is_settled old i ≡ true) ⊎ None_ was i → (is_settled old i ≡ true) ⊎ None_ now i
      kept i (inl f) = inl f
      kept i (inr x) = inr (none_stays was now i k x)

      from : (i : ℕ) → (i ≡ n) ⊎ (i ≡ n → ⊥) → is_settled after i ≡ true → (is_settled old i ≡ true) ⊎ None_ now i
      from i (inl q) f = inr (subst (λ (j : ℕ). None_ now j) (sym q) none)
      from i (inr q) f = kept i (a.come i (sym (ap (λ (fs : List Bool). is_settled fs i) e ∙ get_or-set_other before n i true false q) ∙ f))

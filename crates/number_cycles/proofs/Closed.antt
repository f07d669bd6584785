-- Links that close a cycle over an owner.
use Rattle.std.proofs.Common.{◌≡◌, ◌⊎◌, inl, inr, ℕ, true, List, Option, sym, subst}
use Rattle.pkg_graph.specs.ImportOrder.Numbers.{Reaches, is_among, row, straight, over}
use Rattle.pkg_graph.proofs.ImportOrder.WalkLaws.{reaches_more}
use Rattle.number_cycles.specs.Owners.{IsFrom, AreBack, AreOwned, AreOwnedBack, Meets}

module _ (links : List (List ℕ)) where
  joined : (i j k : ℕ) → Reaches links i j → Reaches links j k → Reaches links i k
  joined _ _ k (straight i j e) r = over i j k e r
  joined _ _ k (over i m j e q) r = over i m k e (joined m j k q r)

  -- the other way round
  turned : (rows : List (List ℕ)) → AreBack links rows → (i j : ℕ) → Reaches rows i j → Reaches links j i
  turned rows b _ _ (straight i j e) = straight j i (b i j e)
  turned rows b _ _ (over i k j e r) = reaches_more links j k i (turned rows b k j r) (b i k e)

  pub owned_back : (rows : List (List ℕ)) (owners : List (Option ℕ)) → AreBack links rows → AreOwned rows owners → AreOwnedBack links owners
  owned_back rows owners b a = λ m root e. by m root (a m root e)
    where
      by : (m root : ℕ) → IsFrom rows root m → (m ≡ root) ⊎ Reaches links m root
      by m root (inl e) = inl (sym e)
      by m root (inr r) = inr (turned rows b root m r)

  to_owner : (m root k : ℕ) → (m ≡ root) ⊎ Reaches links m root → Reaches links root k → Reaches links m k
  to_owner m root k (inl e) r = subst (λ (i : ℕ). Reaches links i k) (sym e) r
  to_owner m root k (inr q) r = joined m root k q r

  -- a link to a number from which links lead to the owner of this one
  pub closed : (k m : ℕ) (backs fronts : List (Option ℕ)) → is_among (row links k) m ≡ true → AreOwnedBack links backs → AreOwned links fronts → Meets backs fronts m k → Reaches links k k
  closed k m backs fronts e b f h = by (f k h.root h.front) (b m h.root h.back)
    where
      by : IsFrom links h.root k → (m ≡ h.root) ⊎ Reaches links m h.root → Reaches links k k
      by (inr r) q = over k m k e (to_owner m h.root k q r)
      by (inl s) (inr q) = over k m k e (subst (λ (i : ℕ). Reaches links m i) s q)
      by (inl s) (inl q) = straight k k (subst (λ (i : ℕ). is_among (row links k) i ≡ true) s (subst (λ (i : ℕ). is_among (row links k) i ≡ true) q e))

  -- a link to itself
  pub closed_here : (k m : ℕ) → is_among (row links k) m ≡ true → m ≡ k → Reaches links k k
  closed_here k m e s = straight k k (subst (λ (i : ℕ). is_among (row links k) i ≡ true) s e)

-- Chains of marked functions are chains of links.
use Rattle.std.proofs.Common.{◌≡◌, ◌∙◌, ◌<◌, ◌↔◌, ℕ, zero, suc, length, arith, true, List, [], ◌∷◌, Option, Some, None, refl, sym, ap, subst, slice_get}
use Rattle.std.proofs.lemmas.Option.{same_Some}
use Rattle.pkg_graph.specs.Package.{Package}
use Rattle.pkg_graph.specs.ImportOrder.Numbers.{is_among, row, Reaches, straight, over}
use Rattle.run_rules.specs.Cycles.{Chain, last_link, more_links, LeadsTo, leads_to, is_recursive}
use Rattle.run_rules.specs.Sites.{MarkRef, is_among_marks}
use Rattle.run_rules.proofs.CyclesFound.{recursive_is}
use Rattle.mark_graphs.specs.Numbers.{AreLinksOf}

-- a number within a list has an item
item_at : (fs : List MarkRef) (k : ℕ) → k < length fs → (m : MarkRef) × (slice_get fs k ≡ Some m)
item_at [] k h = absurd (omega (arith, h))
item_at (f ∷ fs) zero h = (f, refl)
item_at (f ∷ fs) (suc k) h = item_at fs k (omega (arith, h))

module _ {S : Type 0} (ps : List (Package S)) (marks functions : List MarkRef) (links : List (List ℕ)) (a : AreLinksOf ps marks functions links) where
  -- a chain of functions gives links
  reached : (m n : MarkRef) → Chain (LeadsTo ps marks) m n → (k j : ℕ) → slice_get functions k ≡ Some m → slice_get functions j ≡ Some n → Reaches links k j
  reached _ _ (last_link m n h) k j e f = straight k j (a.linked k j m n e f ∙ h)
  reached _ _ (more_links m b n h r) k j e f =
      let next : (i : ℕ) × (slice_get functions i ≡ Some b) = a.listed k m b e h in
      over k next.0 j (a.linked k next.0 m b e next.1 ∙ h) (reached b n r next.0 j next.1 f)

  -- links give a chain of functions
  chained : (k j : ℕ) → Reaches links k j → (m n : MarkRef) → slice_get functions k ≡ Some m → slice_get functions j ≡ Some n → Chain (LeadsTo ps marks) m n
  chained _ _ (straight k j h) m n e f = last_link m n (sym (a.linked k j m n e f) ∙ h)
  chained _ _ (over k i j h r) m n e f =
      let next : (b : MarkRef) × (slice_get functions i ≡ Some b) = item_at functions i (subst (λ (s : ℕ). i < s) a.size (a.within k i h)) in
      more_links m next.0 n (sym (a.linked k i m next.0 e next.1) ∙ h) (chained i j r next.0 n next.1 f)

  pub recursive_reach : (k : ℕ) (m : MarkRef) → slice_get functions k ≡ Some m → (is_recursive ps marks m ≡ true) ↔ Reaches links k k
  recursive_reach k m e =
      let found : (is_recursive ps marks m ≡ true) ↔ Chain (LeadsTo ps marks) m m = recursive_is ps marks m in
      (λ h. reached m m (found.0 h) k k e e, λ h. found.1 (chained k k h m m e e))

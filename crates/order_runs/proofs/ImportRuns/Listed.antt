-- Packages in dependency order stand under their numbers; so two such lists with the same numbers stand one by one.
use Rattle.std.proofs.Common.{◌≡◌, refl, sym, ◌∙◌, subst, ℕ, zero, suc, ◌+◌, ◌==◌, Bool, true, false, ◌||◌, List, [], ◌∷◌, ◌++◌, length, Option, Some, None, if◌then◌else◌, arith}
use Rattle.std.specs.Prelude.{nat_eq, slice_get}
use Rattle.std.specs.List.{list_any}
use Rattle.std.proofs.lemmas.Option.{same_Some}
use Rattle.typed_in_place.proofs.SameWorlds.AtHome.{nat_same}
use Rattle.pkg_graph.specs.ModuleFiles.Pieces.{comes_before}
use Rattle.pkg_graph.specs.Package.{Package}
use Rattle.run_rules.specs.Programs.{numbered_from, numbered, is_ready, lesser, least_ready, ordered_after, in_dependency_order, numbers_of, dependency_order}
use Rattle.typed_in_place.specs.ProgramsAlike.{OneByOne, no_more, and_more}
use Rattle.order_runs.proofs.CycleRuns.StepCycles.AlikeStay.{OptionBy, neither, each, get-by}
use Rattle.order_runs.proofs.RunSteps.SeatedUses.{Among, first, later}

module _ {S : Type 0} (ps : List (Package S)) where
  -- each of them stands under its number
  abbrev pub AllListed : List (ℕ × Package S) → Type 0
  AllListed [] = Unit {0}
  AllListed (q ∷ qs) = (slice_get ps q.0 ≡ Some q.1) × AllListed qs

  abbrev OptionListed : Option (ℕ × Package S) → Type 0
  OptionListed None = Unit {0}
  OptionListed (Some q) = slice_get ps q.0 ≡ Some q.1

  numbered-so : (k : ℕ) (xs : List (Package S)) → ((i n : ℕ) (x : Package S) → slice_get xs i ≡ Some x → n ≡ k + i → slice_get ps n ≡ Some x) → AllListed (numbered_from k xs)
  numbered-so k [] f = tt
  numbered-so k (x ∷ xs) f = (f 0 k x refl (omega arith), numbered-so (suc k) xs (λ i n y e m. f (suc i) n y e (omega (arith, m))))

  all-numbered : AllListed (numbered ps)
  all-numbered = numbered-so 0 ps (λ i n x e m. subst (λ (j : ℕ). slice_get ps j ≡ Some x) (sym (omega (arith, m))) e)

  least-listed : (placed : List ℕ) (xs : List (ℕ × Package S)) → AllListed xs → OptionListed (least_ready ps placed xs)
  least-listed placed [] f = tt
  least-listed placed (x ∷ xs) f = by (is_ready ps placed x) (least_ready ps placed xs) (least-listed placed xs f.1)
    where
      of-two : (q : ℕ × Package S) (b : Bool) → OptionListed (Some q) → OptionListed (if b then Some q else Some x)
      of-two q true g = g
      of-two q false g = f.0

      by : (b : Bool) (o : Option (ℕ × Package S)) → OptionListed o → OptionListed (if b then lesser x o else o)
      by false o g = g
      by true None g = f.0
      by true (Some q) g = of-two q (comes_before q.1.path x.1.path) g

  ordered-listed : (n : ℕ) (placed : List ℕ) → AllListed (ordered_after ps n placed)
  ordered-listed zero placed = tt
  ordered-listed (suc n) placed = by (ordered-listed n) (least_ready ps placed (numbered ps)) (least-listed placed (numbered ps) all-numbered)
    where
      by : ((more : List ℕ) → AllListed (ordered_after ps n more)) → (o : Option (ℕ × Package S)) → OptionListed o → AllListed (elim o as (λ r. List (ℕ × Package S)) [ None ↦ [] | Some q ↦ q ∷ ordered_after ps n (placed ++ q.0 ∷ []) ])
      by i None f = tt
      by i (Some q) f = (f, i (placed ++ q.0 ∷ []))

  pub order-listed : AllListed (in_dependency_order ps)
  order-listed = ordered-listed (length ps) []

  -- a package whose number stands in the order stands in it
  among-listed : (k : ℕ) (p : Package S) → slice_get ps k ≡ Some p → (xs : List (ℕ × Package S)) → AllListed xs → list_any (λ j. j == k) (numbers_of xs) ≡ true → Among (k, p) xs
  among-listed k p e [] h g = cc
  among-listed k p e (x ∷ xs) h g = by (nat_eq x.0 k) refl g (among-listed k p e xs h.1)
    where
      this : x.0 ≡ k → Among (k, p) (x ∷ xs)
      this n = let q : x.1 ≡ p = same_Some x.1 p (sym h.0 ∙ (λ v. slice_get ps (n v)) ∙ e) in subst (λ (z : ℕ × Package S). Among z (x ∷ xs)) (λ v. (n v, q v)) first

      by : (b : Bool) → nat_eq x.0 k ≡ b → (b || list_any (λ j. j == k) (numbers_of xs)) ≡ true → (list_any (λ j. j == k) (numbers_of xs) ≡ true → Among (k, p) xs) → Among (k, p) (x ∷ xs)
      by true n f i = this (nat_same x.0 k n)
      by false n f i = later (i f)

  pub among-order : (k : ℕ) (p : Package S) → slice_get ps k ≡ Some p → list_any (λ j. j == k) (dependency_order ps) ≡ true → Among (k, p) (in_dependency_order ps)
  among-order k p e g = among-listed k p e (in_dependency_order ps) order-listed g

abbrev first-number : ℕ → List ℕ → ℕ
first-number d [] = d
first-number d (n ∷ ns) = n

abbrev other-numbers : List ℕ → List ℕ
other-numbers [] = []
other-numbers (n ∷ ns) = ns

-- two numbered packages that stand so
abbrev pub NumberedSo : {S : Type 0} → (Package S → Package S → Type 0) → ℕ × Package S → ℕ × Package S → Type 0
NumberedSo R a b = (b.0 ≡ a.0) × R a.1 b.1

module _ {S : Type 0} (R : Package S → Package S → Type 0) (ps qs : List (Package S)) (h : OneByOne R ps qs) where
  one-listed : (a b : ℕ × Package S) → slice_get ps a.0 ≡ Some a.1 → slice_get qs b.0 ≡ Some b.1 → b.0 ≡ a.0 → NumberedSo R a b
  one-listed a b e f n = (n, by (slice_get ps a.0) (slice_get qs a.0) e (sym (λ v. slice_get qs (n v)) ∙ f) (get-by h a.0))
    where
      by : (o u : Option (Package S)) → o ≡ Some a.1 → u ≡ Some b.1 → OptionBy R o u → R a.1 b.1
      by _ _ e f neither = cc
      by _ _ e f (each {a = p} {b = q} r) = subst (λ (y : Package S). R y b.1) (same_Some p a.1 e) (subst (R p) (same_Some q b.1 f) r)

  both-listed : (xs ys : List (ℕ × Package S)) → AllListed ps xs → AllListed qs ys → numbers_of ys ≡ numbers_of xs → OneByOne (NumberedSo R) xs ys
  both-listed [] [] e f n = no_more
  both-listed [] (y ∷ ys) e f n = cc
  both-listed (x ∷ xs) [] e f n = cc
  both-listed (x ∷ xs) (y ∷ ys) e f n = and_more (one-listed x y e.0 f.0 (λ v. first-number x.0 (n v))) (both-listed xs ys e.1 f.1 (λ v. other-numbers (n v)))

  -- in the same order they stand so one by one
  pub order-alike : dependency_order qs ≡ dependency_order ps → OneByOne (NumberedSo R) (in_dependency_order ps) (in_dependency_order qs)
  order-alike n = both-listed (in_dependency_order ps) (in_dependency_order qs) (order-listed ps) (order-listed qs) n

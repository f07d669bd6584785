-- In dependency order each package comes once.
use Rattle.std.proofs.Common.{◌≡◌, ◌∙◌, refl, ap, ℕ, zero, suc, ◌==◌, Bool, true, false, not, ◌&&◌, ◌||◌, if◌then◌else◌, eq-eqb, List, [], ◌∷◌, ◌++◌, length, Option, Some, None}
use Rattle.std.specs.List.{list_any, list_all}
use Rattle.std.proofs.lemmas.List.Folds.{list_any-append}
use Rattle.pkg_graph.specs.Package.{Package}
use Rattle.pkg_graph.specs.ModuleFiles.Pieces.{comes_before}
use Rattle.pkg_graph.specs.Graph.{imports_of}
use Rattle.pkg_graph.specs.Order.{is_placed}
use Rattle.run_rules.specs.Programs.{numbered, is_ready, lesser, least_ready, ordered_after, in_dependency_order}

-- the number is among these
abbrev pub is_old : List ℕ → ℕ → Bool
is_old ks k = list_any (λ j. j == k) ks

pub old_more : (ks : List ℕ) (j k : ℕ) → is_old ks k ≡ true → is_old (ks ++ j ∷ []) k ≡ true
old_more ks j k h = list_any-append (λ i. i == k) ks (j ∷ []) ∙ ap (λ (b : Bool). b || ((j == k) || false)) h

pub old_last : (ks : List ℕ) (k : ℕ) → is_old (ks ++ k ∷ []) k ≡ true
old_last ks k = list_any-append (λ i. i == k) ks (k ∷ []) ∙ ap (λ (b : Bool). is_old ks k || (b || false)) (eq-eqb k k refl) ∙ by (is_old ks k)
  where
    by : (b : Bool) → (b || true) ≡ true
    by true = refl
    by false = refl

-- Each of these is new behind those that are placed and those before it.
abbrev pub AllNew : {S : Type 0} → List ℕ → List (ℕ × Package S) → Type 0
AllNew placed [] = Unit {0}
AllNew placed (q ∷ qs) = (is_old placed q.0 ≡ false) × AllNew (placed ++ q.0 ∷ []) qs

module _ {S : Type 0} (ps : List (Package S)) where
  abbrev OfNew : List ℕ → Option (ℕ × Package S) → Type 0
  OfNew placed None = Unit {0}
  OfNew placed (Some q) = is_old placed q.0 ≡ false

  ready_new : (placed : List ℕ) (q : ℕ × Package S) → is_ready ps placed q ≡ true → is_old placed q.0 ≡ false
  ready_new placed q h = by (is_old placed q.0) (list_all (is_placed ps placed) (imports_of q.1)) h
    where
      by : (b c : Bool) → (not b && c) ≡ true → b ≡ false
      by true c e = absurd cc
      by false c e = refl

  least_new : (placed : List ℕ) (qs : List (ℕ × Package S)) → OfNew placed (least_ready ps placed qs)
  least_new placed [] = tt
  least_new placed (q ∷ qs) = by (is_ready ps placed q) refl (least_ready ps placed qs) (least_new placed qs)
    where
      of_two : (r : ℕ × Package S) (b : Bool) → OfNew placed (Some r) → OfNew placed (Some q) → OfNew placed (if b then Some r else Some q)
      of_two r true k n = k
      of_two r false k n = n

      by : (b : Bool) → is_ready ps placed q ≡ b → (o : Option (ℕ × Package S)) → OfNew placed o → OfNew placed (if b then lesser q o else o)
      by false e o k = k
      by true e None k = ready_new placed q e
      by true e (Some r) k = of_two r (comes_before r.1.path q.1.path) k (ready_new placed q e)

  ordered_new : (n : ℕ) (placed : List ℕ) → AllNew placed (ordered_after ps n placed)
  ordered_new zero placed = tt
  ordered_new (suc n) placed = by (least_ready ps placed (numbered ps)) (least_new placed (numbered ps)) (λ more. ordered_new n more)
    where
      by : (o : Option (ℕ × Package S)) → OfNew placed o → ((more : List ℕ) → AllNew more (ordered_after ps n more))
          → AllNew placed (elim o as (λ r. List (ℕ × Package S)) [ None ↦ [] | Some q ↦ q ∷ ordered_after ps n (placed ++ q.0 ∷ []) ])
      by None k f = tt
      by (Some q) k f = (k, f (placed ++ q.0 ∷ []))

  pub order_new : AllNew [] (in_dependency_order ps)
  order_new = ordered_new (length ps) []

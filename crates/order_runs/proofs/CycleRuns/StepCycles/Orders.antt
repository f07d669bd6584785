-- Packages with the same paths and imports one by one stand in the same dependency order.
use Rattle.std.proofs.Common.{◌≡◌, refl, sym, ap, subst, ℕ, zero, suc, ◌+◌, ◌==◌, Bool, true, false, not, ◌&&◌, List, [], ◌∷◌, ◌++◌, length, Option, Some, None, if◌then◌else◌, arith}
use Rattle.std.proofs.lemmas.Option.{same_Some}
use Rattle.std.specs.Prelude.{bytes_eq, slice_get}
use Rattle.std.specs.List.{list_any, list_all}
use Rattle.pkg_graph.specs.ModuleFiles.Pieces.{comes_before}
use Rattle.pkg_graph.specs.Package.{Package}
use Rattle.pkg_graph.specs.Graph.{imports_of}
use Rattle.pkg_graph.specs.Order.{has_path, is_placed}
use Rattle.run_rules.specs.Programs.{numbered, numbered_from, is_ready, lesser, least_ready, ordered_after, in_dependency_order}
use Rattle.run_rules.specs.Steps.{change_nth}
use Rattle.typed_in_place.specs.ProgramsAlike.{OneByOne, no_more, and_more}
use Rattle.order_runs.proofs.CycleRuns.StepCycles.AlikeStay.{OptionBy, neither, each, get-by}

-- ---- lists with their numbers

-- two numbered items: the same number, and items that stand so at it
abbrev pub NumberedBy : {A B : Type 0} → (ℕ → A → B → Type 0) → ℕ × A → ℕ × B → Type 0
NumberedBy R a b = (b.0 ≡ a.0) × R a.0 a.1 b.1

module _ {A : Type 0} (R : ℕ → A → A → Type 0) (itself : (k : ℕ) (a : A) → R k a a) where
  pub rows-same : (j : ℕ) (xs : List A) → OneByOne (NumberedBy R) (numbered_from j xs) (numbered_from j xs)
  rows-same j [] = no_more
  rows-same j (x ∷ xs) = and_more (refl, itself j x) (rows-same (suc j) xs)

  module _ (g : A → A) where
    -- the item with number n from j on
    abbrev counted : ℕ → ℕ → ℕ
    counted zero j = j
    counted (suc n) j = counted n (suc j)

    counted-is : (n j : ℕ) → counted n j ≡ j + n
    counted-is zero j = omega arith
    counted-is (suc n) j = let e : counted n (suc j) ≡ suc j + n = counted-is n (suc j) in omega (arith, e)

    rows-from : (n j : ℕ) (xs : List A) (a : A) → slice_get xs n ≡ Some a → R (counted n j) a (g a) → OneByOne (NumberedBy R) (numbered_from j xs) (numbered_from j (change_nth n g xs))
    rows-from n j [] a h r = no_more
    rows-from zero j (x ∷ xs) a h r = and_more (refl, subst (λ z. R j z (g z)) (sym (same_Some x a h)) r) (rows-same (suc j) xs)
    rows-from (suc n) j (x ∷ xs) a h r = and_more (refl, itself j x) (rows-from n (suc j) xs a h r)

    pub rows-changed : (n : ℕ) (xs : List A) (a : A) → slice_get xs n ≡ Some a → R n a (g a) → OneByOne (NumberedBy R) (numbered xs) (numbered (change_nth n g xs))
    rows-changed n xs a h r = rows-from n 0 xs a h (subst (λ k. R k a (g a)) (sym (let e : counted n 0 ≡ 0 + n = counted-is n 0 in omega (arith, e))) r)

pub rows-by : {A B : Type 0} {R : A → B → Type 0} (j : ℕ) {xs : List A} {ys : List B} → OneByOne R xs ys → OneByOne (NumberedBy (λ k. R)) (numbered_from j xs) (numbered_from j ys)
rows-by j no_more = no_more
rows-by j (and_more r rs) = and_more (refl, r) (rows-by (suc j) rs)

-- ---- the order

module _ {S : Type 0} (ps qs : List (Package S)) (R : ℕ → Package S → Package S → Type 0) (paths : (k : ℕ) (p q : Package S) → R k p q → q.path ≡ p.path) (imports : (k : ℕ) (p q : Package S) → R k p q → imports_of q ≡ imports_of p)
    (in_place : OneByOne (λ (p q : Package S). q.path ≡ p.path) ps qs) where
  abbrev Beside : ℕ × Package S → ℕ × Package S → Type 0
  Beside a b = NumberedBy R a b

  path-there : (path : List ℕ) (k : ℕ) → has_path qs path (slice_get qs k) ≡ has_path ps path (slice_get ps k)
  path-there path k = by (slice_get ps k) (slice_get qs k) (get-by in_place k)
    where
      by : (o u : Option (Package S)) → OptionBy (λ (p q : Package S). q.path ≡ p.path) o u → has_path qs path u ≡ has_path ps path o
      by _ _ neither = refl
      by _ _ (each r) = λ v. bytes_eq path (r v)

  placed-alike : (placed : List ℕ) (path : List ℕ) → is_placed qs placed path ≡ is_placed ps placed path
  placed-alike placed path = λ v. list_any (λ k. path-there path k v) placed

  ready-alike : (placed : List ℕ) (a b : ℕ × Package S) → Beside a b → is_ready qs placed b ≡ is_ready ps placed a
  ready-alike placed a b r = λ v. not (list_any (λ j. j == r.0 v) placed) && list_all (λ path. placed-alike placed path v) (imports a.0 a.1 b.1 r.1 v)

  abbrev EitherBy : Option (ℕ × Package S) → Option (ℕ × Package S) → Type 0
  EitherBy o u = OptionBy Beside o u

  cond-by : (b c : Bool) → c ≡ b → (o u o' u' : Option (ℕ × Package S)) → EitherBy o u → EitherBy o' u' → EitherBy (if b then o else o') (if c then u else u')
  cond-by true true e o u o' u' x y = x
  cond-by false false e o u o' u' x y = y
  cond-by true false e o u o' u' x y = cc
  cond-by false true e o u o' u' x y = cc

  lesser-by : (a b : ℕ × Package S) → Beside a b → (o u : Option (ℕ × Package S)) → EitherBy o u → EitherBy (lesser a o) (lesser b u)
  lesser-by a b r _ _ neither = each r
  lesser-by a b r _ _ (each {a = x} {b = y} s) =
      cond-by (comes_before x.1.path a.1.path) (comes_before y.1.path b.1.path) (λ v. comes_before (paths x.0 x.1 y.1 s.1 v) (paths a.0 a.1 b.1 r.1 v)) (Some x) (Some y) (Some a) (Some b) (each s) (each r)

  least-by : (placed : List ℕ) {xs ys : List (ℕ × Package S)} → OneByOne Beside xs ys → EitherBy (least_ready ps placed xs) (least_ready qs placed ys)
  least-by placed no_more = neither
  least-by placed (and_more {a = a} {b = b} {xs = xs} {ys = ys} r rs) =
      cond-by (is_ready ps placed a) (is_ready qs placed b) (ready-alike placed a b r) (lesser a (least_ready ps placed xs)) (lesser b (least_ready qs placed ys)) (least_ready ps placed xs) (least_ready qs placed ys)
      (lesser-by a b r (least_ready ps placed xs) (least_ready qs placed ys) (least-by placed rs)) (least-by placed rs)

  module _ (all : OneByOne Beside (numbered ps) (numbered qs)) where
    ordered-by : (n : ℕ) (placed : List ℕ) → OneByOne Beside (ordered_after ps n placed) (ordered_after qs n placed)
    ordered-by zero placed = no_more
    ordered-by (suc n) placed = by (λ after. ordered-by n after) (least_ready ps placed (numbered ps)) (least_ready qs placed (numbered qs)) (least-by placed all)
      where
        by : ((after : List ℕ) → OneByOne Beside (ordered_after ps n after) (ordered_after qs n after)) → (o u : Option (ℕ × Package S)) → EitherBy o u
            → OneByOne Beside (elim o [ None ↦ [] | Some q ↦ q ∷ ordered_after ps n (placed ++ q.0 ∷ []) ]) (elim u [ None ↦ [] | Some q ↦ q ∷ ordered_after qs n (placed ++ q.0 ∷ []) ])
        by k _ _ neither = no_more
        by k _ _ (each {a = a} {b = b} r) =
            and_more r (subst (λ j. OneByOne Beside (ordered_after ps n (placed ++ a.0 ∷ [])) (ordered_after qs n (placed ++ j ∷ []))) (sym r.0) (k (placed ++ a.0 ∷ [])))

    lengths : {xs ys : List (Package S)} → OneByOne (λ (p q : Package S). q.path ≡ p.path) xs ys → length ys ≡ length xs
    lengths no_more = refl
    lengths (and_more r rs) = ap suc (lengths rs)

    pub order-by : OneByOne Beside (in_dependency_order ps) (in_dependency_order qs)
    order-by = subst (λ n. OneByOne Beside (in_dependency_order ps) (ordered_after qs n [])) (sym (lengths in_place)) (ordered-by (length ps) [])

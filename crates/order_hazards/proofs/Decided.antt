-- Each condition on an argument holds or fails: for a list of items some test tells.
use Rattle.std.proofs.Common.{◌≡◌, ◌⊎◌, inl, inr, ℕ, ◌<◌, ◌≤◌, Bool, true, false, true≢false, nat_eq, nat_lt, List, drop, refl, sym, eq-eqb, arith}
use Rattle.std.proofs.lemmas.Bool.{eqb-true, ltb-true, ltb-false}
use Rattle.std.specs.List.{count_by, list_any, position_or_len}
use Rattle.order_hazards.specs.Items.{is_use, is_write, is_effect, ListsUses, UsesAhead, IsBefore}
use Rattle.order_hazards.specs.Clash.{Clash}
use Rattle.order_hazards.specs.Solo.{IsDroppable, LooksBeforeWrites, ActsOnceAndFirst, IsSolo}
use Rattle.order_hazards.specs.declared.facts.Item.{Item}
use Rattle.order_hazards.specs.declared.facts.Class.{Class}
use Rattle.order_hazards.specs.declared.facts.Class.TheVariants.{Steady, Looks, Acts}
use Rattle.order_hazards.specs.declared.facts.ParamRow.{ParamRow}
use Rattle.order_hazards.proofs.Ahead.{UsesAhead-from_none, none_from_UsesAhead}

abbrev pub Decided : Type 0 → Type 0
Decided P = P ⊎ (P → ⊥)

pub decided_both : {P Q : Type 0} → Decided P → Decided Q → Decided (P × Q)
decided_both (inl p) (inl q) = inl (p, q)
decided_both (inl p) (inr m) = inr (λ x. m x.1)
decided_both (inr n) d = inr (λ x. n x.0)

decided_either : {P Q : Type 0} → Decided P → Decided Q → Decided (P ⊎ Q)
decided_either (inl p) d = inl (inl p)
decided_either (inr n) (inl q) = inl (inr q)
decided_either {P} {Q} (inr n) (inr m) = inr neither
  where
    neither : P ⊎ Q → ⊥
    neither (inl p) = n p
    neither (inr q) = m q

pub decided_where : {P Q : Type 0} → Decided P → Decided Q → Decided (P → Q)
decided_where (inl p) (inl q) = inl (λ x. q)
decided_where (inl p) (inr m) = inr (λ f. m (f p))
decided_where (inr n) d = inl (λ x. absurd (n x))

pub decided_not : {P : Type 0} → Decided P → Decided (P → ⊥)
decided_not (inl p) = inr (λ f. f p)
decided_not (inr n) = inl n

pub decided_by : {P Q : Type 0} → (P → Q) → (Q → P) → Decided P → Decided Q
decided_by f g (inl p) = inl (f p)
decided_by f g (inr n) = inr (λ q. n (g q))

pub true_decided : (b : Bool) → Decided (b ≡ true)
true_decided true = inl refl
true_decided false = inr (λ e. true≢false (sym e))

pub false_decided : (b : Bool) → Decided (b ≡ false)
false_decided true = inr true≢false
false_decided false = inl refl

pub same_decided : (m n : ℕ) → Decided (m ≡ n)
same_decided m n = decided_by (eqb-true m n) (eq-eqb m n) (true_decided (nat_eq m n))

pub below_decided : (m n : ℕ) → Decided (m < n)
below_decided m n = go (nat_lt m n) refl
  where
    go : (b : Bool) → nat_lt m n ≡ b → Decided (m < n)
    go true e = inl (ltb-true m n e)
    go false e = let le : n ≤ m = ltb-false m n e in inr (λ h. omega arith)

looks_decided : (a : Class) → Decided (a ≡ Looks)
looks_decided Steady = inr (λ e. cc)
looks_decided Looks = inl refl
looks_decided Acts = inr (λ e. cc)

acts_decided : (a : Class) → Decided (a ≡ Acts)
acts_decided Steady = inr (λ e. cc)
acts_decided Looks = inr (λ e. cc)
acts_decided Acts = inl refl

pub Clash-decided : (a b : Class) → Decided (Clash a b)
Clash-decided Steady b = inr (λ h. h)
Clash-decided Looks Steady = inr (λ h. h)
Clash-decided Looks Looks = inr (λ h. h)
Clash-decided Looks Acts = inl tt
Clash-decided Acts Steady = inr (λ h. h)
Clash-decided Acts Looks = inl tt
Clash-decided Acts Acts = inl tt

UsesAhead-decided : (items : List Item) (i : ℕ) (test : Item → Bool) → Decided (UsesAhead items i test)
UsesAhead-decided items i test =
    decided_by (UsesAhead-from_none items i test) (none_from_UsesAhead items i test) (false_decided (list_any (is_use i) (drop (position_or_len test items) items)))

pub IsBefore-decided : (items : List Item) (i uses j : ℕ) → Decided (IsBefore items i uses j)
IsBefore-decided items i uses j =
    decided_by (λ q. record { all_listed = q.0; ahead = q.1 }) (λ (b : IsBefore items i uses j). (b.all_listed, b.ahead))
    (decided_both (same_decided (count_by (is_use i) items) uses) (UsesAhead-decided items i (is_use j)))

module _ (r : ParamRow) where
  IsDroppable-decided : Decided (IsDroppable r)
  IsDroppable-decided =
      decided_by (λ q. record { acts_not = q.0; address_not = q.1.0; held_not = q.1.1.0; last_not = q.1.1.1 })
      (λ (d : IsDroppable r). (d.acts_not, (d.address_not, (d.held_not, d.last_not))))
      (decided_both (decided_not (acts_decided r.class)) (decided_both (false_decided r.address) (decided_both (false_decided r.names_held) (false_decided r.last_use))))

  module _ (i : ℕ) (items : List Item) (writes : Bool) where
    LooksBeforeWrites-decided : Decided (LooksBeforeWrites r i items writes)
    LooksBeforeWrites-decided =
        decided_where (looks_decided r.class)
        (decided_either (false_decided writes) (decided_both (same_decided (count_by (is_use i) items) r.uses) (UsesAhead-decided items i is_write)))

    ActsOnceAndFirst-decided : Decided (ActsOnceAndFirst r i items)
    ActsOnceAndFirst-decided =
        decided_where (acts_decided r.class)
        (decided_by (λ q. (q.0, q.1.0, q.1.1)) (λ (q : (r.uses ≡ 1) × ListsUses items i 1 × UsesAhead items i is_effect). (q.0, (q.1, q.2)))
        (decided_both (same_decided r.uses 1) (decided_both (same_decided (count_by (is_use i) items) 1) (UsesAhead-decided items i is_effect))))

    pub IsSolo-decided : Decided (IsSolo r i items writes)
    IsSolo-decided =
        decided_by (λ q. record { free = q.0; deferred = q.1.0; repeated = q.1.1.0; unused = q.1.1.1.0; looking = q.1.1.1.1.0; acting = q.1.1.1.1.1 })
        (λ (s : IsSolo r i items writes). (s.free, (s.deferred, (s.repeated, (s.unused, (s.looking, s.acting))))))
        (decided_both (false_decided r.barred)
        (decided_both (decided_where (true_decided r.deferred_use) (true_decided r.constant))
        (decided_both (decided_where (below_decided 1 r.uses) (true_decided r.duplicable))
        (decided_both (decided_where (same_decided r.uses 0) IsDroppable-decided)
        (decided_both LooksBeforeWrites-decided ActsOnceAndFirst-decided)))))

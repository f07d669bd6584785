-- Steps along the types that types are declared as are chains of declared types.
use Rattle.std.specs.Prelude.{◌≡◌, refl, ℕ, zero, suc, ◌<◌, ◌+◌, ◌-◌, drop, Bool, true, false, List, [], ◌∷◌, length, Option, Some, None, nat_eq, slice_index_or, slice_set, if◌then◌else◌}
use mathlib.Core.Path.{ap, sym, ◌∙◌, subst}
use borrow.Author.Tests.{eqb-true}
use Rattle.std.proofs.Common.{arith}
use Rattle.std.proofs.lemmas.Bool.{eqb-false}
use Rattle.std.proofs.lemmas.List.{drop_more, get_or-set_other, get_or-set_same}
use Rattle.type_table.specs.TypeRelations.Environment.{Environment}
use Rattle.type_table.specs.declared.nodes.TypeId.{TypeId}
use Rattle.defined_types.specs.declared.declared.DeclaredType.{DeclaredType}
use Rattle.defined_types.specs.DeclaredTypes.{AreDeclared, IsDeclared}
use Rattle.value_rounds.specs.UnderlyingTypes.Chains.{declared_as, next_or, under_number}
use Rattle.value_rounds.proofs.UnderlyingTypes.ChainLaws.{ended_chains}
use Rattle.named_types.specs.Defining.{next_number}
use Rattle.named_types.specs.Steps.{after_steps, number_at}

-- a table in which one more type leads to what it is declared as
pub next_set :
    (xs : List ℕ) (d : DeclaredType) (rest : List DeclaredType) → d.named.0 < length xs →
    ((t : ℕ) → number_at xs t ≡ next_number rest t) → (t : ℕ) →
    number_at (slice_set xs d.named.0 d.of.0) t ≡ next_number (d ∷ rest) t
next_set xs d rest l same t = go (nat_eq t d.named.0) refl
  where
    go :
        (b : Bool) → nat_eq t d.named.0 ≡ b →
        number_at (slice_set xs d.named.0 d.of.0) t
        ≡ next_or (if b then Some d.of else declared_as rest t) t (λ u. u)
    go true e =
        let q : t ≡ d.named.0 = eqb-true t d.named.0 e in
        ap (λ i. number_at (slice_set xs d.named.0 d.of.0) i) q
        ∙ get_or-set_same xs d.named.0 d.of.0 d.named.0 l
    go false e = get_or-set_other xs d.named.0 t d.of.0 t (eqb-false t d.named.0 e) ∙ same t

module _ (ds : List DeclaredType) (next : List ℕ) (are : (t : ℕ) → number_at next t ≡ next_number ds t) where
  -- so many steps are a chain of so many names
  pub steps_under : (k t : ℕ) → after_steps k next t ≡ under_number k ds t
  steps_under zero t = refl
  steps_under (suc k) t = go (declared_as ds t) refl (steps_under k)
    where
      go :
          (o : Option TypeId) → declared_as ds t ≡ o →
          ((u : ℕ) → after_steps k next u ≡ under_number k ds u) →
          after_steps k next (number_at next t) ≡ next_or o t (under_number k ds)
      go None q r =
          ap (after_steps k next) (are t ∙ ap (λ o. next_or o t (λ u. u)) q) ∙ r t
          ∙ ended_chains ds t 0 t (record { reached = refl; last = q }) k (omega arith)
      go (Some u) q r = ap (after_steps k next) (are t ∙ ap (λ o. next_or o t (λ u. u)) q) ∙ r u.0

-- ---- in the table of types

pub declared_within :
    (e : Environment) (ds : List DeclaredType) → AreDeclared e ds → (t : ℕ) (u : TypeId) → declared_as ds t ≡ Some u →
    u.0 < length e.rows
declared_within e [] a t u q = absurd cc
declared_within e (d ∷ ds) a t u q = by (nat_eq t d.named.0) q (declared_within e ds a.1 t u)
  where
    by :
        (b : Bool) → (if b then Some d.of else declared_as ds t) ≡ Some u →
        (declared_as ds t ≡ Some u → u.0 < length e.rows) → u.0 < length e.rows
    by true f r = let same : d.of ≡ u = cc in subst (λ v. v.0 < length e.rows) same a.0.of.0
    by false f r = r f

-- a chain stays in the table
pub under_within :
    (e : Environment) (ds : List DeclaredType) → AreDeclared e ds → (k t : ℕ) → t < length e.rows →
    under_number k ds t < length e.rows
under_within e ds a zero t l = l
under_within e ds a (suc k) t l = go (declared_as ds t) refl (under_within e ds a k)
  where
    go :
        (o : Option TypeId) → declared_as ds t ≡ o →
        ((u : ℕ) → u < length e.rows → under_number k ds u < length e.rows) →
        next_or o t (under_number k ds) < length e.rows
    go None q r = l
    go (Some u) q r = r u.0 (declared_within e ds a t u q)

-- each declared type is one of the table
pub are_item :
    (e : Environment) (ds : List DeclaredType) → AreDeclared e ds → (i : ℕ) (d : DeclaredType) → i < length ds →
    IsDeclared e (slice_index_or ds i d)
are_item e [] a i d l = absurd (omega (arith, l))
are_item e (x ∷ xs) a zero d l = a.0
are_item e (x ∷ xs) a (suc i) d l = are_item e xs a.1 i d (omega (arith, l))

-- what is read where nothing is
abbrev pub no_item : DeclaredType
no_item = record { named = record { 0 = 0 }; of = record { 0 = 0 } }

-- a table in which the last types lead to what they are declared as, and one more before them
pub next_more :
    (xs : List ℕ) (ds : List DeclaredType) (n : ℕ) (d : DeclaredType) → n < length ds →
    (slice_index_or ds (length ds - 1 - n) d).named.0 < length xs →
    ((t : ℕ) → number_at xs t ≡ next_number (drop (length ds - n) ds) t) → (t : ℕ) →
    number_at
    (slice_set xs (slice_index_or ds (length ds - 1 - n) d).named.0 (slice_index_or ds (length ds - 1 - n) d).of.0) t
    ≡ next_number (drop (length ds - (n + 1)) ds) t
next_more xs ds n d l w same t =
    let i : ℕ = length ds - 1 - n in
    let q : length ds - (n + 1) ≡ i = omega (arith, l) in
    let r : length ds - n ≡ i + 1 = omega (arith, l) in
    next_set xs (slice_index_or ds i d) (drop (i + 1) ds) w
    (λ u. same u ∙ ap (λ k. next_number (drop k ds) u) r) t
    ∙ ap (λ ys. next_number ys t) (sym (drop_more ds i d (omega (arith, l))))
    ∙ ap (λ k. next_number (drop k ds) t) (sym q)

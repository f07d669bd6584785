-- Places that may stand for others: their operands and addresses, and what is read there and stored.
use Rattle.std.specs.Prelude.{◌≡◌, refl, ℕ, suc, ◌+◌, Bool, true, false, List, [], ◌∷◌, ◌++◌, length, if◌then◌else◌}
use mathlib.Core.Path.{ap, ◌∙◌, subst}
use Rattle.go_kernel.specs.Kernel.{FuncName, Term, Local, Let, temporary}
use Rattle.go_translation.specs.Places.{Root, pointed, Place, from, field_at, operands, operand_count, store_at, address_of, address_term, field_address, temporaries, local_values, operand_counts, all_operands, stores, assignment, update}
use Rattle.meaning_in_place.specs.Standing.{TermStands, RootStands, same_root, by_pointer, by_index, by_key, PlaceStands}
use Rattle.meaning_in_place.proofs.Terms.{as_is, let_stands, both_stands, prim_stands}

-- an assignment, by its counts of operands and places
abbrev assigned : ℕ → ℕ → ℕ → Term → Term → Term → Term
assigned k n m os values ss = Let (temporaries k n) os (Let (temporaries (k + n) m) values ss)

module _ (E : Term → Term → Type 0) (C : FuncName → Type 0) where
  -- places one by one
  pub data PlacesStand : List Place → List Place → Type 0 where
    no_places : PlacesStand [] []
    and_place : {p q : Place} {ps qs : List Place} → PlaceStands E C p q → PlacesStand ps qs → PlacesStand (p ∷ ps) (q ∷ qs)

module _ {E : Term → Term → Type 0} {C : FuncName → Type 0} where
  pub same_left : {p : Place} → PlaceStands E C p p
  same_left = record { path = refl; root = same_root }

  pub field_left : (i : ℕ) {p q : Place} → PlaceStands E C p q → PlaceStands E C (field_at i p) (field_at i q)
  field_left i o = record { path = λ v. o.path v ++ i ∷ []; root = o.root }

  pub pointed_left : {a b : Term} → TermStands E C a b → PlaceStands E C (from (pointed a)) (from (pointed b))
  pointed_left y = record { path = refl; root = by_pointer y }

  pub either_left : (b : Bool) {p p' q q' : Place} → PlaceStands E C p p' → PlaceStands E C q q' → PlaceStands E C (if b then p else q) (if b then p' else q')
  either_left true x y = x
  either_left false x y = y

  -- ---- addresses

  field_stands : (is : List ℕ) {a b : Term} → TermStands E C a b → TermStands E C (field_address is a) (field_address is b)
  field_stands [] y = y
  field_stands (i ∷ is) y = prim_stands y

  root_address : (is : List ℕ) {r q : Root} → RootStands E C r q → TermStands E C (address_of r is) (address_of q is)
  root_address is same_root = as_is
  root_address is (by_pointer y) = prim_stands y
  root_address is (by_index y) = field_stands is (prim_stands y)
  root_address is (by_key z y) = as_is

  pub address_left : {p q : Place} → PlaceStands E C p q → TermStands E C (address_term p) (address_term q)
  address_left {p = p} {q = q} o = subst (λ is. TermStands E C (address_of p.root p.path) (address_of q.root is)) o.path (root_address p.path o.root)

  -- ---- what is evaluated before a place is used

  count_same : {r q : Root} → RootStands E C r q → operand_count r ≡ operand_count q
  count_same same_root = refl
  count_same (by_pointer y) = refl
  count_same (by_index y) = refl
  count_same (by_key z y) = refl

  operands_stand : {r q : Root} → RootStands E C r q → TermStands E C (operands r) (operands q)
  operands_stand same_root = as_is
  operands_stand (by_pointer y) = y
  operands_stand (by_index y) = y
  operands_stand (by_key z y) = y

  counts_same : {ps qs : List Place} → PlacesStand E C ps qs → operand_counts ps ≡ operand_counts qs
  counts_same no_places = refl
  counts_same (and_place o os) = λ v. count_same o.root v + counts_same os v

  length_same : {ps qs : List Place} → PlacesStand E C ps qs → length ps ≡ length qs
  length_same no_places = refl
  length_same (and_place o os) = ap suc (length_same os)

  all_stand : {ps qs : List Place} → PlacesStand E C ps qs → TermStands E C (all_operands ps) (all_operands qs)
  all_stand no_places = as_is
  all_stand (and_place o os) = both_stands (operands_stand o.root) (all_stand os)

  -- ---- stores

  store_same : (k : ℕ) (is : List ℕ) (v : Term) {r q : Root} → RootStands E C r q → store_at r is (local_values (temporaries k (operand_count r))) v ≡ store_at q is (local_values (temporaries k (operand_count q))) v
  store_same k is v same_root = refl
  store_same k is v (by_pointer y) = refl
  store_same k is v (by_index y) = refl
  store_same k is v (by_key z y) = refl

  place_store : (k : ℕ) (v : Term) {p q : Place} → PlaceStands E C p q → store_at p.root p.path (local_values (temporaries k (operand_count p.root))) v ≡ store_at q.root q.path (local_values (temporaries k (operand_count q.root))) v
  place_store k v {p = p} {q = q} o = store_same k p.path v o.root ∙ ap (λ is. store_at q.root is (local_values (temporaries k (operand_count q.root))) v) o.path

  stores_same : (k j : ℕ) {ps qs : List Place} → PlacesStand E C ps qs → stores k j ps ≡ stores k j qs
  stores_same k j no_places = refl
  stores_same k j (and_place {p = p} {q = q} {ps = ps} {qs = qs} o os) =
      let more : stores (k + operand_count p.root) (suc j) ps ≡ stores (k + operand_count q.root) (suc j) qs = stores_same (k + operand_count p.root) (suc j) os ∙ ap (λ c. stores (k + c) (suc j) qs) (count_same o.root) in
      λ i. Let [] (place_store k (Local (temporary j)) o i) (more i)

  pub assignment_left : (k : ℕ) {ps qs : List Place} → PlacesStand E C ps qs → {a b : Term} → TermStands E C a b → TermStands E C (assignment k ps a) (assignment k qs b)
  assignment_left k {ps = ps} {qs = qs} os {a = a} {b = b} y =
      let ss : stores k (k + operand_counts ps) ps ≡ stores k (k + operand_counts qs) qs = stores_same k (k + operand_counts ps) os ∙ ap (λ c. stores k (k + c) qs) (counts_same os) in
      subst (TermStands E C (assignment k ps a)) (λ i. assigned k (counts_same os i) (length_same os i) (all_operands qs) b (ss i))
      (let_stands (all_stand os) (let_stands y as_is))

  -- ---- updates

  root_update : (f : Term → Term) (is : List ℕ) {r q : Root} → RootStands E C r q → TermStands E C (update (record { root = r; path = is }) f) (update (record { root = q; path = is }) f)
  root_update f is same_root = as_is
  root_update f is (by_pointer y) = let_stands y as_is
  root_update f is (by_index y) = let_stands y as_is
  root_update f is (by_key z y) = let_stands y as_is

  pub update_left : (f : Term → Term) {p q : Place} → PlaceStands E C p q → TermStands E C (update p f) (update q f)
  update_left f {p = p} {q = q} o = subst (λ is. TermStands E C (update p f) (update (record { root = q.root; path = is }) f)) o.path (root_update f p.path o.root)

-- While the packages are placed.
use Rattle.std.proofs.Common.{◌≡◌, ◌∙◌, ◌<◌, ◌==◌, ◌⊎◌, inl, inr, ℕ, zero, suc, Bool, true, false, ◌||◌, ◌&&◌, List, [], ◌∷◌, ◌++◌, length, take, refl, sym, ap, subst, Option, Some, None, arith, bytes_eq, slice_set, All}
use Rattle.std.specs.List.{list_all}
use Rattle.std.specs.Ordering.{ordering_reverse, nat_cmp, is_lt}
use Rattle.std.specs.declared.cmp.Ordering.{Ordering}
use Rattle.std.specs.declared.cmp.Ordering.TheVariants.{Less, Equal, Greater}
use Rattle.std.specs.Cmp.Lexicographic.{slice_cmp, nat_list_cmp_total}
use Rattle.std.proofs.lemmas.Bool.{true≢false}
use Rattle.std.proofs.lemmas.List.Elements.{All-head, All-tail}
use Rattle.std.proofs.lemmas.List.{get_or-set_same, get_or-set_other, append_assoc, append-nil}
use Rattle.pkg_graph.specs.ModuleFiles.Pieces.{comes_before}
use Rattle.pkg_graph.specs.ModuleFiles.PathLists.{path_at, has_path}
use Rattle.pkg_graph.specs.ImportOrder.Numbers.{is_among, row, is_marked, number_in, AreMarked, ArePlaces, Waits, IsKept, AreKept, AreKeptBut, IsOpen, IsLeastOpen, MarksAre, IsReadyNumber, IsNextNumber, FollowsNumbers, next, none, unmarked}
use Rattle.pkg_graph.proofs.ModuleFiles.PathLaws.{are_same, less_comes_before, equal_paths}
use Rattle.pkg_graph.proofs.ImportOrder.NumberLaws.{all_each, all_alike, among_same, among_push, self_same}

-- ---- the order of paths

less_by : (o r : Ordering) → o ≡ ordering_reverse r → is_lt o ≡ true → is_lt r ≡ true → ⊥
less_by Less Less e h k = absurd (cc)
less_by Less Equal e h k = true≢false (sym k)
less_by Less Greater e h k = true≢false (sym k)
less_by Equal r e h k = true≢false (sym h)
less_by Greater r e h k = true≢false (sym h)

pub not_both_before : (a b : List ℕ) → comes_before a b ≡ true → comes_before b a ≡ true → ⊥
not_both_before a b e f = less_by (slice_cmp nat_cmp a b) (slice_cmp nat_cmp b a) (nat_list_cmp_total.antisymm a b) (less_comes_before a b ∙ e) (less_comes_before b a ∙ f)

pub never_before_itself : (a : List ℕ) → comes_before a a ≡ true → ⊥
never_before_itself a e = not_both_before a a e e

-- of two paths that differ one comes before the other
either_by : (a b : List ℕ) (o : Ordering) → slice_cmp nat_cmp a b ≡ o → (comes_before a b ≡ true) ⊎ ((a ≡ b) ⊎ (comes_before b a ≡ true))
either_by a b Less e = inl (sym (less_comes_before a b) ∙ ap is_lt e)
either_by a b Equal e = inr (inl (equal_paths a b e))
either_by a b Greater e = inr (inr (sym (less_comes_before b a) ∙ ap is_lt (nat_list_cmp_total.antisymm b a ∙ ap ordering_reverse e)))

pub one_comes_before : (a b : List ℕ) → (comes_before a b ≡ true) ⊎ ((a ≡ b) ⊎ (comes_before b a ≡ true))
one_comes_before a b = either_by a b (slice_cmp nat_cmp a b) refl

-- ---- what is tried next

first_by : (p q : List ℕ) (rest : List (List ℕ)) (t : Bool) → bytes_eq q p ≡ t → (t || has_path rest q) ≡ true → (q ≡ p) ⊎ (has_path rest q ≡ true)
first_by p q rest true e h = inl (are_same q p e)
first_by p q rest false e h = inr h

pub first_or_rest : (p q : List ℕ) (rest : List (List ℕ)) → has_path (p ∷ rest) q ≡ true → (q ≡ p) ⊎ (has_path rest q ≡ true)
first_or_rest p q rest h = first_by p q rest (bytes_eq q p) refl h

after_by : (p q x : List ℕ) (xs : List (List ℕ)) → All (λ q. comes_before p q ≡ true) (x ∷ xs) → (q ≡ x) ⊎ (has_path xs q ≡ true) → (has_path xs q ≡ true → comes_before p q ≡ true) → comes_before p q ≡ true
after_by p q x xs h (inl e) f = rw e (All-head (λ q. comes_before p q ≡ true) x xs h)
after_by p q x xs h (inr e) f = f e

pub comes_after : (p q : List ℕ) (rest : List (List ℕ)) → All (λ q. comes_before p q ≡ true) rest → has_path rest q ≡ true → comes_before p q ≡ true
comes_after p q [] h e = absurd (true≢false (sym e))
comes_after p q (x ∷ xs) h e = after_by p q x xs h (first_or_rest x q xs e) (comes_after p q xs (All-tail (λ q. comes_before p q ≡ true) x xs h))

module _ (links : List (List ℕ)) (marks : List Bool) (waiting paths : List (List ℕ)) where
  never_waits : (j : ℕ) → IsOpen links marks j → Waits links marks waiting j → ⊥
  never_waits j o w = true≢false (sym (all_each (is_marked marks) (row links j) o.imports w.for_ w.link) ∙ w.open_)

  least_by : (p : List ℕ) (rest : List (List ℕ)) → All (λ q. comes_before p q ≡ true) rest → (j : ℕ) → IsOpen links marks j → IsKept links marks waiting paths (p ∷ rest) j → comes_before (path_at paths j) p ≡ true → ⊥
  least_by p rest h j o (inl a) b = go (first_or_rest p (path_at paths j) rest a)
    where
      go : (path_at paths j ≡ p) ⊎ (has_path rest (path_at paths j) ≡ true) → ⊥
      go (inl e) = never_before_itself p (rw e at b)
      go (inr e) = not_both_before p (path_at paths j) (comes_after p (path_at paths j) rest h e) b
  least_by p rest h j o (inr w) b = never_waits j o w

  pub first_is_least : length links ≡ length paths → (tried : List (List ℕ)) (p : List ℕ) (rest : List (List ℕ)) → tried ≡ p ∷ rest → AreKept links marks waiting paths tried → All (λ q. comes_before p q ≡ true) rest → IsLeastOpen links marks paths p
  first_is_least l tried p rest e k h j o b = least_by p rest h j o (subst (λ t. IsKept links marks waiting paths t j) e (k j (rw (← l) o.within) o.open_)) b

  none_by : (j : ℕ) → IsOpen links marks j → IsKept links marks waiting paths [] j → ⊥
  none_by j o (inl a) = true≢false (sym a)
  none_by j o (inr w) = never_waits j o w

  pub none_is_open : length links ≡ length paths → (tried : List (List ℕ)) → tried ≡ [] → AreKept links marks waiting paths tried → (j : ℕ) → IsOpen links marks j → ⊥
  none_is_open l tried e k j o = none_by j o (subst (λ t. IsKept links marks waiting paths t j) e (k j (rw (← l) o.within) o.open_))

-- ---- a package is placed

pub fewer_unmarked : (bs : List Bool) (k : ℕ) → k < length bs → is_marked bs k ≡ false → unmarked (slice_set bs k true) < unmarked bs
fewer_unmarked [] k h e = absurd (omega (arith, h))
fewer_unmarked (false ∷ bs) zero h e = omega arith
fewer_unmarked (true ∷ bs) zero h e = absurd (true≢false e)
fewer_unmarked (true ∷ bs) (suc k) h e = let l : k < length bs = omega (arith, h) in fewer_unmarked bs k l e
fewer_unmarked (false ∷ bs) (suc k) h e = let l : k < length bs = omega (arith, h) in let f = fewer_unmarked bs k l e in omega (arith, f)

pub or_true : (b : Bool) → (b || true) ≡ true
or_true true = refl
or_true false = refl

pub or_false : (b : Bool) → (b || false) ≡ b
or_false true = refl
or_false false = refl

pub differ : (k j : ℕ) → (k == j) ≡ false → j ≡ k → ⊥
differ k j e f = true≢false (sym (self_same k) ∙ ap (λ i. k == i) (sym f) ∙ e)

module _ (links : List (List ℕ)) (marks : List Bool) (placed : List ℕ) (same : MarksAre marks placed) where
  pub ready_number : (k : ℕ) → IsOpen links marks k → IsReadyNumber links placed k
  ready_number k o = record { within = o.within; open_ = sym (same k) ∙ o.open_; imports = sym (all_alike (is_marked marks) (is_among placed) same (row links k)) ∙ o.imports }

  pub open_number : (k : ℕ) → IsReadyNumber links placed k → IsOpen links marks k
  open_number k r = record { within = r.within; open_ = same k ∙ r.open_; imports = all_alike (is_marked marks) (is_among placed) same (row links k) ∙ r.imports }

  pub next_number : (paths : List (List ℕ)) (k : ℕ) → IsOpen links marks k → IsLeastOpen links marks paths (path_at paths k) → IsNextNumber links paths placed k
  next_number paths k o l = record { ready = ready_number k o; least = λ j r b. l j (open_number j r) b }

  pub last_number : (paths : List (List ℕ)) → ((k : ℕ) → IsOpen links marks k → ⊥) → FollowsNumbers links paths placed []
  last_number paths f = none placed (λ k r. f k (open_number k r))

  marks_by : (k j : ℕ) (t : Bool) → (k == j) ≡ t → k < length marks → is_marked (slice_set marks k true) j ≡ (is_among placed j || t)
  marks_by k j true e h = subst (λ i. is_marked (slice_set marks k true) i ≡ (is_among placed i || true)) (among_same k j e) (get_or-set_same marks k true false h ∙ sym (or_true (is_among placed k)))
  marks_by k j false e h = get_or-set_other marks k j true false (differ k j e) ∙ same j ∙ sym (or_false (is_among placed j))

  pub marks_next : (k : ℕ) → k < length marks → MarksAre (slice_set marks k true) (placed ++ k ∷ [])
  marks_next k h j = marks_by k j (k == j) refl h ∙ sym (among_push placed k j)

-- what was marked is marked
still_by : (marks : List Bool) (k j : ℕ) → k < length marks → is_marked marks j ≡ true → (t : Bool) → (k == j) ≡ t → is_marked (slice_set marks k true) j ≡ true
still_by marks k j h e true f = subst (λ i. is_marked (slice_set marks k true) i ≡ true) (among_same k j f) (get_or-set_same marks k true false h)
still_by marks k j h e false f = get_or-set_other marks k j true false (differ k j f) ∙ e

all_still : (p q : ℕ → Bool) → ((j : ℕ) → p j ≡ true → q j ≡ true) → (ns : List ℕ) → list_all p ns ≡ true → list_all q ns ≡ true
all_still p q f [] e = refl
all_still p q f (n ∷ ns) e = go (p n) refl e (all_still p q f ns)
  where
    go : (t : Bool) → p n ≡ t → (t && list_all p ns) ≡ true → (list_all p ns ≡ true → list_all q ns ≡ true) → (q n && list_all q ns) ≡ true
    go true g h more = rw (f n g) (more h)
    go false g h more = absurd (true≢false (sym h))

still_marked : (marks : List Bool) (k : ℕ) → k < length marks → (ns : List ℕ) → AreMarked marks ns → AreMarked (slice_set marks k true) ns
still_marked marks k h ns e = all_still (is_marked marks) (is_marked (slice_set marks k true)) (λ j f. still_by marks k j h f (k == j) refl) ns e

pub places_next : (links : List (List ℕ)) (marks : List Bool) (places : List ℕ) (k : ℕ) → k < length marks → ArePlaces links marks places → ArePlaces links (slice_set marks k true) places
places_next links marks places k h p = record { size = p.size; before = λ j. still_marked marks k h (take (number_in places j) (row links j)) (p.before j) }

pub so_far_next : (links paths : List (List ℕ)) (placed : List ℕ) (k : ℕ) → IsNextNumber links paths placed k
    → ((rest : List ℕ) → FollowsNumbers links paths placed rest → FollowsNumbers links paths [] (placed ++ rest))
    → (rest : List ℕ) → FollowsNumbers links paths (placed ++ k ∷ []) rest → FollowsNumbers links paths [] ((placed ++ k ∷ []) ++ rest)
so_far_next links paths placed k n f rest g = rw (append_assoc placed (k ∷ []) rest) (f (k ∷ rest) (next placed k rest n g))

pub so_far_done : (links paths : List (List ℕ)) (placed : List ℕ) → ((rest : List ℕ) → FollowsNumbers links paths placed rest → FollowsNumbers links paths [] (placed ++ rest)) → FollowsNumbers links paths placed [] → FollowsNumbers links paths [] placed
so_far_done links paths placed f g = let h : FollowsNumbers links paths [] (placed ++ []) = f [] g in rw append-nil at h

-- ---- what waits for it is tried

module _ (links : List (List ℕ)) (marks : List Bool) (waiting new paths : List (List ℕ)) (tried after : List (List ℕ)) (k : ℕ) where
  kept_by : k < length marks → k < length waiting → new ≡ slice_set waiting k [] → (j : ℕ) → j < length paths → (w : Waits links marks waiting j) (t : Bool) → (k == w.for_) ≡ t
      → ((j : ℕ) → is_among (row waiting k) j ≡ true → j < length paths → has_path after (path_at paths j) ≡ true) → IsKept links (slice_set marks k true) new paths after j
  kept_by h l n j b w true e f = inl (f j (subst (λ i. is_among (row waiting i) j ≡ true) (sym (among_same k w.for_ e)) w.waits) b)
  kept_by h l n j b w false e f = inr (record {
    for_ = w.for_;
    link = w.link;
    open_ = get_or-set_other marks k w.for_ true false (differ k w.for_ e) ∙ w.open_;
    waits = ap (λ ns. is_among ns j) (ap (λ ws. row ws w.for_) n ∙ get_or-set_other waiting k w.for_ [] [] (differ k w.for_ e)) ∙ w.waits;
  })

  kept_to : k < length marks → k < length waiting → new ≡ slice_set waiting k [] → (j : ℕ) → j < length paths → IsKept links marks waiting paths tried j
      → ((q : List ℕ) → has_path tried q ≡ true → has_path after q ≡ true)
      → ((j : ℕ) → is_among (row waiting k) j ≡ true → j < length paths → has_path after (path_at paths j) ≡ true) → IsKept links (slice_set marks k true) new paths after j
  kept_to h l n j b (inl a) g f = inl (g (path_at paths j) a)
  kept_to h l n j b (inr w) g f = kept_by h l n j b w (k == w.for_) refl f

  kept_at : k < length marks → k < length waiting → new ≡ slice_set waiting k [] → AreKeptBut links marks waiting paths tried k
      → ((q : List ℕ) → has_path tried q ≡ true → has_path after q ≡ true)
      → ((j : ℕ) → is_among (row waiting k) j ≡ true → j < length paths → has_path after (path_at paths j) ≡ true)
      → (j : ℕ) → j < length paths → is_marked (slice_set marks k true) j ≡ false → (t : Bool) → (k == j) ≡ t → IsKept links (slice_set marks k true) new paths after j
  kept_at h l n kept g f j b o true e = absurd (true≢false (sym (get_or-set_same marks k true false h) ∙ ap (is_marked (slice_set marks k true)) (among_same k j e) ∙ o))
  kept_at h l n kept g f j b o false e = kept_to h l n j b (kept j b (sym (get_or-set_other marks k j true false (differ k j e)) ∙ o) (differ k j e)) g f

  pub kept_next : k < length marks → k < length waiting → new ≡ slice_set waiting k [] → AreKeptBut links marks waiting paths tried k
      → ((q : List ℕ) → has_path tried q ≡ true → has_path after q ≡ true)
      → ((j : ℕ) → is_among (row waiting k) j ≡ true → j < length paths → has_path after (path_at paths j) ≡ true)
      → AreKept links (slice_set marks k true) new paths after
  kept_next h l n kept g f j b o = kept_at h l n kept g f j b o (k == j) refl

pub is_none : {A : Type 0} (o : Option A) → ((x : A) → o ≡ Some x → ⊥) → o ≡ None
is_none None f = refl
is_none (Some x) f = absurd (f x refl)

none_before : (p q : List ℕ) (rest : List (List ℕ)) → All (λ q. comes_before p q ≡ true) rest → (q ≡ p) ⊎ (has_path rest q ≡ true) → comes_before q p ≡ true → ⊥
none_before p q rest h (inl e) b = never_before_itself p (rw e at b)
none_before p q rest h (inr e) b = not_both_before p q (comes_after p q rest h e) b

pub none_before_first : (tried : List (List ℕ)) (p : List ℕ) (rest : List (List ℕ)) → tried ≡ p ∷ rest → All (λ q. comes_before p q ≡ true) rest → (q : List ℕ) → has_path tried q ≡ true → comes_before q p ≡ true → ⊥
none_before_first tried p rest e h q i b = none_before p q rest h (first_or_rest p q rest (rw e at i)) b

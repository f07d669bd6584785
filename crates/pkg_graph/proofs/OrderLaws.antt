-- The order of packages: there is one, and it holds all packages exactly where none lies on a cycle.
use Rattle.std.proofs.Common.{◌≡◌, ◌∙◌, ◌==◌, ◌<◌, ◌≤◌, ◌⊎◌, inl, inr, ℕ, zero, suc, Bool, true, false, ◌||◌, ◌&&◌, List, [], ◌∷◌, ◌++◌, length, map, refl, sym, ap, subst, Option, Some, None, arith, replicate, slice_set}
use Rattle.std.specs.List.{list_all, slice_get}
use Rattle.std.proofs.lemmas.Bool.{true≢false}
use Rattle.std.proofs.lemmas.List.{append_assoc, append-nil, length-map, length-set, length-replicate}
use Rattle.go_tree.specs.declared.spans.Span.{Span}
use Rattle.pkg_graph.specs.Package.{SourceTree, Package, packages_of}
use Rattle.pkg_graph.specs.Graph.{HasNoCycle, imports_of, first_unnamed}
use Rattle.pkg_graph.specs.GraphLaws.{OrdersAreUnique, OrdersHoldPackages, OrdersHoldAll, AllHaveNoCycle}
use Rattle.pkg_graph.specs.Order as order
use Rattle.pkg_graph.specs.ModuleFiles.Pieces.{comes_before}
use Rattle.pkg_graph.specs.ModuleFiles.PathLists.{number_of, has_path, path_at, AreDistinct}
use Rattle.pkg_graph.specs.ImportOrder.Numbers.{AreLinks, is_among, row, is_marked, unmarked, Reaches, straight, IsReadyNumber, IsNextNumber, FollowsNumbers, none, next}
use Rattle.pkg_graph.proofs.ImportOrder.NumberLaws.{among_same}
use Rattle.pkg_graph.proofs.ImportOrder.OpenLaws.{one_comes_before}
use Rattle.pkg_graph.proofs.PackageLaws.{paths_distinct}
use Rattle.pkg_graph.proofs.ImportOrder.WalkLaws.{one_fewer, marked_one, never_marked, reaches_more, reaches_within, split_or}
use Rattle.pkg_graph.proofs.BridgeLaws.{LinksAre, numbers_of, got_at, got_within, get_one, all_named, number_ready, package_ready, path_of, are_links, leads_from_reaches, no_cycle, placed_off}

-- ---- what stays open leads to a cycle

record Fails (p : ℕ → Bool) (xs : List ℕ) : Type 0 where
  at : ℕ
  among : is_among xs at ≡ true
  fails : p at ≡ false

one_more : (p : ℕ → Bool) (x : ℕ) (xs : List ℕ) → Fails p xs → Fails p (x ∷ xs)
one_more p x xs f = record { at = f.at; among = go (x == f.at); fails = f.fails }
  where
    go : (t : Bool) → (t || is_among xs f.at) ≡ true
    go true = refl
    go false = f.among

one_fails : (p : ℕ → Bool) (xs : List ℕ) → list_all p xs ≡ false → Fails p xs
one_fails p [] e = absurd (true≢false e)
one_fails p (x ∷ xs) e = go (p x) refl e (one_fails p xs)
  where
    here : (x == x) ≡ true
    here = grind arith

    go : (t : Bool) → p x ≡ t → (t && list_all p xs) ≡ false → (list_all p xs ≡ false → Fails p xs) → Fails p (x ∷ xs)
    go true f h more = one_more p x xs (more h)
    go false f h more = record { at = x; among = ap (λ b. b || is_among xs x) here; fails = f }

module _ (links : List (List ℕ)) (placed : List ℕ) (stuck : (k : ℕ) → IsReadyNumber links placed k → ⊥)
    (within : AreLinks links) (acyclic : (k : ℕ) → Reaches links k k → ⊥) where
  -- a package that isn't placed imports another
  open_import : (k : ℕ) → k < length links → is_among placed k ≡ false → Fails (is_among placed) (row links k)
  open_import k h o = go (list_all (is_among placed) (row links k)) refl
    where
      go : (t : Bool) → list_all (is_among placed) (row links k) ≡ t → Fails (is_among placed) (row links k)
      go true e = absurd (stuck k (record { within = h; open_ = o; imports = e }))
      go false e = one_fails (is_among placed) (row links k) e

  -- the packages that were gone through lead to this one
  abbrev LeadHere : List Bool → ℕ → Type 0
  LeadHere marks k = (m : ℕ) → is_marked marks m ≡ true → Reaches links m k

  lead_on : (marks : List Bool) (k n : ℕ) → k < length marks → LeadHere marks k → is_among (row links k) n ≡ true → LeadHere (slice_set marks k true) n
  lead_on marks k n h l e m f = go (split_or (is_marked marks m) (k == m) (sym (marked_one marks k h m) ∙ f))
    where
      go : (is_marked marks m ≡ true) ⊎ ((k == m) ≡ true) → Reaches links m n
      go (inl g) = reaches_more links m k n (l m g) e
      go (inr g) = straight m n (subst (λ i. is_among (row links i) n ≡ true) (among_same k m g) e)

  go_on : (fuel : ℕ) (marks : List Bool) (k : ℕ) (t : Bool) → is_marked marks k ≡ t → unmarked marks ≤ fuel → length marks ≡ length links → k < length links → is_among placed k ≡ false → LeadHere marks k → ⊥
  go_on fuel marks k true e f s h o l = acyclic k (l k e)
  go_on zero marks k false e f s h o l = let less = one_fewer marks k (rw s h) e in absurd (omega (arith, f, less))
  go_on (suc n) marks k false e f s h o l =
      let in_marks : k < length marks = rw s h in
      let less = one_fewer marks k in_marks e in
      let left : unmarked (slice_set marks k true) ≤ n = omega (arith, f, less) in
      let on = open_import k h o in
      let now = slice_set marks k true in
      go_on n now on.at (is_marked now on.at) refl left (length-set marks k true ∙ s) (within k on.at on.among) on.fails (lead_on marks k on.at in_marks l on.among)

  pub all_placed : (k : ℕ) → k < length links → is_among placed k ≡ true
  all_placed k h = go (is_among placed k) refl
    where
      unmarked_all : List Bool
      unmarked_all = replicate (length links) false

      go : (t : Bool) → is_among placed k ≡ t → is_among placed k ≡ true
      go true e = e
      go false e = absurd (go_on (unmarked unmarked_all) unmarked_all k (is_marked unmarked_all k) refl (omega arith) (length-replicate (length links) false) h e (λ m f. absurd (true≢false (sym f ∙ never_marked (length links) m))))

-- ---- packages and numbers, the other way

module _ (ps : List (Package Span)) (paths links : List (List ℕ)) (links_of : LinksAre ps paths links) (distinct : AreDistinct paths)
    (named : (k : ℕ) (p : Package Span) → slice_get ps k ≡ Some p → (q : List ℕ) → has_path (imports_of p) q ≡ true → has_path paths q ≡ true) where
  number_next : (placed : List ℕ) (k : ℕ) → order.IsNext ps placed k → IsNextNumber links paths placed k
  number_next placed k n = record {
    ready = number_ready ps paths links links_of distinct named placed k n.of n.ready;
    least = λ j r b.
        let g = get_one ps j (rw (← links_of.size) r.within) in
        n.least j g.value (package_ready ps paths links links_of distinct named placed j g.value g.is r)
        (ap (λ a. comes_before a n.of.path) (sym (path_of ps paths links links_of distinct named j g.value g.is)) ∙ ap (comes_before (path_at paths j)) (sym (path_of ps paths links links_of distinct named k n.of n.ready.is)) ∙ b);
  }

  pub numbers_follow : (placed rest : List ℕ) → order.Follows ps placed rest → FollowsNumbers links paths placed rest
  numbers_follow _ _ (order.none placed f) =
      none placed (λ k r.
      let g = get_one ps k (rw (← links_of.size) r.within) in
      f k g.value (package_ready ps paths links links_of distinct named placed k g.value g.is r))
  numbers_follow _ _ (order.next placed k rest n f) = next placed k rest (number_next placed k n) (numbers_follow (placed ++ k ∷ []) rest f)

-- at the end none is ready
none_ready : (links paths : List (List ℕ)) (placed rest : List ℕ) → FollowsNumbers links paths placed rest → (k : ℕ) → IsReadyNumber links (placed ++ rest) k → ⊥
none_ready links paths _ _ (none placed f) k r = f k (subst (λ ns. IsReadyNumber links ns k) (append-nil placed) r)
none_ready links paths _ _ (next placed k rest n f) j r = none_ready links paths (placed ++ k ∷ []) rest f j (subst (λ ns. IsReadyNumber links ns j) (sym (append_assoc placed (k ∷ []) rest)) r)

-- ---- the packages of a module

module _ (home : List ℕ) (files : List (SourceTree Span)) (n : first_unnamed home files ≡ None) where
  abbrev ps : List (Package Span)
  ps = packages_of home files

  abbrev paths : List (List ℕ)
  paths = map (λ p. p.path) ps

  abbrev links : List (List ℕ)
  links = map (λ p. numbers_of paths (imports_of p)) ps

  links_of : LinksAre ps paths links
  links_of = record {
    paths_are = refl;
    size = length-map ps (λ p. numbers_of paths (imports_of p));
    rows = λ k p g. got_at (λ p. numbers_of paths (imports_of p)) [] ps k p g;
  }

  numbers_of_order : (nums : List ℕ) → order.IsDependencyOrder ps nums → FollowsNumbers links paths [] nums
  numbers_of_order nums f = numbers_follow ps paths links links_of (paths_distinct home files) (all_named home files n) [] nums f

  no_number_cycle : HasNoCycle home files → (k : ℕ) → Reaches links k k → ⊥
  no_number_cycle f k r = f (path_at paths k) (leads_from_reaches ps paths links links_of (paths_distinct home files) (all_named home files n) k k r)

  pub holds_all : (nums : List ℕ) → order.IsDependencyOrder ps nums → HasNoCycle home files → (k : ℕ) → k < length ps → is_among nums k ≡ true
  holds_all nums f a k h = all_placed links nums (none_ready links paths [] nums (numbers_of_order nums f)) (are_links ps paths links links_of (paths_distinct home files) (all_named home files n)) (no_number_cycle a) k (rw links_of.size h)

  pub no_cycle_left : (nums : List ℕ) → order.IsDependencyOrder ps nums → ((k : ℕ) → k < length ps → is_among nums k ≡ true) → HasNoCycle home files
  no_cycle_left nums f a =
      no_cycle ps paths links links_of (paths_distinct home files) (all_named home files n)
      (λ k r. placed_off links paths nums (numbers_of_order nums f) k (a k (rw (← links_of.size) (reaches_within links k k r))) r)

-- ---- one order

module _ (home : List ℕ) (files : List (SourceTree Span)) where
  abbrev all : List (Package Span)
  all = packages_of home files

  number_is : (k : ℕ) (p : Package Span) → slice_get all k ≡ Some p → number_of (map (λ p. p.path) all) p.path ≡ Some k
  number_is k p g =
      ap (number_of (map (λ p. p.path) all)) (sym (got_at (λ p. p.path) [] all k p g))
      ∙ paths_distinct home files k (rw (length-map all (λ p. p.path)) (got_within all k p g))

  same_some : (a b : ℕ) (o : Option ℕ) → o ≡ Some a → o ≡ Some b → a ≡ b
  same_some a b o e f = cc

  one_next : (placed : List ℕ) (j k : ℕ) → order.IsNext all placed j → order.IsNext all placed k → j ≡ k
  one_next placed j k a b = go (one_comes_before a.of.path b.of.path)
    where
      go : (comes_before a.of.path b.of.path ≡ true) ⊎ ((a.of.path ≡ b.of.path) ⊎ (comes_before b.of.path a.of.path ≡ true)) → j ≡ k
      go (inl e) = absurd (b.least j a.of a.ready e)
      go (inr (inl e)) = same_some j k (number_of (map (λ p. p.path) all) a.of.path) (number_is j a.of a.ready.is) (ap (number_of (map (λ p. p.path) all)) e ∙ number_is k b.of b.ready.is)
      go (inr (inr e)) = absurd (a.least k b.of b.ready e)

  nothing_else : (placed other : List ℕ) → ((k : ℕ) (p : Package Span) → order.IsReady all placed k p → ⊥) → order.Follows all placed other → [] ≡ other
  nothing_else _ _ f (order.none placed g) = refl
  nothing_else _ _ f (order.next placed k rest n g) = absurd (f k n.of n.ready)

  pub one_order : (placed a b : List ℕ) → order.Follows all placed a → order.Follows all placed b → a ≡ b
  one_order _ _ b (order.none placed f) g = nothing_else placed b f g
  one_order _ _ b (order.next placed k rest n f) g = others placed b k rest n (λ c h. one_order (placed ++ k ∷ []) rest c f h) g
    where
      others : (placed b : List ℕ) (k : ℕ) (rest : List ℕ) → order.IsNext all placed k
          → ((c : List ℕ) → order.Follows all (placed ++ k ∷ []) c → rest ≡ c)
          → order.Follows all placed b → (k ∷ rest) ≡ b
      others _ _ k rest n ih (order.none placed g) = absurd (g k n.of n.ready)
      others _ _ k rest n ih (order.next placed j more m g) =
          let same = one_next placed j k m n in
          ap (λ r. k ∷ r) (ih more (subst (λ i. order.Follows all (placed ++ i ∷ []) more) same g)) ∙ ap (λ i. i ∷ more) (sym same)

  among_some : (placed rest : List ℕ) → order.Follows all placed rest → (k : ℕ) → is_among rest k ≡ true → k < length all
  among_some _ _ (order.none placed f) k e = absurd (true≢false (sym e))
  among_some _ _ (order.next placed j rest n f) k e = by (split_or (j == k) (is_among rest k) e) (got_within all j n.of n.ready.is) (among_some (placed ++ j ∷ []) rest f k)
    where
      by : ((j == k) ≡ true) ⊎ (is_among rest k ≡ true) → j < length all → (is_among rest k ≡ true → k < length all) → k < length all
      by (inl g) h i = subst (λ m. m < length all) (among_same j k g) h
      by (inr g) h i = i g

pub orders_are_unique : OrdersAreUnique
orders_are_unique home files nums f other g = one_order home files [] nums other f g

pub orders_hold_packages : OrdersHoldPackages
orders_hold_packages home files nums f k e = among_some home files [] nums f k e

pub orders_hold_all : OrdersHoldAll
orders_hold_all home files nums f n a k h = holds_all home files n nums f a k h

pub all_have_no_cycle : AllHaveNoCycle
all_have_no_cycle home files nums f n a = no_cycle_left home files n nums f a

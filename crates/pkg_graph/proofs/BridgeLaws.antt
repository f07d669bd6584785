-- Packages and their numbers.
use Rattle.std.proofs.Common.{◌≡◌, ◌∙◌, ◌==◌, ◌<◌, ℕ, zero, suc, Bool, true, false, ◌||◌, ◌&&◌, not, if◌then◌else◌, cond, List, [], ◌∷◌, ◌++◌, length, map, find, refl, sym, ap, subst, Option, Some, None, arith, bytes_eq, slice_index_or, codes}
use Rattle.std.proofs.lemmas.Bool.{true≢false}
use Rattle.std.proofs.lemmas.List.{map-append, append_assoc, append-nil, length-map}
use Rattle.std.specs.List.{list_any, list_all, slice_get, Contains}
use Rattle.std.specs.Option.{option_to_list}
use Rattle.go_tree.specs.declared.spans.Span.{Span}
use Rattle.go_tree.specs.File.{ImportSpec}
use Rattle.pkg_graph.specs.Package.{SourceTree, Package, import_specs, home_of, files_of, first_seen, package_of, packages_of}
use Rattle.pkg_graph.specs.Graph.{ImportAt, imports_from, all_imports, files_import, imports_of, Imports, imported, Leads, directly, over as lead_over, IsLeastOnCycle, is_named_by, first_unnamed}
use Rattle.pkg_graph.specs.Order as order
use Rattle.pkg_graph.specs.ModuleFiles.Pieces.{comes_before}
use Rattle.pkg_graph.specs.ModuleFiles.PathLists.{number_of, has_path, path_at, AreDistinct}
use Rattle.pkg_graph.specs.ImportOrder.Numbers.{AreLinks, is_among, row, Reaches, straight, over, IsReadyNumber, IsNextNumber, FollowsNumbers, none, next}
use Rattle.pkg_graph.specs.ImportViews.{specs_view, link_to, links_from, AreLinksOf}
use Rattle.pkg_graph.proofs.ModuleFiles.PathLaws.{are_same, same_path, has_number, before}
use Rattle.pkg_graph.proofs.ImportOrder.NumberLaws.{number_at, among_same, self_same, all_each, among_push, among_kept}
use Rattle.std.proofs.lemmas.List.Folds.{list_any-append}
use Rattle.pkg_graph.proofs.PackageLaws.{paths_are}

-- ---- the numbers of the packages that a package imports

abbrev pub numbers_of : List (List ℕ) → List (List ℕ) → List ℕ
numbers_of paths [] = []
numbers_of paths (q ∷ qs) = option_to_list (number_of paths q) ++ numbers_of paths qs

numbers_append : (paths qs rs : List (List ℕ)) → numbers_of paths (qs ++ rs) ≡ numbers_of paths qs ++ numbers_of paths rs
numbers_append paths [] rs = refl
numbers_append paths (q ∷ qs) rs = ap (λ r. option_to_list (number_of paths q) ++ r) (numbers_append paths qs rs) ∙ sym (append_assoc (option_to_list (number_of paths q)) (numbers_of paths qs) (numbers_of paths rs))

links_append : (paths : List (List ℕ)) (path : List ℕ) (is js : List (ImportAt Span)) → links_from paths path (is ++ js) ≡ links_from paths path is ++ links_from paths path js
links_append paths path [] js = refl
links_append paths path (i ∷ is) js = ap (λ r. link_to paths path i.from i.spec.path ++ r) (links_append paths path is js) ∙ sym (append_assoc (link_to paths path i.from i.spec.path) (links_from paths path is) (links_from paths path js))

specs_by : (paths : List (List ℕ)) (path from : List ℕ) (file : ℕ) (ss : List (ImportSpec Span)) (t : Bool) → bytes_eq path from ≡ t → links_from paths path (specs_view file from ss) ≡ (if t then numbers_of paths (map (λ s. s.path) ss) else [])
specs_by paths path from file [] true e = refl
specs_by paths path from file [] false e = refl
specs_by paths path from file (s ∷ ss) true e = rw (e, specs_by paths path from file ss true e) refl
specs_by paths path from file (s ∷ ss) false e = rw (e, specs_by paths path from file ss false e) refl

rows_by : (home : List ℕ) (paths : List (List ℕ)) (path : List ℕ) (k : ℕ) (f : SourceTree Span) (fs : List (SourceTree Span)) (t : Bool) → links_from paths path (imports_from (suc k) home fs) ≡ numbers_of paths (files_import (files_of home fs path))
    → (if t then numbers_of paths (map (λ s. s.path) (import_specs f.tree)) else []) ++ links_from paths path (imports_from (suc k) home fs) ≡ numbers_of paths (files_import (cond t (f ∷ files_of home fs path) (files_of home fs path)))
rows_by home paths path k f fs true h = ap (λ r. numbers_of paths (map (λ s. s.path) (import_specs f.tree)) ++ r) h ∙ sym (numbers_append paths (map (λ s. s.path) (import_specs f.tree)) (files_import (files_of home fs path)))
rows_by home paths path k f fs false h = h

rows_from : (home : List ℕ) (paths : List (List ℕ)) (path : List ℕ) (k : ℕ) (fs : List (SourceTree Span)) → links_from paths path (imports_from k home fs) ≡ numbers_of paths (files_import (files_of home fs path))
rows_from home paths path k [] = refl
rows_from home paths path k (f ∷ fs) =
    links_append paths path (specs_view k (home_of home f) (import_specs f.tree)) (imports_from (suc k) home fs)
    ∙ ap (λ r. r ++ links_from paths path (imports_from (suc k) home fs)) (specs_by paths path (home_of home f) k (import_specs f.tree) (bytes_eq path (home_of home f)) refl)
    ∙ rows_by home paths path k f fs (bytes_eq path (home_of home f)) (rows_from home paths path (suc k) fs)

-- for each package the numbers of those that it imports
pub record LinksAre (ps : List (Package Span)) (paths : List (List ℕ)) (links : List (List ℕ)) : Type 0 where
  pub paths_are : paths ≡ map (λ p. p.path) ps
  pub size : length links ≡ length ps
  pub rows : (k : ℕ) (p : Package Span) → slice_get ps k ≡ Some p → row links k ≡ numbers_of paths (imports_of p)

-- ---- an element by its number

pub got_within : {A : Type 0} (xs : List A) (k : ℕ) (x : A) → slice_get xs k ≡ Some x → k < length xs
got_within [] k x e = absurd (cc)
got_within (y ∷ ys) zero x e = omega arith
got_within (y ∷ ys) (suc k) x e = let h : k < length ys = got_within ys k x e in omega (arith, h)

pub got_at : {A B : Type 0} (f : A → B) (d : B) (xs : List A) (k : ℕ) (x : A) → slice_get xs k ≡ Some x → slice_index_or (map f xs) k d ≡ f x
got_at f d [] k x e = absurd (cc)
got_at f d (y ∷ ys) zero x e = let s : y ≡ x = cc in ap f s
got_at f d (y ∷ ys) (suc k) x e = got_at f d ys k x e

pub record Got {A : Type 0} (xs : List A) (k : ℕ) : Type 0 where
  pub value : A
  pub is : slice_get xs k ≡ Some value

pub get_one : {A : Type 0} (xs : List A) (k : ℕ) → k < length xs → Got xs k
get_one [] k h = absurd (omega (arith, h))
get_one (x ∷ xs) zero h = record { value = x; is = refl }
get_one (x ∷ xs) (suc k) h = let l : k < length xs = omega (arith, h) in let g = get_one xs k l in record { value = g.value; is = g.is }

package_got : (home : List ℕ) (fs : List (SourceTree Span)) (ks : List (List ℕ)) (k : ℕ) (p : Package Span) → slice_get (map (package_of home fs) ks) k ≡ Some p → p ≡ package_of home fs (path_at ks k)
package_got home fs [] k p e = absurd (cc)
package_got home fs (q ∷ qs) zero p e = sym (cc)
package_got home fs (q ∷ qs) (suc k) p e = package_got home fs qs k p e

pub links_are : (home : List ℕ) (fs : List (SourceTree Span)) (paths links : List (List ℕ)) → paths ≡ map (λ p. p.path) (packages_of home fs) → AreLinksOf paths (all_imports home fs) links → LinksAre (packages_of home fs) paths links
links_are home fs paths links e a = record {
  paths_are = e;
  size = a.size ∙ ap length e ∙ length-map (packages_of home fs) (λ p. p.path);
  rows = λ k p g.
      let l : k < length paths = rw (e, length-map (packages_of home fs) (λ p. p.path)) (got_within (packages_of home fs) k p g) in
      let same = e ∙ paths_are home fs in
      a.rows k l ∙ rows_from home paths (path_at paths k) 0 fs ∙ ap (λ q. numbers_of paths (imports_of q)) (ap (λ qs. package_of home fs (path_at qs k)) same ∙ sym (package_got home fs (first_seen (map (home_of home) fs)) k p g));
}

-- ---- which numbers

or_second : (a b : Bool) → b ≡ true → (a || b) ≡ true
or_second true b e = refl
or_second false b e = e

among_behind : (xs ys : List ℕ) (m : ℕ) → is_among ys m ≡ true → is_among (xs ++ ys) m ≡ true
among_behind [] ys m e = e
among_behind (x ∷ xs) ys m e = or_second (x == m) (is_among (xs ++ ys) m) (among_behind xs ys m e)

record Named (paths qs : List (List ℕ)) (m : ℕ) : Type 0 where
  path : List ℕ
  has : has_path qs path ≡ true
  number : number_of paths path ≡ Some m

named_more : (paths : List (List ℕ)) (q : List ℕ) (qs : List (List ℕ)) (m : ℕ) → Named paths qs m → Named paths (q ∷ qs) m
named_more paths q qs m n = record { path = n.path; has = or_second (bytes_eq n.path q) (has_path qs n.path) n.has; number = n.number }

among_by : (paths : List (List ℕ)) (q : List ℕ) (qs : List (List ℕ)) (m : ℕ) (o : Option ℕ) (t : Bool) → number_of paths q ≡ o → (is_among (option_to_list o ++ numbers_of paths qs) m ≡ true) → (is_among (numbers_of paths qs) m ≡ true → Named paths qs m) → Named paths (q ∷ qs) m
among_by paths q qs m None t e h f = named_more paths q qs m (f h)
among_by paths q qs m (Some j) t e h f = go (j == m) refl h
  where
    go : (s : Bool) → (j == m) ≡ s → (s || is_among (numbers_of paths qs) m) ≡ true → Named paths (q ∷ qs) m
    go true s k = record { path = q; has = ap (λ b. b || has_path qs q) (same_path q); number = e ∙ ap Some (among_same j m s) }
    go false s k = named_more paths q qs m (f k)

among_numbers : (paths qs : List (List ℕ)) (m : ℕ) → is_among (numbers_of paths qs) m ≡ true → Named paths qs m
among_numbers paths [] m h = absurd (true≢false (sym h))
among_numbers paths (q ∷ qs) m h = among_by paths q qs m (number_of paths q) true refl h (among_numbers paths qs m)

numbers_by : (paths : List (List ℕ)) (q x : List ℕ) (qs : List (List ℕ)) (m : ℕ) (t : Bool) → bytes_eq q x ≡ t → number_of paths q ≡ Some m → (t || has_path qs q) ≡ true → (has_path qs q ≡ true → is_among (numbers_of paths qs) m ≡ true) → is_among (option_to_list (number_of paths x) ++ numbers_of paths qs) m ≡ true
numbers_by paths q x qs m true e n h f = rw (sym (ap (number_of paths) (are_same q x e)) ∙ n, self_same m) refl
numbers_by paths q x qs m false e n h f = among_behind (option_to_list (number_of paths x)) (numbers_of paths qs) m (f h)

numbers_among : (paths qs : List (List ℕ)) (q : List ℕ) (m : ℕ) → number_of paths q ≡ Some m → has_path qs q ≡ true → is_among (numbers_of paths qs) m ≡ true
numbers_among paths [] q m n h = absurd (true≢false (sym h))
numbers_among paths (x ∷ xs) q m n h = numbers_by paths q x xs m (bytes_eq q x) refl n h (numbers_among paths xs q m n)

-- ---- what lists contain

contains_next : {A : Type 0} (x y : A) (xs : List A) → Contains xs x → Contains (y ∷ xs) x
contains_next x y xs c = let h : c.0 < length xs = c.1 in (suc c.0, omega (arith, h), c.2)

has_contains_by : (q x : List ℕ) (xs : List (List ℕ)) (t : Bool) → bytes_eq q x ≡ t → (t || has_path xs q) ≡ true → (has_path xs q ≡ true → Contains xs q) → Contains (x ∷ xs) q
has_contains_by q x xs true e h f = (0, omega arith, sym (are_same q x e))
has_contains_by q x xs false e h f = contains_next q x xs (f h)

has_contains : (q : List ℕ) (xs : List (List ℕ)) → has_path xs q ≡ true → Contains xs q
has_contains q [] h = absurd (true≢false (sym h))
has_contains q (x ∷ xs) h = has_contains_by q x xs (bytes_eq q x) refl h (has_contains q xs)

contains_has_at : (q : List ℕ) (xs : List (List ℕ)) (k : ℕ) → k < length xs → slice_index_or xs k q ≡ q → has_path xs q ≡ true
contains_has_at q [] k h e = absurd (omega (arith, h))
contains_has_at q (x ∷ xs) zero h e = ap (λ b. b || has_path xs q) (ap (bytes_eq q) e ∙ same_path q)
contains_has_at q (x ∷ xs) (suc k) h e = let l : k < length xs = omega (arith, h) in or_second (bytes_eq q x) (has_path xs q) (contains_has_at q xs k l e)

contains_has : (q : List ℕ) (xs : List (List ℕ)) → Contains xs q → has_path xs q ≡ true
contains_has q xs c = contains_has_at q xs c.0 c.1 c.2

got_contains : {A : Type 0} (x : A) (xs : List A) (k : ℕ) → slice_get xs k ≡ Some x → Contains xs x
got_contains x [] k e = absurd (cc)
got_contains x (y ∷ ys) zero e = (0, omega arith, cc)
got_contains x (y ∷ ys) (suc k) e = contains_next x y ys (got_contains x ys k e)

contains_got_at : {A : Type 0} (x : A) (xs : List A) (k : ℕ) → k < length xs → slice_index_or xs k x ≡ x → slice_get xs k ≡ Some x
contains_got_at x [] k h e = absurd (omega (arith, h))
contains_got_at x (y ∷ ys) zero h e = ap Some e
contains_got_at x (y ∷ ys) (suc k) h e = let l : k < length ys = omega (arith, h) in contains_got_at x ys k l e

-- ---- packages and numbers

module _ (ps : List (Package Span)) (paths links : List (List ℕ)) (links_of : LinksAre ps paths links) (distinct : AreDistinct paths)
    (named : (k : ℕ) (p : Package Span) → slice_get ps k ≡ Some p → (q : List ℕ) → has_path (imports_of p) q ≡ true → has_path paths q ≡ true) where
  pub path_of : (k : ℕ) (p : Package Span) → slice_get ps k ≡ Some p → path_at paths k ≡ p.path
  path_of k p g = ap (λ r. path_at r k) links_of.paths_are ∙ got_at (λ p. p.path) [] ps k p g

  size_is : length paths ≡ length ps
  size_is = ap length links_of.paths_are ∙ length-map ps (λ p. p.path)

  pub number_got : (k : ℕ) (p : Package Span) → slice_get ps k ≡ Some p → number_of paths p.path ≡ Some k
  number_got k p g = ap (number_of paths) (sym (path_of k p g)) ∙ distinct k (rw size_is (got_within ps k p g))

  record Row (i j : ℕ) : Type 0 where
    of : Package Span
    is : slice_get ps i ≡ Some of
    has : has_path (imports_of of) (path_at paths j) ≡ true
    within : j < length paths

  row_at : (i j : ℕ) → i < length ps → is_among (row links i) j ≡ true → Row i j
  row_at i j h e =
      let g = get_one ps i h in
      let n = among_numbers paths (imports_of g.value) j (sym (ap (λ r. is_among r j) (links_of.rows i g.value g.is)) ∙ e) in
      let at = number_at paths n.path j n.number in
      record { of = g.value; is = g.is; has = ap (has_path (imports_of g.value)) at.1 ∙ n.has; within = at.0 }

  row_within : (i j : ℕ) → is_among (row links i) j ≡ true → i < length ps
  row_within i j e = rw (← links_of.size) (within links i e)
    where
      within : (rows : List (List ℕ)) (i : ℕ) → is_among (row rows i) j ≡ true → i < length rows
      within [] i e = absurd (true≢false (sym e))
      within (r ∷ rs) zero e = omega arith
      within (r ∷ rs) (suc i) e = let h : i < length rs = within rs i e in omega (arith, h)

  row_of : (i j : ℕ) → is_among (row links i) j ≡ true → Row i j
  row_of i j e = row_at i j (row_within i j e) e

  pub are_links : AreLinks links
  are_links k m e = rw (links_of.size, ← size_is) ((row_of k m e).within)

  one_import : (i j : ℕ) → Row i j → Imports ps (path_at paths i) (path_at paths j)
  one_import i j r = subst (λ q. Imports ps q (path_at paths j)) (sym (path_of i r.of r.is)) (imported r.of (path_at paths j) (got_contains r.of ps i r.is) (has_contains (path_at paths j) (imports_of r.of) r.has))

  -- imports lead from path to path as they lead from number to number
  pub leads_from_reaches : (i j : ℕ) → Reaches links i j → Leads ps (path_at paths i) (path_at paths j)
  leads_from_reaches _ _ (straight i j e) = directly (one_import i j (row_of i j e))
  leads_from_reaches _ _ (over i k j e r) = lead_over (one_import i k (row_of i k e)) (leads_from_reaches k j r)

  record Link (from to : List ℕ) : Type 0 where
    i : ℕ
    j : ℕ
    from_is : number_of paths from ≡ Some i
    to_is : number_of paths to ≡ Some j
    link : is_among (row links i) j ≡ true

  link_of : (from to : List ℕ) → Imports ps from to → Link from to
  link_of _ _ (imported p to c d) =
      let g = contains_got_at p ps c.0 c.1 c.2 in
      let h = contains_has to (imports_of p) d in
      let n = has_number to paths (named c.0 p g to h) in
      let j = before to paths in
      record { i = c.0; j = j; from_is = number_got c.0 p g; to_is = n; link = ap (λ r. is_among r j) (links_of.rows c.0 p g) ∙ numbers_among paths (imports_of p) to j n h }

  pub record Reached (from to : List ℕ) : Type 0 where
    pub i : ℕ
    pub j : ℕ
    pub from_is : number_of paths from ≡ Some i
    pub to_is : number_of paths to ≡ Some j
    pub reaches : Reaches links i j

  same_some : (a b : ℕ) (o : Option ℕ) → o ≡ Some a → o ≡ Some b → a ≡ b
  same_some a b o e f = cc

  join : (from mid to : List ℕ) → Link from mid → Reached mid to → Reached from to
  join from mid to l r = record {
    i = l.i;
    j = r.j;
    from_is = l.from_is;
    to_is = r.to_is;
    reaches = over l.i l.j r.j l.link (subst (λ k. Reaches links k r.j) (same_some r.i l.j (number_of paths mid) r.from_is l.to_is) r.reaches);
  }

  alone : (from to : List ℕ) → Link from to → Reached from to
  alone from to l = record { i = l.i; j = l.j; from_is = l.from_is; to_is = l.to_is; reaches = straight l.i l.j l.link }

  pub reached : (from to : List ℕ) → Leads ps from to → Reached from to
  reached _ _ (directly {from = a} {to = b} e) = alone a b (link_of a b e)
  reached _ _ (lead_over {from = a} {next = m} {to = b} e l) = join a m b (link_of a m e) (reached m b l)

  pub no_cycle : ((k : ℕ) → Reaches links k k → ⊥) → (path : List ℕ) → Leads ps path path → ⊥
  no_cycle f path l = let r = reached path path l in f r.i (subst (λ k. Reaches links r.i k) (same_some r.j r.i (number_of paths path) r.to_is r.from_is) r.reaches)

  pub least_cycle : (k : ℕ) → Reaches links k k → ((j : ℕ) → Reaches links j j → comes_before (path_at paths j) (path_at paths k) ≡ true → ⊥) → IsLeastOnCycle ps (path_at paths k)
  least_cycle k r f = record {
    lies = leads_from_reaches k k r;
    least = λ other l b.
        let o = reached other other l in
        f o.i (subst (λ k. Reaches links o.i k) (same_some o.j o.i (number_of paths other) o.to_is o.from_is) o.reaches) (ap (λ q. comes_before q (path_at paths k)) ((number_at paths other o.i o.from_is).1) ∙ b);
  }

  -- ---- the order

  any_alike : (f g : ℕ → Bool) → ((k : ℕ) → f k ≡ g k) → (xs : List ℕ) → list_any f xs ≡ list_any g xs
  any_alike f g e [] = refl
  any_alike f g e (x ∷ xs) = rw (e x, any_alike f g e xs) refl

  at_by : (q : List ℕ) (j k : ℕ) (o : Option (Package Span)) (t : Bool) → slice_get ps k ≡ o → (k == j) ≡ t → number_of paths q ≡ Some j → order.has_path ps q o ≡ t
  at_by q j k None true e f n =
      let at = number_at paths q j n in
      let h : k < length ps = rw (← size_is, among_same k j f) at.0 in
      let g = get_one ps k h in absurd (cc (e, g.is))
  at_by q j k None false e f n = refl
  at_by q j k (Some p) true e f n = ap (λ r. bytes_eq r p.path) (sym ((number_at paths q j n).1) ∙ ap (path_at paths) (sym (among_same k j f)) ∙ path_of k p e) ∙ same_path p.path
  at_by q j k (Some p) false e f n = go (bytes_eq q p.path) refl
    where
      go : (b : Bool) → bytes_eq q p.path ≡ b → bytes_eq q p.path ≡ false
      go false h = h
      go true h = absurd (true≢false (sym (self_same k) ∙ ap (λ i. k == i) (same_some k j (number_of paths q) (ap (number_of paths) (are_same q p.path h) ∙ number_got k p e) n) ∙ f))

  placed_is : (placed : List ℕ) (q : List ℕ) (j : ℕ) → number_of paths q ≡ Some j → order.is_placed ps placed q ≡ is_among placed j
  placed_is placed q j n = any_alike (λ k. order.has_path ps q (slice_get ps k)) (λ k. k == j) (λ k. at_by q j k (slice_get ps k) (k == j) refl refl n) placed

  all_placed : (placed : List ℕ) (qs : List (List ℕ)) → ((q : List ℕ) → has_path qs q ≡ true → has_path paths q ≡ true) → list_all (order.is_placed ps placed) qs ≡ list_all (is_among placed) (numbers_of paths qs)
  all_placed placed [] h = refl
  all_placed placed (q ∷ qs) h =
      let n = has_number q paths (h q (ap (λ b. b || has_path qs q) (same_path q))) in
      rw (n, placed_is placed q (before q paths) n, all_placed placed qs (λ r e. h r (or_second (bytes_eq r q) (has_path qs r) e))) refl

  row_is : (placed : List ℕ) (k : ℕ) (p : Package Span) → slice_get ps k ≡ Some p → list_all (order.is_placed ps placed) (imports_of p) ≡ list_all (is_among placed) (row links k)
  row_is placed k p g = all_placed placed (imports_of p) (named k p g) ∙ ap (list_all (is_among placed)) (sym (links_of.rows k p g))

  pub number_ready : (placed : List ℕ) (k : ℕ) (p : Package Span) → order.IsReady ps placed k p → IsReadyNumber links placed k
  number_ready placed k p r = record { within = rw links_of.size (got_within ps k p r.is); open_ = r.open_; imports = sym (row_is placed k p r.is) ∙ r.imports }

  pub package_ready : (placed : List ℕ) (k : ℕ) (p : Package Span) → slice_get ps k ≡ Some p → IsReadyNumber links placed k → order.IsReady ps placed k p
  package_ready placed k p g r = record { is = g; open_ = r.open_; imports = row_is placed k p g ∙ r.imports }

  package_next : (placed : List ℕ) (k : ℕ) → IsNextNumber links paths placed k → order.IsNext ps placed k
  package_next placed k n =
      let g = get_one ps k (rw (← links_of.size) n.ready.within) in
      record {
        of = g.value;
        ready = package_ready placed k g.value g.is n.ready;
        least = λ j p r b. n.least j (number_ready placed j p r) (ap (λ a. comes_before a (path_at paths k)) (path_of j p r.is) ∙ ap (comes_before p.path) (path_of k g.value g.is) ∙ b);
      }

  pub follows : (placed rest : List ℕ) → FollowsNumbers links paths placed rest → order.Follows ps placed rest
  follows _ _ (none placed f) = order.none placed (λ k p r. f k (number_ready placed k p r))
  follows _ _ (next placed k rest n f) = order.next placed k rest (package_next placed k n) (follows (placed ++ k ∷ []) rest f)

-- ---- what is placed lies on no cycle

record IsClosed (links : List (List ℕ)) (placed : List ℕ) : Type 0 where
  closed : (k m : ℕ) → is_among placed k ≡ true → is_among (row links k) m ≡ true → is_among placed m ≡ true
  off : (k : ℕ) → is_among placed k ≡ true → Reaches links k k → ⊥

stays_in : (links : List (List ℕ)) (placed : List ℕ) → IsClosed links placed → (i j : ℕ) → is_among placed i ≡ true → Reaches links i j → is_among placed j ≡ true
stays_in links placed c _ _ h (straight i j e) = c.closed i j h e
stays_in links placed c _ _ h (over i k j e r) = stays_in links placed c k j (c.closed i k h e) r

in_placed : (links : List (List ℕ)) (placed : List ℕ) (k j : ℕ) → IsReadyNumber links placed k → IsClosed links placed → Reaches links k j → is_among placed j ≡ true
in_placed links placed _ _ r c (straight k j e) = all_each (is_among placed) (row links k) r.imports j e
in_placed links placed _ _ r c (over k m j e s) = stays_in links placed c m j (all_each (is_among placed) (row links k) r.imports m e) s

closed_by : (links : List (List ℕ)) (placed : List ℕ) (k : ℕ) → IsReadyNumber links placed k → IsClosed links placed → (q m : ℕ) (s t : Bool) → is_among placed q ≡ s → (k == q) ≡ t → (s || t) ≡ true → is_among (row links q) m ≡ true → is_among placed m ≡ true
closed_by links placed k r c q m true t e f h l = c.closed q m e l
closed_by links placed k r c q m false true e f h l = all_each (is_among placed) (row links k) r.imports m (subst (λ i. is_among (row links i) m ≡ true) (sym (among_same k q f)) l)
closed_by links placed k r c q m false false e f h l = absurd (true≢false (sym h))

off_by : (links : List (List ℕ)) (placed : List ℕ) (k : ℕ) → IsReadyNumber links placed k → IsClosed links placed → (q : ℕ) (s t : Bool) → is_among placed q ≡ s → (k == q) ≡ t → (s || t) ≡ true → Reaches links q q → ⊥
off_by links placed k r c q true t e f h l = c.off q e l
off_by links placed k r c q false true e f h l = true≢false (sym (in_placed links placed k k r c (subst (λ i. Reaches links i i) (sym (among_same k q f)) l)) ∙ r.open_)
off_by links placed k r c q false false e f h l = true≢false (sym h)

closed_next : (links : List (List ℕ)) (placed : List ℕ) (k : ℕ) → IsReadyNumber links placed k → IsClosed links placed → IsClosed links (placed ++ k ∷ [])
closed_next links placed k r c = record {
  closed = λ q m h l. among_kept placed k m (closed_by links placed k r c q m (is_among placed q) (k == q) refl refl (sym (among_push placed k q) ∙ h) l);
  off = λ q h l. off_by links placed k r c q (is_among placed q) (k == q) refl refl (sym (among_push placed k q) ∙ h) l;
}

closed_all : (links paths : List (List ℕ)) (placed rest : List ℕ) → FollowsNumbers links paths placed rest → IsClosed links placed → IsClosed links (placed ++ rest)
closed_all links paths _ _ (none placed f) c = subst (IsClosed links) (sym (append-nil placed)) c
closed_all links paths _ _ (next placed k rest n f) c = subst (IsClosed links) (append_assoc placed (k ∷ []) rest) (closed_all links paths (placed ++ k ∷ []) rest f (closed_next links placed k n.ready c))

pub placed_off : (links paths : List (List ℕ)) (placed : List ℕ) → FollowsNumbers links paths [] placed → (k : ℕ) → is_among placed k ≡ true → Reaches links k k → ⊥
placed_off links paths placed f = (closed_all links paths [] placed f (record { closed = λ k m h e. absurd (true≢false (sym h)); off = λ k h r. true≢false (sym h) })).off

-- ---- imports that name packages

is_named_has_by : (q : List ℕ) (p : Package Span) (ps : List (Package Span)) (s t : Bool) → bytes_eq q p.path ≡ s → ((s && t) || list_any (is_named_by q) ps) ≡ true → (list_any (is_named_by q) ps ≡ true → has_path (map (λ p. p.path) ps) q ≡ true) → (s || has_path (map (λ p. p.path) ps) q) ≡ true
is_named_has_by q p ps true t e h f = refl
is_named_has_by q p ps false t e h f = f h

is_named_has : (q : List ℕ) (ps : List (Package Span)) → list_any (is_named_by q) ps ≡ true → has_path (map (λ p. p.path) ps) q ≡ true
is_named_has q [] h = absurd (true≢false (sym h))
is_named_has q (p ∷ ps) h = is_named_has_by q p ps (bytes_eq q p.path) (not (bytes_eq p.name (codes "main"))) refl h (is_named_has q ps)

has_append : (q : List ℕ) (xs ys : List (List ℕ)) → has_path (xs ++ ys) q ≡ (has_path xs q || has_path ys q)
has_append q xs ys = list_any-append (bytes_eq q) xs ys

paths_view : (file : ℕ) (from : List ℕ) (ss : List (ImportSpec Span)) → map (λ i. i.spec.path) (specs_view file from ss) ≡ map (λ s. s.path) ss
paths_view file from [] = refl
paths_view file from (s ∷ ss) = ap (λ r. s.path ∷ r) (paths_view file from ss)

in_all_by : (q : List ℕ) (a : Bool) (f : SourceTree Span) (home path : List ℕ) (fs : List (SourceTree Span)) (b t : Bool) → has_path (map (λ s. s.path) (import_specs f.tree)) q ≡ a → (has_path (files_import (files_of home fs path)) q ≡ true → b ≡ true)
    → has_path (files_import (cond t (f ∷ files_of home fs path) (files_of home fs path))) q ≡ true → (a || b) ≡ true
in_all_by q a f home path fs b false e g h = or_second a b (g h)
in_all_by q true f home path fs b true e g h = refl
in_all_by q false f home path fs b true e g h = g (ap (λ x. x || has_path (files_import (files_of home fs path)) q) (sym e) ∙ sym (has_append q (map (λ s. s.path) (import_specs f.tree)) (files_import (files_of home fs path))) ∙ h)

in_all : (home path q : List ℕ) (k : ℕ) (fs : List (SourceTree Span)) → has_path (files_import (files_of home fs path)) q ≡ true → has_path (map (λ i. i.spec.path) (imports_from k home fs)) q ≡ true
in_all home path q k [] h = absurd (true≢false (sym h))
in_all home path q k (f ∷ fs) h =
    ap (λ r. has_path r q) (map-append (λ i. i.spec.path) (specs_view k (home_of home f) (import_specs f.tree)) (imports_from (suc k) home fs))
    ∙ has_append q (map (λ i. i.spec.path) (specs_view k (home_of home f) (import_specs f.tree))) (map (λ i. i.spec.path) (imports_from (suc k) home fs))
    ∙ ap (λ r. has_path r q || has_path (map (λ i. i.spec.path) (imports_from (suc k) home fs)) q) (paths_view k (home_of home f) (import_specs f.tree))
    ∙ in_all_by q (has_path (map (λ s. s.path) (import_specs f.tree)) q) f home path fs (has_path (map (λ i. i.spec.path) (imports_from (suc k) home fs)) q) (bytes_eq path (home_of home f)) refl (in_all home path q (suc k) fs) h

each_by : (g : List ℕ → Bool) (q : List ℕ) (i : ImportAt Span) (is : List (ImportAt Span)) (s t : Bool) → g i.spec.path ≡ s → bytes_eq q i.spec.path ≡ t → cond (not s) (Some i) (find (λ i. not (g i.spec.path)) is) ≡ None → (t || has_path (map (λ i. i.spec.path) is) q) ≡ true
    → (find (λ i. not (g i.spec.path)) is ≡ None → has_path (map (λ i. i.spec.path) is) q ≡ true → g q ≡ true) → g q ≡ true
each_by g q i is false t e f n h k = absurd (cc)
each_by g q i is true true e f n h k = ap g (are_same q i.spec.path f) ∙ e
each_by g q i is true false e f n h k = k n h

each_named : (g : List ℕ → Bool) (is : List (ImportAt Span)) (q : List ℕ) → find (λ i. not (g i.spec.path)) is ≡ None → has_path (map (λ i. i.spec.path) is) q ≡ true → g q ≡ true
each_named g [] q n h = absurd (true≢false (sym h))
each_named g (i ∷ is) q n h = each_by g q i is (g i.spec.path) (bytes_eq q i.spec.path) refl refl n h (each_named g is q)

-- where each import names a package, each path that a package imports is that of a package
pub all_named : (home : List ℕ) (fs : List (SourceTree Span)) → first_unnamed home fs ≡ None → (k : ℕ) (p : Package Span) → slice_get (packages_of home fs) k ≡ Some p → (q : List ℕ) → has_path (imports_of p) q ≡ true → has_path (map (λ p. p.path) (packages_of home fs)) q ≡ true
all_named home fs n k p g q h =
    let path = path_at (first_seen (map (home_of home) fs)) k in
    let i : has_path (files_import (files_of home fs path)) q ≡ true = ap (λ r. has_path (imports_of r) q) (sym (package_got home fs (first_seen (map (home_of home) fs)) k p g)) ∙ h in
    is_named_has q (packages_of home fs) (each_named (λ q. list_any (is_named_by q) (packages_of home fs)) (all_imports home fs) q n (in_all home path q 0 fs i))

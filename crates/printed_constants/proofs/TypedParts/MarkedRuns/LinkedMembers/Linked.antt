-- In packages of which each has a file, and no two one path, each import is of a package before, in their order.
use Rattle.std.proofs.Common.{◌≡◌, refl, sym, ◌∙◌, subst, ◌⊎◌, inl, inr, ℕ, zero, suc, ◌+◌, ◌==◌, Bool, true, false, not, ◌||◌, List, [], ◌∷◌, ◌++◌, map, length, Option, Some, None, if◌then◌else◌, arith}
use Rattle.std.specs.Prelude.{nat_eq, slice_get}
use Rattle.std.specs.List.{list_any, list_all}
use Rattle.std.proofs.lemmas.Option.{same_Some}
use Rattle.std.proofs.lemmas.Slice.Eq.{bytes_eq-Decides}
use Rattle.go_tree.specs.File.{ImportSpec}
use Rattle.pkg_graph.specs.ModuleFiles.Pieces.{comes_before}
use Rattle.pkg_graph.specs.Package.{SourceTree, Package, import_specs}
use Rattle.pkg_graph.specs.Graph.{imports_of, files_import}
use Rattle.pkg_graph.specs.Order.{has_path, is_placed}
use Rattle.go_translation.specs.Packages as translated
use Rattle.go_translation.specs.Packages.{has_number, imports_known, are_linked}
use Rattle.run_rules.specs.Programs.{numbered, numbered_from, package_number, is_ready, lesser, least_ready, ordered_after, linked_import, linked_file, linked_package}
use Rattle.typed_in_place.proofs.Rising.{and_first, and_second, both_true}
use Rattle.order_runs.specs.RunSteps.RunPackages.{with_path, members_among, members_of}
use Rattle.order_runs.specs.CycleRuns.OrderedSteps.Ranks.{OwnPaths}
use Rattle.order_runs.proofs.CycleRuns.OrderedSteps.Members.{one-of}
use Rattle.order_runs.proofs.CycleRuns.LedImports.Homes.{package-path, package-there}
use Rattle.printed_constants.specs.TypedParts.MarkedRuns.LinkedMembers.Laws.{HaveFiles}

-- ---- the package that is placed next

module _ {S : Type 0} (ps : List (Package S)) (placed : List ℕ) where
  -- it is one of these, which are numbered from k on, and all that it imports is placed
  pub record Chosen (k : ℕ) (xs : List (Package S)) (q : ℕ × Package S) : Type 0 where
    pub nth : ℕ
    pub there : slice_get xs nth ≡ Some q.1
    pub number : q.0 ≡ k + nth
    pub ready : is_ready ps placed q ≡ true

  here : (k : ℕ) (x : Package S) (xs : List (Package S)) (q : ℕ × Package S) → is_ready ps placed (k, x) ≡ true → ◌≡◌ {A = Option (ℕ × Package S)} (Some (k, x)) (Some q) → Chosen k (x ∷ xs) q
  here k x xs q ready e = subst (λ (z : ℕ × Package S). Chosen k (x ∷ xs) z) (same_Some (k, x) q e) (record { nth = zero; there = refl; number = omega arith; ready = ready })

  further : (k : ℕ) (x : Package S) (xs : List (Package S)) (q : ℕ × Package S) → Chosen (suc k) xs q → Chosen k (x ∷ xs) q
  further k x xs q c = let m : q.0 ≡ suc k + c.nth = c.number in record { nth = suc c.nth; there = c.there; number = omega (arith, m); ready = c.ready }

  one-of-two : (k : ℕ) (x : Package S) (xs : List (Package S)) (q r : ℕ × Package S) (b : Bool) → is_ready ps placed (k, x) ≡ true → Chosen (suc k) xs r → ◌≡◌ {A = Option (ℕ × Package S)} (if b then Some r else Some (k, x)) (Some q) → Chosen k (x ∷ xs) q
  one-of-two k x xs q r true ready c e = subst (λ (z : ℕ × Package S). Chosen k (x ∷ xs) z) (same_Some r q e) (further k x xs r c)
  one-of-two k x xs q r false ready c e = here k x xs q ready e

  chosen-step : (k : ℕ) (x : Package S) (xs : List (Package S)) (q : ℕ × Package S) (b : Bool) (o : Option (ℕ × Package S)) → is_ready ps placed (k, x) ≡ b → ((r : ℕ × Package S) → o ≡ Some r → Chosen (suc k) xs r) → (if b then lesser (k, x) o else o) ≡ Some q → Chosen k (x ∷ xs) q
  chosen-step k x xs q false o ready h e = further k x xs q (h q e)
  chosen-step k x xs q true None ready h e = here k x xs q ready e
  chosen-step k x xs q true (Some r) ready h e = one-of-two k x xs q r (comes_before r.1.path x.path) ready (h r refl) e

  pub chosen : (k : ℕ) (xs : List (Package S)) (q : ℕ × Package S) → least_ready ps placed (numbered_from k xs) ≡ Some q → Chosen k xs q
  chosen k [] q e = absurd (no e)
    where
      no : ◌≡◌ {A = Option (ℕ × Package S)} None (Some q) → ⊥
      no g = cc
  chosen k (x ∷ xs) q e = chosen-step k x xs q (is_ready ps placed (k, x)) (least_ready ps placed (numbered_from (suc k) xs)) refl (λ r f. chosen (suc k) xs r f) e

-- ---- the imports of packages in their order

-- the last of some numbers
or-none : (b : Bool) → (b || false) ≡ true → b ≡ true
or-none true e = refl
or-none false e = e

or-true : (b : Bool) → (b || true) ≡ true
or-true true = refl
or-true false = refl

any-last : (j : ℕ) (xs : List ℕ) (k : ℕ) → list_any (λ i. i == j) (xs ++ k ∷ []) ≡ true → (list_any (λ i. i == j) xs ≡ true) ⊎ (nat_eq k j ≡ true)
any-last j [] k e = inr (or-none (nat_eq k j) e)
any-last j (x ∷ xs) k e = by (nat_eq x j) e (any-last j xs k)
  where
    by : (b : Bool) → (b || list_any (λ i. i == j) (xs ++ k ∷ [])) ≡ true → (list_any (λ i. i == j) (xs ++ k ∷ []) ≡ true → (list_any (λ i. i == j) xs ≡ true) ⊎ (nat_eq k j ≡ true)) → ((b || list_any (λ i. i == j) xs) ≡ true) ⊎ (nat_eq k j ≡ true)
    by true f r = inl refl
    by false f r = r f

module _ {S : Type 0} (ps : List (Package S)) (own : OwnPaths ps) (files : HaveFiles ps) where
  -- those that are placed stand before
  abbrev Before : List ℕ → List (translated.Package S) → Type 0
  Before placed before = (j : ℕ) → list_any (λ i. i == j) placed ≡ true → list_any (has_number j) before ≡ true

  found-by : (path : List ℕ) (o : Option (Package S)) → has_path ps path o ≡ true → (p : Package S) × (o ≡ Some p) × (p.path ≡ path)
  found-by path None e = cc
  found-by path (Some p) e = (p, refl, sym ((bytes_eq-Decides path p.path).0 e))

  path-known : (placed : List ℕ) (before : List (translated.Package S)) → Before placed before → (path : List ℕ) → is_placed ps placed path ≡ true → list_any (has_number (package_number ps path)) before ≡ true
  path-known placed before h path e =
      let one = one-of (λ j. has_path ps path (slice_get ps j)) placed e in
      let p = found-by path (slice_get ps one.0) one.2 in
      let q = package-there path ps one.0 p.0 p.1 p.2 in
      let same : package_number ps path ≡ one.0 = own (package_number ps path) one.0 q.0 p.0 q.1 p.1 (package-path path ps q.0 q.1 ∙ sym p.2) in
      subst (λ (n : ℕ). list_any (has_number n) before ≡ true) (sym same) (h one.0 one.1)

  specs-known : (placed : List ℕ) (before : List (translated.Package S)) → Before placed before → (ss : List (ImportSpec S)) (rest : List (List ℕ)) → list_all (is_placed ps placed) (map (λ s. s.path) ss ++ rest) ≡ true
      → (list_all (λ i. list_any (has_number i.of) before) (map (linked_import ps) ss) ≡ true) × (list_all (is_placed ps placed) rest ≡ true)
  specs-known placed before h [] rest e = (refl, e)
  specs-known placed before h (s ∷ ss) rest e =
      let r = specs-known placed before h ss rest (and_second (is_placed ps placed s.path) (list_all (is_placed ps placed) (map (λ s. s.path) ss ++ rest)) e) in
      (both_true (path-known placed before h s.path (and_first (is_placed ps placed s.path) (list_all (is_placed ps placed) (map (λ s. s.path) ss ++ rest)) e)) r.0, r.1)

  files-known : (placed : List ℕ) (before : List (translated.Package S)) → Before placed before → (fs : List (SourceTree S)) → list_all (is_placed ps placed) (files_import fs) ≡ true → list_all (imports_known before) (map (linked_file ps) fs) ≡ true
  files-known placed before h [] e = refl
  files-known placed before h (f ∷ fs) e = let r = specs-known placed before h (import_specs f.tree) (files_import fs) e in both_true r.0 (files-known placed before h fs r.1)

  -- a package that has a file, as the translation has it
  abbrev member : ℕ × Package S → SourceTree S → translated.Package S
  member q f = record { path = q.1.path; source = record { number = q.0; name = q.1.name; at = f.tree.package_name.span; files = map (linked_file ps) q.1.files } }

  grown : (placed : List ℕ) (before : List (translated.Package S)) → Before placed before → (q : ℕ × Package S) (f : SourceTree S) → Before (placed ++ q.0 ∷ []) (member q f ∷ before)
  grown placed before h q f j e = by (any-last j placed q.0 e)
    where
      by : (list_any (λ i. i == j) placed ≡ true) ⊎ (nat_eq q.0 j ≡ true) → (nat_eq q.0 j || list_any (has_number j) before) ≡ true
      by (inl a) = (λ z. nat_eq q.0 j || h j a z) ∙ or-true (nat_eq q.0 j)
      by (inr b) = λ z. b z || list_any (has_number j) before

  abbrev AllLinked : ℕ → Type 0
  AllLinked n = (placed : List ℕ) (before : List (translated.Package S)) → Before placed before → are_linked before (members_among ps (ordered_after ps n placed)) ≡ true

  linked-after : (n : ℕ) (placed : List ℕ) (before : List (translated.Package S)) → Before placed before → are_linked before (members_among ps (ordered_after ps n placed)) ≡ true
  linked-after zero placed before h = refl
  linked-after (suc n) placed before h = by (least_ready ps placed (numbered ps)) refl (λ placed before h. linked-after n placed before h)
    where
      with-files : (q : ℕ × Package S) → Chosen ps placed 0 ps q → AllLinked n → (fs : List (SourceTree S)) → q.1.files ≡ fs
          → are_linked before (with_path q.1.path (linked_package ps q fs) ++ members_among ps (ordered_after ps n (placed ++ q.0 ∷ []))) ≡ true
      with-files q c r [] g = absurd (files c.nth q.1 c.there g)
      with-files q c r (f ∷ fs) g =
          both_true (files-known placed before h q.1.files (and_second (not (list_any (λ j. j == q.0) placed)) (list_all (is_placed ps placed) (imports_of q.1)) c.ready))
          (r (placed ++ q.0 ∷ []) (member q f ∷ before) (grown placed before h q f))

      by : (o : Option (ℕ × Package S)) → least_ready ps placed (numbered ps) ≡ o → AllLinked n → are_linked before (members_among ps (elim o [ None ↦ [] | Some q ↦ q ∷ ordered_after ps n (placed ++ q.0 ∷ []) ])) ≡ true
      by None e r = refl
      by (Some q) e r = with-files q (chosen ps placed 0 ps q e) r q.1.files refl

  pub members-linked : are_linked [] (members_of ps) ≡ true
  members-linked = linked-after (length ps) [] [] (λ j e. e)

-- Keys are apart from imports where each file is found to be so, and there alone.
use Rattle.std.proofs.Common.{◌≡◌, refl, sym, subst, ◌⊎◌, inl, inr, ℕ, zero, suc, Bool, true, false, not, ◌&&◌, ◌||◌, List, [], ◌∷◌, Some}
use Rattle.std.specs.Prelude.{slice_get}
use Rattle.std.specs.List.{list_all}
use Rattle.std.proofs.lemmas.Option.{same_Some}
use Rattle.go_tree.specs.File.{ImportSpec}
use Rattle.go_tree.specs.GoTypes.Agreement.{In}
use Rattle.go_tree.specs.GoTypes.Answers.{is_among}
use Rattle.go_tree.specs.ScopeNames.Means.{is_blank}
use Rattle.pkg_graph.specs.Package.{SourceTree, Package, import_specs}
use Rattle.pkg_graph.specs.Members.{import_name}
use Rattle.order_runs.proofs.CycleRuns.ImportCycles.FreeIdentifiers.{in-left, in-right, in-either}
use Rattle.printed_constants.proofs.UsedImports.HeaderUses.{among_in, in_among}
use Rattle.run_rules.specs.Sites.{Where}
use Rattle.run_rules.specs.Steps.{At}
use Rattle.typed_in_place.proofs.Rising.{and_first, and_second}
use Rattle.constant_modules.specs.ApartKeys.Files.{is_value_name, import_apart, file_apart, keys_are_apart, KeysApart}
use Rattle.constant_modules.specs.ApartKeys.Keys.{decl_keys}
use Rattle.constant_modules.specs.ApartKeys.Laws.{FoundKeysAreApart, ApartKeysAreFound}
use Rattle.constant_modules.specs.CountedUses.Typed.{IsFileOf}
use Rattle.constant_modules.specs.LookUps.Beside.{names_over}

-- ---- all items of a list

both_true : (a b : Bool) → a ≡ true → b ≡ true → (a && b) ≡ true
both_true true b e f = f
both_true false b e f = e

module _ {A : Type 0} (f : A → Bool) where
  all_at : (xs : List A) (k : ℕ) (x : A) → list_all f xs ≡ true → slice_get xs k ≡ Some x → f x ≡ true
  all_at [] k x h e = absurd cc
  all_at (y ∷ xs) zero x h e = subst (λ (z : A). f z ≡ true) (same_Some y x e) (and_first (f y) (list_all f xs) h)
  all_at (y ∷ xs) (suc k) x h e = all_at xs k x (and_second (f y) (list_all f xs) h) e

  all_of : (xs : List A) → ((k : ℕ) (x : A) → slice_get xs k ≡ Some x → f x ≡ true) → list_all f xs ≡ true
  all_of [] h = refl
  all_of (y ∷ xs) h = both_true (f y) (list_all f xs) (h zero y refl) (all_of xs (λ k x e. h (suc k) x e))

module _ {A : Type 0} (f : A → List (List ℕ)) (m : List ℕ) where
  over_at : (xs : List A) (i : ℕ) (x : A) → slice_get xs i ≡ Some x → In m (f x) → In m (names_over f xs)
  over_at [] i x e j = absurd cc
  over_at (y ∷ xs) zero x e j = in-left m (f y) (names_over f xs) (subst (λ (z : A). In m (f z)) (sym (same_Some y x e)) j)
  over_at (y ∷ xs) (suc i) x e j = in-right m (f y) (names_over f xs) (over_at xs i x e j)

  -- the item that has it
  record HasAt (xs : List A) : Type 0 where
    nth : ℕ
    item : A
    there : slice_get xs nth ≡ Some item
    has : In m (f item)

  at_item : (xs : List A) → In m (names_over f xs) → HasAt xs
  at_item [] j = elim j [ ]
  at_item (y ∷ xs) j = by (in-either m (f y) (names_over f xs) j) (at_item xs)
    where
      by : In m (f y) ⊎ In m (names_over f xs) → (In m (names_over f xs) → HasAt xs) → HasAt (y ∷ xs)
      by (inl i) r = record { nth = zero; item = y; there = refl; has = i }
      by (inr i) r = let h = r i in record { nth = suc h.nth; item = h.item; there = h.there; has = h.has }

-- ---- imports of files

module _ (ps : List (Package At)) where
  abbrev of_package : Package At → Bool
  of_package p = list_all (λ (f : SourceTree At). file_apart ps f.tree) p.files

  clash : (b p a : Bool) → (b || not (p && a)) ≡ true → b ≡ false → p ≡ true → a ≡ true → ⊥
  clash true p a h e f g = cc
  clash false false a h e f g = cc
  clash false true true h e f g = cc
  clash false true false h e f g = cc

  found_one : keys_are_apart ps ≡ true → KeysApart ps
  found_one h w there k s g b p i d e q =
      clash (is_blank (import_name ps s)) (is_value_name (import_name ps s)) (is_among (import_name ps s) (names_over decl_keys w.source.tree.decls))
      (all_at (import_apart ps w.source.tree) (import_specs w.source.tree) k s
      (all_at (λ (f : SourceTree At). file_apart ps f.tree) w.of.files w.file_number w.source (all_at of_package ps w.number w.of h there.0) there.1) g)
      b p (among_in (import_name ps s) (names_over decl_keys w.source.tree.decls) (over_at decl_keys (import_name ps s) w.source.tree.decls i d e q))

  module _ (apart : KeysApart ps) where
    spec_apart : (w : Where At) → IsFileOf ps w → (k : ℕ) (s : ImportSpec At) → slice_get (import_specs w.source.tree) k ≡ Some s → import_apart ps w.source.tree s ≡ true
    spec_apart w there k s g = by (is_blank (import_name ps s)) refl (is_value_name (import_name ps s)) refl (is_among (import_name ps s) (names_over decl_keys w.source.tree.decls)) refl
      where
        none : is_blank (import_name ps s) ≡ false → is_value_name (import_name ps s) ≡ true → In (import_name ps s) (names_over decl_keys w.source.tree.decls) → ⊥
        none b c j = let x = at_item decl_keys (import_name ps s) w.source.tree.decls j in apart w there k s g b c x.nth x.item x.there x.has

        by : (b : Bool) → is_blank (import_name ps s) ≡ b → (c : Bool) → is_value_name (import_name ps s) ≡ c → (a : Bool) → is_among (import_name ps s) (names_over decl_keys w.source.tree.decls) ≡ a
            → (is_blank (import_name ps s) || not (is_value_name (import_name ps s) && is_among (import_name ps s) (names_over decl_keys w.source.tree.decls))) ≡ true
        by true p c r a q = λ z. p z || not (is_value_name (import_name ps s) && is_among (import_name ps s) (names_over decl_keys w.source.tree.decls))
        by false p false r a q = λ z. p z || not (r z && is_among (import_name ps s) (names_over decl_keys w.source.tree.decls))
        by false p true r false q = λ z. p z || not (r z && q z)
        by false p true r true q = absurd (none p r (in_among (import_name ps s) (names_over decl_keys w.source.tree.decls) q))

    file_so : (w : Where At) → IsFileOf ps w → file_apart ps w.source.tree ≡ true
    file_so w there = all_of (import_apart ps w.source.tree) (import_specs w.source.tree) (spec_apart w there)

    all_so : keys_are_apart ps ≡ true
    all_so =
        all_of of_package ps (λ k p e. all_of (λ (f : SourceTree At). file_apart ps f.tree) p.files (λ i f g. file_so (record { number = k; of = p; file_number = i; source = f }) (e, g)))

pub found_apart : FoundKeysAreApart
found_apart ps h = found_one ps h

pub apart_found : ApartKeysAreFound
apart_found ps apart = all_so ps apart

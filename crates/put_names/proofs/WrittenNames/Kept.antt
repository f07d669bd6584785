-- A step keeps the names and the paths of packages.
use Rattle.std.proofs.Common.{◌≡◌, ℕ, zero, suc, true, List, [], ◌∷◌, Some, refl, subst}
use Rattle.std.specs.Prelude.{slice_get}
use Rattle.std.proofs.lemmas.Option.{same_Some}
use Rattle.go_tree.specs.GoWords.Tokens.Characters.{each}
use Rattle.splice_laws.specs.ImportSplices.AddedFile.{is_byte}
use Rattle.go_layout.specs.LayoutLaws.Formed.{IsName}
use Rattle.pkg_graph.specs.Package.{Package}
use Rattle.run_rules.specs.Run.{Standing, Logged, Next}
use Rattle.run_rules.specs.Sites.{MarkRef}
use Rattle.run_rules.specs.Steps.{At, change_nth}
use Rattle.put_names.specs.WrittenNames.NamedPackages.{PackagesAreNamed, PathsAreOctets}

module _ {A : Type 0} (g : A → A) where
  -- the entry that was there
  record Was (xs : List A) (k : ℕ) (same : A → A → Type 0) (y : A) : Type 0 where
    old : A
    there : slice_get xs k ≡ Some old
    alike : same old y

  was : (same : A → A → Type 0) → ((x : A) → same x x) → ((x : A) → same x (g x)) → (n : ℕ) (xs : List A) (k : ℕ) (y : A) → slice_get (change_nth n g xs) k ≡ Some y → Was xs k same y
  was same own changed n [] k y h = absurd cc
  was same own changed zero (x ∷ xs) zero y h = record { old = x; there = refl; alike = subst (λ (z : A). same x z) (same_Some (g x) y h) (changed x) }
  was same own changed zero (x ∷ xs) (suc k) y h = record { old = y; there = h; alike = own y }
  was same own changed (suc n) (x ∷ xs) zero y h = record { old = x; there = refl; alike = subst (λ (z : A). same x z) (same_Some x y h) (own x) }
  was same own changed (suc n) (x ∷ xs) (suc k) y h = let w = was same own changed n xs k y h in record { old = w.old; there = w.there; alike = w.alike }

-- the same name and path
abbrev Same : Package At → Package At → Type 0
Same p q = (p.name ≡ q.name) × (p.path ≡ q.path)

module _ (marks : List MarkRef) (st : Standing) (l : Logged) (after : Standing) (n : Next marks st l after) where
  abbrev with_tree : Package At → Package At
  with_tree p = record p { files = change_nth n.found.site.at.file_number (λ s. record s { tree = n.tree }) p.files }

  before : (k : ℕ) (p : Package At) → slice_get after.packages k ≡ Some p → Was with_tree st.packages k Same p
  before k p h =
      was with_tree Same (λ x. (refl, refl)) (λ x. (refl, refl)) n.found.site.at.number st.packages k p
      (subst (λ (ps : List (Package At)). slice_get ps k ≡ Some p) n.packages_are h)

  pub step_keeps : PackagesAreNamed st.packages → PathsAreOctets st.packages → PackagesAreNamed after.packages × PathsAreOctets after.packages
  step_keeps named octets = (
    (λ k p h. let w = before k p h in subst (λ (v : List ℕ). IsName v) w.alike.0 (named k w.old w.there)),
    (λ k p h. let w = before k p h in subst (λ (v : List ℕ). each is_byte v ≡ true) w.alike.1 (octets k w.old w.there)),
  )

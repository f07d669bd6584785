-- Each package of a module that reads has a file, and each step keeps this.
use Rattle.std.proofs.Common.{◌≡◌, refl, sym, ◌∙◌, ap, subst, ◌⊎◌, inl, inr, ℕ, zero, suc, Bool, true, false, not, List, [], ◌∷◌, map, filter, Some, if◌then◌else◌}
use Rattle.std.specs.Prelude.{bytes_eq, slice_get}
use Rattle.std.proofs.lemmas.Option.{same_Some}
use Rattle.std.proofs.lemmas.Slice.Eq.{bytes_eq-Decides}
use Rattle.go_tree.specs.declared.spans.Span.{Span}
use Rattle.pkg_graph.specs.Package.{SourceTree, Package, first_seen, home_of, files_of, package_of, packages_of}
use Rattle.pkg_graph.specs.Reads.{Source}
use Rattle.run_rules.specs.Steps.{At, change_nth}
use Rattle.run_rules.specs.Texts.{FileText}
use Rattle.run_rules.specs.Respanned.{source_with}
use Rattle.run_rules.specs.Run.{Standing, Logged, Next, as_read}
use Rattle.run_rules.specs.Sites.{MarkRef}
use Rattle.run_rules.specs.Inlining.{ModuleReads, standing_as_read}
use Rattle.order_runs.proofs.RunSteps.SeatedUses.{Among, first, later}
use Rattle.order_runs.proofs.CycleRuns.OrderedSteps.Members.{changed-one}
use Rattle.order_runs.proofs.CycleRuns.OrderedSteps.Modules.{package-at}
use Rattle.printed_constants.specs.TypedParts.MarkedRuns.LinkedMembers.Laws.{HaveFiles}

module _ (home : List ℕ) (all : List (SourceTree Span)) where
  -- there is a file of each of these packages
  abbrev EachHas : List (List ℕ) → Type 0
  EachHas [] = Unit {0}
  EachHas (x ∷ xs) = (files_of home all x ≡ [] → ⊥) × EachHas xs

  has-kept : (f : List ℕ → Bool) (xs : List (List ℕ)) → EachHas xs → EachHas (filter f xs)
  has-kept f [] h = tt
  has-kept f (x ∷ xs) h = by (f x) (has-kept f xs h.1)
    where
      by : (b : Bool) → EachHas (filter f xs) → EachHas (if b then x ∷ filter f xs else filter f xs)
      by true r = (h.0, r)
      by false r = r

  has-seen : (xs : List (List ℕ)) → EachHas xs → EachHas (first_seen xs)
  has-seen [] h = tt
  has-seen (x ∷ xs) h = (h.0, has-kept (λ y. not (bytes_eq x y)) (first_seen xs) (has-seen xs h.1))

  own-kept : (f : SourceTree Span) {fs : List (SourceTree Span)} → Among f fs → filter (λ g. bytes_eq (home_of home f) (home_of home g)) fs ≡ [] → ⊥
  own-kept f (first {xs = xs}) e = by (bytes_eq (home_of home f) (home_of home f)) ((bytes_eq-Decides (home_of home f) (home_of home f)).1 refl) e
    where
      by : (b : Bool) → b ≡ true → (if b then f ∷ filter (λ g. bytes_eq (home_of home f) (home_of home g)) xs else filter (λ g. bytes_eq (home_of home f) (home_of home g)) xs) ≡ [] → ⊥
      by true g h = cc
      by false g h = cc
  own-kept f (later {x = x} {xs = xs} a) e = by (bytes_eq (home_of home f) (home_of home x)) (own-kept f a) e
    where
      by : (b : Bool) → (filter (λ g. bytes_eq (home_of home f) (home_of home g)) xs ≡ [] → ⊥) → (if b then x ∷ filter (λ g. bytes_eq (home_of home f) (home_of home g)) xs else filter (λ g. bytes_eq (home_of home f) (home_of home g)) xs) ≡ [] → ⊥
      by true r h = cc
      by false r h = r h

  homes-have : (fs : List (SourceTree Span)) → ((f : SourceTree Span) → Among f fs → Among f all) → EachHas (map (home_of home) fs)
  homes-have [] w = tt
  homes-have (f ∷ fs) w = (own-kept f (w f first), homes-have fs (λ g a. w g (later a)))

  packages-have : (xs : List (List ℕ)) → EachHas xs → HaveFiles (map (package_of home all) xs)
  packages-have [] h k p e s = cc
  packages-have (x ∷ xs) h zero p e s = h.0 (ap (λ (q : Package Span). q.files) (same_Some (package_of home all x) p e) ∙ s)
  packages-have (x ∷ xs) h (suc k) p e s = packages-have xs h.1 k p e s

  module-has : HaveFiles (packages_of home all)
  module-has = packages-have (first_seen (map (home_of home) all)) (has-seen (map (home_of home) all) (homes-have all (λ f a. a)))

pub read-have : (files : List Source) (ps : List (Package Span)) (texts : List (List ℕ × FileText)) → ModuleReads files ps texts → HaveFiles (standing_as_read ps texts).packages
read-have files ps texts r k q e s =
    let p = package-at as_read ps k q e in
    subst (λ (qs : List (Package Span)). HaveFiles qs) (sym r.reads.program.packages_are) (module-has r.reads.program.path r.reads.trees) k p.0 p.1 (none-mapped p.0.files (sym (ap (λ (z : Package At). z.files) p.2) ∙ s))
  where
    none-mapped : (fs : List (SourceTree Span)) → map (source_with as_read) fs ≡ [] → fs ≡ []
    none-mapped [] g = refl
    none-mapped (f ∷ fs) g = cc

none-changed : {A : Type 0} (n : ℕ) (f : A → A) (xs : List A) → change_nth n f xs ≡ [] → xs ≡ []
none-changed n f [] e = refl
none-changed zero f (x ∷ xs) e = cc
none-changed (suc n) f (x ∷ xs) e = cc

module _ (i n : ℕ) (F : SourceTree At → SourceTree At) where
  abbrev change : Package At → Package At
  change p = record p { files = change_nth i F p.files }

  changed-have : (ps : List (Package At)) → HaveFiles ps → HaveFiles (change_nth n change ps)
  changed-have ps h k q e s = let c = changed-one change n ps k q e in by c.0 c.1 c.2
    where
      by : (p : Package At) → slice_get ps k ≡ Some p → (q ≡ p) ⊎ ((k ≡ n) × (q ≡ change p)) → ⊥
      by p g (inl t) = h k p g (sym (ap (λ (z : Package At). z.files) t) ∙ s)
      by p g (inr t) = h k p g (none-changed i F p.files (sym (ap (λ (z : Package At). z.files) t.1) ∙ s))

pub step-have : (marks : List MarkRef) (st : Standing) (l : Logged) (after : Standing) → Next marks st l after → HaveFiles st.packages → HaveFiles after.packages
step-have marks st l after n h =
    subst (λ (qs : List (Package At)). HaveFiles qs) (sym n.packages_are) (changed-have n.found.site.at.file_number n.found.site.at.number (λ (f : SourceTree At). record f { tree = n.tree }) st.packages h)

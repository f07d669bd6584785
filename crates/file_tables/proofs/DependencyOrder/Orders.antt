-- Packages with paths of their own have one order.
use Rattle.std.proofs.Common.{◌≡◌, ◌∙◌, ◌⊎◌, inl, inr, refl, sym, ap, subst, ℕ, true, List, [], ◌∷◌, ◌++◌, map, Option, Some}
use Rattle.std.specs.Prelude.{slice_get}
use Rattle.std.specs.Option.{option_to_list}
use Rattle.std.proofs.lemmas.List.{length-map}
use Rattle.go_tree.specs.declared.spans.Span.{Span}
use Rattle.pkg_graph.specs.ModuleFiles.Pieces.{comes_before}
use Rattle.pkg_graph.specs.ModuleFiles.PathLists.{number_of, has_path, AreDistinct}
use Rattle.pkg_graph.specs.ImportOrder.Numbers.{AreLinks, FollowsNumbers}
use Rattle.pkg_graph.proofs.ImportOrder.OpenLaws.{one_comes_before}
use Rattle.pkg_graph.specs.Package.{Package}
use Rattle.pkg_graph.specs.Graph.{imports_of}
use Rattle.pkg_graph.specs.Order as order
use Rattle.pkg_graph.proofs.BridgeLaws.{LinksAre, got_at, got_within, are_links, follows}
use Rattle.pkg_graph.proofs.BridgeLaws as bridge
use Rattle.run_rules.specs.Programs.{dependency_order}
use Rattle.run_rules.proofs.InOrder.{order_is}
use Rattle.file_tables.specs.DependencyOrder.Links.{numbers_of, AreNamed, AreLinksOf}

-- ---- one order

module _ (all : List (Package Span)) (distinct : AreDistinct (map (λ p. p.path) all)) where
  number_is : (k : ℕ) (p : Package Span) → slice_get all k ≡ Some p → number_of (map (λ p. p.path) all) p.path ≡ Some k
  number_is k p g =
      ap (number_of (map (λ p. p.path) all)) (sym (got_at (λ p. p.path) [] all k p g))
      ∙ distinct k (rw (length-map all (λ p. p.path)) (got_within all k p g))

  same_some : (a b : ℕ) (o : Option ℕ) → o ≡ Some a → o ≡ Some b → a ≡ b
  same_some a b o e f = cc

  one_next : (placed : List ℕ) (j k : ℕ) → order.IsNext all placed j → order.IsNext all placed k → j ≡ k
  one_next placed j k a b = go (one_comes_before a.of.path b.of.path)
    where
      go : (comes_before a.of.path b.of.path ≡ true) ⊎ ((a.of.path ≡ b.of.path) ⊎ (comes_before b.of.path a.of.path ≡ true)) → j ≡ k
      go (inl e) = absurd (b.least j a.of a.ready e)
      go (inr (inl e)) = same_some j k (number_of (map (λ p. p.path) all) a.of.path) (number_is j a.of a.ready.is) (ap (number_of (map (λ p. p.path) all)) e ∙ number_is k b.of b.ready.is)
      go (inr (inr e)) = absurd (a.least k b.of b.ready e)

  nothing_else : (placed other : List ℕ) → ((k : ℕ) (p : Package Span) → order.IsReady all placed k p → ⊥) → order.Follows all placed other → [] ≡ other
  nothing_else _ _ f (order.none placed g) = refl
  nothing_else _ _ f (order.next placed k rest n g) = absurd (f k n.of n.ready)

  others : (placed b : List ℕ) (k : ℕ) (rest : List ℕ) → order.IsNext all placed k
      → ((c : List ℕ) → order.Follows all (placed ++ k ∷ []) c → rest ≡ c)
      → order.Follows all placed b → (k ∷ rest) ≡ b
  others _ _ k rest n ih (order.none placed g) = absurd (g k n.of n.ready)
  others _ _ k rest n ih (order.next placed j more m g) =
      let same = one_next placed j k m n in
      ap (λ r. k ∷ r) (ih more (subst (λ i. order.Follows all (placed ++ i ∷ []) more) same g)) ∙ ap (λ i. i ∷ more) (sym same)

  one_order : (placed a b : List ℕ) → order.Follows all placed a → order.Follows all placed b → a ≡ b
  one_order _ _ b (order.none placed f) g = nothing_else placed b f g
  one_order _ _ b (order.next placed k rest n f) g = others placed b k rest n (λ c h. one_order (placed ++ k ∷ []) rest c f h) g

-- ---- the order that is found

same_numbers : (paths qs : List (List ℕ)) → numbers_of paths qs ≡ bridge.numbers_of paths qs
same_numbers paths [] = refl
same_numbers paths (q ∷ qs) = ap (λ (ns : List ℕ). option_to_list (number_of paths q) ++ ns) (same_numbers paths qs)

module _ (ps : List (Package Span)) (paths links : List (List ℕ)) (paths_are : paths ≡ map (λ p. p.path) ps) (distinct : AreDistinct (map (λ p. p.path) ps)) (named : AreNamed ps)
    (l : AreLinksOf ps paths links) where
  linked : LinksAre ps paths links
  linked = record { paths_are = paths_are; size = l.size; rows = λ k p g. l.each k p g ∙ same_numbers paths (imports_of p) }

  pub are_distinct : AreDistinct paths
  are_distinct = subst AreDistinct (sym paths_are) distinct

  abbrev Named : List (List ℕ) → Type 0
  Named qs = (k : ℕ) (p : Package Span) → slice_get ps k ≡ Some p → (q : List ℕ) → has_path (imports_of p) q ≡ true → has_path qs q ≡ true

  all_named : Named paths
  all_named = subst Named (sym paths_are) named

  pub links_within : AreLinks links
  links_within = are_links ps paths links linked are_distinct all_named

  pub order_found : (nums : List ℕ) → FollowsNumbers links paths [] nums → nums ≡ dependency_order ps
  order_found nums f = one_order ps distinct [] nums (dependency_order ps) (follows ps paths links linked are_distinct all_named [] nums f) (order_is ps)

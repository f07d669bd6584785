-- Each use that is a written type is a name in a type that the walk over its declaration lists.
use Rattle.std.proofs.Common.{◌≡◌, ◌+◌, ◌<◌, ℕ, zero, suc, List, [], ◌∷◌, ◌++◌, Option, Some, None, refl, sym, subst, ◌∙◌, arith}
use Rattle.std.specs.Prelude.{Contains, slice_get}
use Rattle.std.proofs.lemmas.Option.{same_Some}
use Rattle.go_tree.specs.Tree.{TypeExpr, Expr}
use Rattle.go_tree.specs.File.{Decl}
use Rattle.pkg_graph.specs.Package.{SourceTree, Package}
use Rattle.run_rules.specs.Surroundings.{Use, other, Place, Seen, seen, seen_type, seen_stmt}
use Rattle.run_rules.specs.Programs.{numbered_from, numbered, in_dependency_order, decl_seen}
use Rattle.run_rules.specs.Sites.{MarkRef, Where, Part, an_expr, a_type_part, Site, named_in, expr_mark, type_mark, site_by, type_sites, site_here, sites_among, decls_sites, files_sites, packages_sites, sites}
use Rattle.order_runs.proofs.RunSteps.SeatedUses.{Among, first, later}

-- a type that the walk lists, with this name in it
pub record InType {S : Type 0} (p : Place S) (y : TypeExpr S) (xs : List (Seen S)) : Type 0 where
  pub type : TypeExpr S
  pub is_seen : Among (seen_type p type) xs
  pub inside : Among y (named_in type)

module _ {S : Type 0} (ps : List (Package S)) (marks : List MarkRef) where
  abbrev TypeSeated : Site S → Type 0
  TypeSeated x =
      (y : TypeExpr S) → x.part ≡ a_type_part y → (d : Decl S) → slice_get x.at.source.tree.decls x.decl ≡ Some d → InType x.place y (decl_seen ps x.at.number x.at.of x.at.source.tree d)

  abbrev AllSeated : List (Site S) → Type 0
  AllSeated [] = Unit {0}
  AllSeated (x ∷ xs) = TypeSeated x × AllSeated xs

  both-seated : (xs ys : List (Site S)) → AllSeated xs → AllSeated ys → AllSeated (xs ++ ys)
  both-seated [] ys h k = k
  both-seated (x ∷ xs) ys h k = (h.0, both-seated xs ys h.1 k)

  abbrev type-of : TypeExpr S → Part S → TypeExpr S
  type-of d (an_expr e) = d
  type-of d (a_type_part t) = t

  module _ (w : Where S) (number : ℕ) (d : Decl S) (decl_is : slice_get w.source.tree.decls number ≡ Some d) where
    abbrev whole : List (Seen S)
    whole = decl_seen ps w.number w.of w.source.tree d

    expr-seated : (p : Place S) (u : Use) (e : Expr S) (m : Option MarkRef) → AllSeated (site_by ps marks w number p u (an_expr e) m)
    expr-seated p u e None = tt
    expr-seated p u e (Some m) = (λ y h g k. absurd cc, tt)

    module _ (p : Place S) (t : TypeExpr S) (seen_there : Among (seen_type p t) whole) where
      name-seated : (y : TypeExpr S) → Among y (named_in t) → (m : Option MarkRef) → AllSeated (site_by ps marks w number p other (a_type_part y) m)
      name-seated y a None = tt
      name-seated y a (Some m) = (
        λ z h g k.
            subst (λ (f : Decl S). InType p z (decl_seen ps w.number w.of w.source.tree f)) (same_Some d g (sym decl_is ∙ k))
            (subst (λ (v : TypeExpr S). InType p v whole) (λ v. type-of y (h v)) (record { type = t; is_seen = seen_there; inside = a })),
        tt,
      )

      names-seated : (ys : List (TypeExpr S)) → ((y : TypeExpr S) → Among y ys → Among y (named_in t)) → AllSeated (type_sites ps marks w number p ys)
      names-seated [] f = tt
      names-seated (y ∷ ys) f =
          both-seated (site_by ps marks w number p other (a_type_part y) (type_mark ps marks w p y)) (type_sites ps marks w number p ys) (name-seated y (f y first) (type_mark ps marks w p y)) (names-seated ys (λ z a. f z (later a)))

    here-seated : (x : Seen S) → Among x whole → AllSeated (site_here ps marks w number x)
    here-seated (seen p u e) a = expr-seated p u e (expr_mark ps marks w p e)
    here-seated (seen_type p t) a = names-seated p t a (named_in t) (λ y b. b)
    here-seated (seen_stmt p s) a = tt

    among-seated : (xs : List (Seen S)) → ((x : Seen S) → Among x xs → Among x whole) → AllSeated (sites_among ps marks w number xs)
    among-seated [] f = tt
    among-seated (x ∷ xs) f = both-seated (site_here ps marks w number x) (sites_among ps marks w number xs) (here-seated x (f x first)) (among-seated xs (λ y a. f y (later a)))

  -- each of these numbered declarations is that of the file
  abbrev AreNumbered : {A : Type 0} → List A → List (ℕ × A) → Type 0
  AreNumbered all [] = Unit {0}
  AreNumbered all (q ∷ qs) = (slice_get all q.0 ≡ Some q.1) × AreNumbered all qs

  numbered-so : {A : Type 0} (all : List A) (k : ℕ) (xs : List A) → ((i n : ℕ) (x : A) → slice_get xs i ≡ Some x → n ≡ k + i → slice_get all n ≡ Some x) → AreNumbered all (numbered_from k xs)
  numbered-so all k [] f = tt
  numbered-so all k (x ∷ xs) f = (f 0 k x refl (omega arith), numbered-so all (suc k) xs (λ i n y e m. f (suc i) n y e (omega (arith, m))))

  all-numbered : {A : Type 0} (xs : List A) → AreNumbered xs (numbered xs)
  all-numbered {A = A} xs = numbered-so xs 0 xs (λ i n x e m. subst (λ (j : ℕ). slice_get xs j ≡ Some x) (sym (omega (arith, m))) e)

  decls-seated : (w : Where S) (ds : List (ℕ × Decl S)) → AreNumbered w.source.tree.decls ds → AllSeated (decls_sites ps marks w ds)
  decls-seated w [] h = tt
  decls-seated w (d ∷ ds) h =
      both-seated (sites_among ps marks w d.0 (decl_seen ps w.number w.of w.source.tree d.1)) (decls_sites ps marks w ds)
      (among-seated w d.0 d.1 h.0 (decl_seen ps w.number w.of w.source.tree d.1) (λ x b. b)) (decls-seated w ds h.1)

  files-seated : (k : ℕ) (p : Package S) (fs : List (ℕ × SourceTree S)) → AllSeated (files_sites ps marks k p fs)
  files-seated k p [] = tt
  files-seated k p (f ∷ fs) =
      let w : Where S = record { number = k; of = p; file_number = f.0; source = f.1 } in
      both-seated (decls_sites ps marks w (numbered f.1.tree.decls)) (files_sites ps marks k p fs) (decls-seated w (numbered f.1.tree.decls) (all-numbered f.1.tree.decls)) (files-seated k p fs)

  packages-seated : (qs : List (ℕ × Package S)) → AllSeated (packages_sites ps marks qs)
  packages-seated [] = tt
  packages-seated (q ∷ qs) = both-seated (files_sites ps marks q.0 q.1 (numbered q.1.files)) (packages_sites ps marks qs) (files-seated q.0 q.1 (numbered q.1.files)) (packages-seated qs)

  one-seated : (xs : List (Site S)) → AllSeated xs → (x : Site S) → Contains xs x → TypeSeated x
  one-seated [] h x c = let lt : c.0 < 0 = c.1 in absurd (omega arith)
  one-seated (y ∷ ys) h x (zero, lt, e) = subst (λ (z : Site S). TypeSeated z) e h.0
  one-seated (y ∷ ys) h x (suc k, lt, e) = one-seated ys h.1 x (k, omega (arith, lt), e)

  pub type-uses-seated : (x : Site S) → Contains (sites ps marks) x → TypeSeated x
  type-uses-seated x c = one-seated (sites ps marks) (packages-seated (in_dependency_order ps)) x c

-- Each use of a marked declaration stands in a package of the dependency order, and is an expression or a type by which its mark is named.
use Rattle.std.proofs.Common.{◌≡◌, ◌+◌, ◌<◌, ℕ, zero, suc, List, [], ◌∷◌, ◌++◌, Option, Some, None, refl, sym, subst, ◌∙◌, arith}
use Rattle.std.specs.Prelude.{Contains, slice_get}
use Rattle.std.proofs.lemmas.Option.{same_Some}
use Rattle.go_tree.specs.Tree.{TypeExpr, Expr}
use Rattle.go_tree.specs.File.{Decl}
use Rattle.pkg_graph.specs.Package.{SourceTree, Package}
use Rattle.run_rules.specs.Surroundings.{Use, other, Place, Seen, seen, seen_type, seen_stmt}
use Rattle.run_rules.specs.Programs.{numbered_from, numbered, in_dependency_order, decl_seen}
use Rattle.run_rules.specs.Sites.{MarkRef, Where, Part, an_expr, a_type_part, Site, named_in, expr_mark, type_mark, site_by, type_sites, site_here, sites_among, decls_sites, files_sites, packages_sites, sites}

-- it is an item of the list
pub data Among {A : Type 0} (a : A) : List A → Type 0 where
  first : {xs : List A} → Among a (a ∷ xs)
  later : {x : A} {xs : List A} → Among a xs → Among a (x ∷ xs)

before-others : {A : Type 0} {a : A} {xs : List A} (ys : List A) → Among a xs → Among a (xs ++ ys)
before-others ys first = first
before-others ys (later h) = later (before-others ys h)

module _ {S : Type 0} (ps : List (Package S)) (marks : List MarkRef) where
  pub record Seated (x : Site S) : Type 0 where
    pub listed : Among (x.at.number, x.at.of) (in_dependency_order ps)
    pub is_use : (e : Expr S) → x.part ≡ an_expr e → expr_mark ps marks x.at x.place e ≡ Some x.mark
    pub is_seen : (e : Expr S) → x.part ≡ an_expr e → (d : Decl S) → slice_get x.at.source.tree.decls x.decl ≡ Some d → Among (seen x.place x.use_ e) (decl_seen ps x.at.number x.at.of x.at.source.tree d)

  abbrev AllSeated : List (Site S) → Type 0
  AllSeated [] = Unit {0}
  AllSeated (x ∷ xs) = Seated x × AllSeated xs

  both-seated : (xs ys : List (Site S)) → AllSeated xs → AllSeated ys → AllSeated (xs ++ ys)
  both-seated [] ys h k = k
  both-seated (x ∷ xs) ys h k = (h.0, both-seated xs ys h.1 k)

  abbrev expr_of : Expr S → Part S → Expr S
  expr_of d (an_expr e) = e
  expr_of d (a_type_part t) = d

  module _ (w : Where S) (number : ℕ) (d : Decl S) (listed : Among (w.number, w.of) (in_dependency_order ps)) (decl_is : slice_get w.source.tree.decls number ≡ Some d) where
    abbrev whole : List (Seen S)
    whole = decl_seen ps w.number w.of w.source.tree d

    there : (s : Seen S) → Among s whole → (f : Decl S) → slice_get w.source.tree.decls number ≡ Some f → Among s (decl_seen ps w.number w.of w.source.tree f)
    there s a f h = subst (λ (z : Decl S). Among s (decl_seen ps w.number w.of w.source.tree z)) (same_Some d f (sym decl_is ∙ h)) a

    expr-seated : (p : Place S) (u : Use) (e : Expr S) → Among (seen p u e) whole → (m : Option MarkRef) → expr_mark ps marks w p e ≡ m → AllSeated (site_by ps marks w number p u (an_expr e) m)
    expr-seated p u e a None q = tt
    expr-seated p u e a (Some m) q = (
      record {
        listed = listed;
        is_use = λ f h. subst (λ (z : Expr S). expr_mark ps marks w p z ≡ Some m) (λ v. expr_of e (h v)) q;
        is_seen = λ f h g k. subst (λ (z : Expr S). Among (seen p u z) (decl_seen ps w.number w.of w.source.tree g)) (λ v. expr_of e (h v)) (there (seen p u e) a g k);
      },
      tt,
    )

    type-seated : (p : Place S) (u : Use) (t : TypeExpr S) (m : Option MarkRef) → AllSeated (site_by ps marks w number p u (a_type_part t) m)
    type-seated p u t None = tt
    type-seated p u t (Some m) = (record { listed = listed; is_use = λ f h. cc; is_seen = λ f h g k. cc }, tt)

    types-seated : (p : Place S) (ts : List (TypeExpr S)) → AllSeated (type_sites ps marks w number p ts)
    types-seated p [] = tt
    types-seated p (t ∷ ts) = both-seated (site_by ps marks w number p other (a_type_part t) (type_mark ps marks w p t)) (type_sites ps marks w number p ts) (type-seated p other t (type_mark ps marks w p t)) (types-seated p ts)

    here-seated : (x : Seen S) → Among x whole → AllSeated (site_here ps marks w number x)
    here-seated (seen p u e) a = expr-seated p u e a (expr_mark ps marks w p e) refl
    here-seated (seen_type p t) a = types-seated p (named_in t)
    here-seated (seen_stmt p s) a = tt

    among-seated : (xs : List (Seen S)) → ((x : Seen S) → Among x xs → Among x whole) → AllSeated (sites_among ps marks w number xs)
    among-seated [] f = tt
    among-seated (x ∷ xs) f = both-seated (site_here ps marks w number x) (sites_among ps marks w number xs) (here-seated x (f x first)) (among-seated xs (λ y a. f y (later a)))

  -- each of these numbered declarations is that of the file
  abbrev AreNumbered : {A : Type 0} → List A → List (ℕ × A) → Type 0
  AreNumbered all [] = Unit {0}
  AreNumbered all (q ∷ qs) = (slice_get all q.0 ≡ Some q.1) × AreNumbered all qs

  numbered-so : {A : Type 0} (all : List A) (k : ℕ) (xs : List A) → ((i n : ℕ) (x : A) → slice_get xs i ≡ Some x → n ≡ k + i → slice_get all n ≡ Some x) → AreNumbered all (numbered_from k xs)
  numbered-so all k [] f = tt
  numbered-so all k (x ∷ xs) f = (f 0 k x refl (omega arith), numbered-so all (suc k) xs (λ i n y e m. f (suc i) n y e (omega (arith, m))))

  all-numbered : {A : Type 0} (xs : List A) → AreNumbered xs (numbered xs)
  all-numbered {A = A} xs = numbered-so xs 0 xs (λ i n x e m. subst (λ (j : ℕ). slice_get xs j ≡ Some x) (sym (omega (arith, m))) e)

  decls-seated : (w : Where S) (ds : List (ℕ × Decl S)) → Among (w.number, w.of) (in_dependency_order ps) → AreNumbered w.source.tree.decls ds → AllSeated (decls_sites ps marks w ds)
  decls-seated w [] a h = tt
  decls-seated w (d ∷ ds) a h =
      both-seated (sites_among ps marks w d.0 (decl_seen ps w.number w.of w.source.tree d.1)) (decls_sites ps marks w ds)
      (among-seated w d.0 d.1 a h.0 (decl_seen ps w.number w.of w.source.tree d.1) (λ x b. b)) (decls-seated w ds a h.1)

  files-seated : (k : ℕ) (p : Package S) (fs : List (ℕ × SourceTree S)) → Among (k, p) (in_dependency_order ps) → AllSeated (files_sites ps marks k p fs)
  files-seated k p [] a = tt
  files-seated k p (f ∷ fs) a =
      let w : Where S = record { number = k; of = p; file_number = f.0; source = f.1 } in
      both-seated (decls_sites ps marks w (numbered f.1.tree.decls)) (files_sites ps marks k p fs) (decls-seated w (numbered f.1.tree.decls) a (all-numbered f.1.tree.decls)) (files-seated k p fs a)

  packages-seated : (qs : List (ℕ × Package S)) → ((q : ℕ × Package S) → Among q qs → Among q (in_dependency_order ps)) → AllSeated (packages_sites ps marks qs)
  packages-seated [] f = tt
  packages-seated (q ∷ qs) f =
      both-seated (files_sites ps marks q.0 q.1 (numbered q.1.files)) (packages_sites ps marks qs) (files-seated q.0 q.1 (numbered q.1.files) (f q first)) (packages-seated qs (λ y a. f y (later a)))

  one-seated : (xs : List (Site S)) → AllSeated xs → (x : Site S) → Contains xs x → Seated x
  one-seated [] h x c = let lt : c.0 < 0 = c.1 in absurd (omega arith)
  one-seated (y ∷ ys) h x (zero, lt, e) = subst (λ (z : Site S). Seated z) e h.0
  one-seated (y ∷ ys) h x (suc k, lt, e) = one-seated ys h.1 x (k, omega (arith, lt), e)

  pub sites-seated : (x : Site S) → Contains (sites ps marks) x → Seated x
  sites-seated x c = one-seated (sites ps marks) (packages-seated (in_dependency_order ps) (λ q a. a)) x c

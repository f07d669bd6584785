-- A part that uses an import has a name for it, which means it at the top of the file; and the import is the one that is written with this number and name.
use Rattle.std.proofs.Common.{◌≡◌, ◌∙◌, refl, sym, subst, ◌⊎◌, inl, inr, ℕ, zero, suc, ◌+◌, Bool, true, false, ◌||◌, if◌then◌else◌, bytes_eq, nat_eq, List, [], ◌∷◌, ◌++◌, map, Option, Some, None, arith}
use Rattle.std.specs.List.{list_any}
use Rattle.std.specs.Prelude.{slice_get}
use Rattle.std.proofs.lemmas.Bool.Decides.{nat_tests}
use Rattle.std.proofs.lemmas.Option.{same_Some}
use Rattle.std.proofs.lemmas.Slice.Eq.{bytes_eq-Decides}
use Rattle.go_tree.specs.File.{ImportSpec}
use Rattle.go_tree.specs.Tree.{NameAt, TypeExpr, named, pointer, slice_type, map_type, struct_type, ident, int_lit, rune_lit, str_lit, composite, selector, index, slice, call, func_lit, type_operand, unary, binary, star}
use Rattle.go_tree.specs.GoTypes.Agreement.{In, head}
use Rattle.go_tree.specs.GoTypes.Answers.{given}
use Rattle.go_tree.specs.ScopeNames.Means.{Environment, means, is_blank, numbered}
use Rattle.pkg_graph.specs.Package.{Package, import_specs}
use Rattle.pkg_graph.specs.Members.{Target, local, imported, member, predeclared, import_name}
use Rattle.order_runs.proofs.CycleRuns.ImportCycles.FreeIdentifiers.{in-right, in-either}
use Rattle.order_runs.proofs.RunSteps.SeatedUses.{Among}
use Rattle.printed_constants.specs.TypedParts.StandingUses.ImportUses.Parts.{DottedImports, at_the_end, before_a_dot, past_another, IsPlain}
use Rattle.printed_constants.proofs.StandingForms.Unnamed.{MeansNone, behind, none_behind, in_turn}
use Rattle.printed_constants.proofs.TypedParts.DottedImports.Imports.{no_blank}
use Rattle.run_rules.specs.Sites.{Where, named_in, imported_by, outer}
use Rattle.run_rules.specs.Steps.{means_import, named_by_import, qualified_by, uses_import}
use Rattle.run_rules.specs.Surroundings.{Use, stored, Place, Seen, seen, seen_type, seen_stmt, is_local}
use Rattle.constant_modules.specs.LookUps.Beside.{names_over, package_before, StandsAt}
use Rattle.constant_modules.proofs.CountedUses.Lists.{one-or}
use Rattle.constant_modules.proofs.CountedUses.Walk.{NotStored}
use Rattle.constant_modules.proofs.LookUps.Walk.{the_one}

either : (a b : Bool) → (a || b) ≡ true → (a ≡ true) ⊎ (b ≡ true)
either true b e = inl refl
either false b e = inr e

contrary : {A : Type 0} (b : Bool) → b ≡ true → b ≡ false → A
contrary true e f = absurd cc
contrary false e f = absurd cc

-- ---- imports by their numbers and names

same_number : (a b : ℕ) → nat_eq a b ≡ true → a ≡ b
same_number a b e = grind (arith, nat_tests, e)

module _ {S : Type 0} (q : List ℕ) where
  module _ (ps : List (Package S)) where
    -- the import with this number has the name
    pub record ImportAt (off J : ℕ) (ss : List (ImportSpec S)) : Type 0 where
      pub nth : ℕ
      pub spec : ImportSpec S
      pub number : J ≡ off + nth
      pub there : slice_get ss nth ≡ Some spec
      pub named : import_name ps spec ≡ q

    pub import_there : (off J : ℕ) (ss : List (ImportSpec S)) (rest : Environment Target) → MeansNone q rest → means_import J (given (means (numbered imported off (map (import_name ps) ss) ++ rest) q) imported_by) ≡ true → ImportAt off J ss
    import_there off J [] rest h e = let no : true ≡ false = sym e ∙ h J in absurd cc
    import_there off J (s ∷ ss) rest h e = by (is_blank (import_name ps s)) e (λ g. import_there (suc off) J ss rest h g)
      where
        more : Environment Target
        more = numbered imported (suc off) (map (import_name ps) ss) ++ rest

        further : ImportAt (suc off) J ss → ImportAt off J (s ∷ ss)
        further i = let k : J ≡ suc off + i.nth = i.number in record { nth = suc i.nth; spec = i.spec; number = omega (arith, k); there = i.there; named = i.named }

        within : (t : Bool) → bytes_eq (import_name ps s) q ≡ t → means_import J (given (if t then Some (imported off) else means more q) imported_by) ≡ true → (means_import J (given (means more q) imported_by) ≡ true → ImportAt (suc off) J ss) → ImportAt off J (s ∷ ss)
        within true g e r = let k : J ≡ off = same_number J off e in record { nth = zero; spec = s; number = omega (arith, k); there = refl; named = (bytes_eq-Decides (import_name ps s) q).0 g }
        within false g e r = further (r e)

        by : (b : Bool) → means_import J (given (means (((if b then [] else (import_name ps s, imported off) ∷ []) ++ numbered imported (suc off) (map (import_name ps) ss)) ++ rest) q) imported_by) ≡ true → (means_import J (given (means more q) imported_by) ≡ true → ImportAt (suc off) J ss) → ImportAt off J (s ∷ ss)
        by true e r = further (r e)
        by false e r = within (bytes_eq (import_name ps s) q) refl e r

-- ---- a part that uses an import

module _ {S : Type 0} (ps : List (Package S)) (w : Where S) (k : ℕ) where
  -- the name means the import
  abbrev pub Means : List ℕ → Type 0
  Means m = means_import k (given (means (outer ps w) m) imported_by) ≡ true

  -- a name of the import that stands at the part
  pub record Stands (x : Seen S) : Type 0 where
    pub name : List ℕ
    pub stands : StandsAt name x
    pub means_it : Means name

  pub by_name : (p : Place S) (n : List ℕ) → named_by_import ps w k p n ≡ true → (is_local p n ≡ false) × Means n
  by_name p n e = by (is_local p n) e
    where
      by : (b : Bool) → means_import k (given (if b then None else means (outer ps w) n) imported_by) ≡ true → (b ≡ false) × Means n
      by true f = absurd cc
      by false f = (refl, f)

  -- that of a type
  record Qualified (p : Place S) (ts : List (TypeExpr S)) : Type 0 where
    name : List ℕ
    there : In name (names_over package_before ts)
    free : is_local p name ≡ false
    means_it : Means name

  first_qualified : (p : Place S) (t : TypeExpr S) (ts : List (TypeExpr S)) → qualified_by ps w k p t ≡ true → Qualified p (t ∷ ts)
  first_qualified p (named s (Some q) n) ts e = let r = by_name p q.name e in record { name = q.name; there = head; free = r.0; means_it = r.1 }
  first_qualified p (named s None n) ts e = absurd cc
  first_qualified p (pointer s t) ts e = absurd cc
  first_qualified p (slice_type s t) ts e = absurd cc
  first_qualified p (map_type s a t) ts e = absurd cc
  first_qualified p (struct_type s fs) ts e = absurd cc

  qualified : (p : Place S) (ts : List (TypeExpr S)) → list_any (qualified_by ps w k p) ts ≡ true → Qualified p ts
  qualified p [] e = absurd cc
  qualified p (t ∷ ts) e = by (either (qualified_by ps w k p t) (list_any (qualified_by ps w k p) ts) e) (qualified p ts)
    where
      by : (qualified_by ps w k p t ≡ true) ⊎ (list_any (qualified_by ps w k p) ts ≡ true) → (list_any (qualified_by ps w k p) ts ≡ true → Qualified p ts) → Qualified p (t ∷ ts)
      by (inl f) r = first_qualified p t ts f
      by (inr f) r = let q = r f in record { name = q.name; there = in-right q.name (package_before t) (names_over package_before ts) q.there; free = q.free; means_it = q.means_it }

  pub uses_stand : (x : Seen S) → uses_import ps w k x ≡ true → Stands x
  uses_stand (seen p u (ident s n)) e = let r = by_name p n e in record { name = n; stands = (refl, r.0); means_it = r.1 }
  uses_stand (seen p u (int_lit s n)) e = absurd cc
  uses_stand (seen p u (rune_lit s n)) e = absurd cc
  uses_stand (seen p u (str_lit s n)) e = absurd cc
  uses_stand (seen p u (composite s t es)) e = absurd cc
  uses_stand (seen p u (selector s b n)) e = absurd cc
  uses_stand (seen p u (index s b i)) e = absurd cc
  uses_stand (seen p u (slice s b i j)) e = absurd cc
  uses_stand (seen p u (call s f xs r)) e = absurd cc
  uses_stand (seen p u (func_lit s g z b)) e = absurd cc
  uses_stand (seen p u (type_operand s t)) e = absurd cc
  uses_stand (seen p u (unary s o b)) e = absurd cc
  uses_stand (seen p u (binary s o a b)) e = absurd cc
  uses_stand (seen p u (star s b)) e = absurd cc
  uses_stand (seen_type p t) e = let q = qualified p (named_in t) e in record { name = q.name; stands = (q.there, q.free); means_it = q.means_it }
  uses_stand (seen_stmt p s) e = absurd cc

  -- ---- a name that stands at a part uses the import that it means

  module _ (m : List ℕ) (means_it : Means m) where
    stands_name : (p : Place S) → is_local p m ≡ false → named_by_import ps w k p m ≡ true
    stands_name p e = (λ v. means_import k (given (if e v then None else means (outer ps w) m) imported_by)) ∙ means_it

    one_type : (p : Place S) → is_local p m ≡ false → (t : TypeExpr S) → In m (package_before t) → qualified_by ps w k p t ≡ true
    one_type p e (named s (Some q) n) i = (λ v. named_by_import ps w k p (sym (the_one m q.name i) v)) ∙ stands_name p e
    one_type p e (named s None n) i = elim i [ ]
    one_type p e (pointer s t) i = elim i [ ]
    one_type p e (slice_type s t) i = elim i [ ]
    one_type p e (map_type s a t) i = elim i [ ]
    one_type p e (struct_type s fs) i = elim i [ ]

    all_types : (p : Place S) → is_local p m ≡ false → (ts : List (TypeExpr S)) → In m (names_over package_before ts) → list_any (qualified_by ps w k p) ts ≡ true
    all_types p e [] i = elim i [ ]
    all_types p e (t ∷ ts) i = by (in-either m (package_before t) (names_over package_before ts) i) (all_types p e ts)
      where
        behind_one : (b c : Bool) → c ≡ true → (b || c) ≡ true
        behind_one true c f = refl
        behind_one false c f = f

        by : In m (package_before t) ⊎ In m (names_over package_before ts) → (In m (names_over package_before ts) → list_any (qualified_by ps w k p) ts ≡ true) → (qualified_by ps w k p t || list_any (qualified_by ps w k p) ts) ≡ true
        by (inl j) r = λ v. one_type p e t j v || list_any (qualified_by ps w k p) ts
        by (inr j) r = behind_one (qualified_by ps w k p t) (list_any (qualified_by ps w k p) ts) (r j)

    pub stands_uses : (x : Seen S) → StandsAt m x → uses_import ps w k x ≡ true
    stands_uses (seen p u (ident s n)) h = (λ v. named_by_import ps w k p (h.0 v)) ∙ stands_name p h.1
    stands_uses (seen p u (int_lit s n)) h = absurd h
    stands_uses (seen p u (rune_lit s n)) h = absurd h
    stands_uses (seen p u (str_lit s n)) h = absurd h
    stands_uses (seen p u (composite s t es)) h = absurd h
    stands_uses (seen p u (selector s b n)) h = absurd h
    stands_uses (seen p u (index s b i)) h = absurd h
    stands_uses (seen p u (slice s b i j)) h = absurd h
    stands_uses (seen p u (call s f xs r)) h = absurd h
    stands_uses (seen p u (func_lit s g z b)) h = absurd h
    stands_uses (seen p u (type_operand s t)) h = absurd h
    stands_uses (seen p u (unary s o b)) h = absurd h
    stands_uses (seen p u (binary s o a b)) h = absurd h
    stands_uses (seen p u (star s b)) h = absurd h
    stands_uses (seen_type p t) h = all_types p h.1 (named_in t) h.0
    stands_uses (seen_stmt p s) h = absurd h

  -- ---- a name of an import

  pub meant : (o : Option Target) → means_import k (given o imported_by) ≡ true → (j : ℕ) × (o ≡ Some (imported j))
  meant None e = absurd cc
  meant (Some (local z)) e = absurd cc
  meant (Some (imported j)) e = (j, refl)
  meant (Some (member a b c d)) e = absurd cc
  meant (Some (predeclared j)) e = absurd cc

  pub is_spelled : (m : List ℕ) → Means m → is_blank m ≡ false
  is_spelled m e = let r = meant (means (outer ps w) m) e in no_blank ps w m r.0 r.1

  -- it isn't stored to where names of imports stand before dots alone
  module _ (m : List ℕ) (means_it : Means m) where
    plain_free : (x : Seen S) → IsPlain ps w x → NotStored m x
    plain_free (seen p stored (ident s n)) h = λ t. contrary (named_by_import ps w k p n) (stands_uses m means_it (seen p stored (ident s n)) t) (h k)
    plain_free x h = tt

    dot_free : (p : Place S) (u : Use) (s z : S) (q : List ℕ) (n : NameAt S) → NotStored m (seen p u (selector s (ident z q) n))
    dot_free p stored s z q n = tt
    dot_free p u s z q n = tt

    pub dots_free : (xs : List (Seen S)) → DottedImports ps w xs → (x : Seen S) → Among x xs → NotStored m x
    dots_free _ at_the_end x i = elim i [ ]
    dots_free _ (before_a_dot p u s z q n xs d) x i =
        one-or i (λ e. subst (λ (y : Seen S). NotStored m y) (sym e) tt) (λ j. one-or j (λ e. subst (λ (y : Seen S). NotStored m y) (sym e) (dot_free p u s z q n)) (λ l. dots_free xs d x l))
    dots_free _ (past_another y xs h d) x i = one-or i (λ e. subst (λ (z : Seen S). NotStored m z) (sym e) (plain_free y h)) (λ j. dots_free xs d x j)

  -- ---- the import has that name

  pub its_import : (m : List ℕ) → Means m → ImportAt m ps 0 k (import_specs w.source.tree)
  its_import m e =
      import_there m ps 0 k (import_specs w.source.tree) (behind m ps w) (none_behind m ps w)
      ((λ v. means_import k (given (means (sym (in_turn m ps w) v) m) imported_by)) ∙ e)

  pub named_so : (m : List ℕ) → Means m → (y : ImportSpec S) → slice_get (import_specs w.source.tree) k ≡ Some y → m ≡ import_name ps y
  named_so m e y g =
      let a : ImportAt m ps 0 k (import_specs w.source.tree) = its_import m e in
      let nth : a.nth ≡ k = plain a.nth k a.number in
      sym a.named ∙ (λ z. import_name ps (same_Some a.spec y (sym a.there ∙ (λ v. slice_get (import_specs w.source.tree) (nth v)) ∙ g) z))
    where
      plain : (a b : ℕ) → b ≡ 0 + a → a ≡ b
      plain a b g = omega (arith, g)

  -- the spec with that number
  pub spec_there : (m : List ℕ) → Means m → (y : ImportSpec S) × ((slice_get (import_specs w.source.tree) k ≡ Some y) × (import_name ps y ≡ m))
  spec_there m e =
      let a : ImportAt m ps 0 k (import_specs w.source.tree) = its_import m e in
      let nth : a.nth ≡ k = plain a.nth k a.number in
      (a.spec, ((λ v. slice_get (import_specs w.source.tree) (sym nth v)) ∙ a.there, a.named))
    where
      plain : (a b : ℕ) → b ≡ 0 + a → a ≡ b
      plain a b g = omega (arith, g)

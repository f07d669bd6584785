-- A name that isn't among others; `_` is among no names that declarations bind.
use Rattle.std.proofs.Common.{◌≡◌, refl, sym, ap, ◌∙◌, subst, ℕ, ◌+◌, Bool, true, false, not, ◌&&◌, ◌||◌, List, [], ◌∷◌, ◌++◌, length, Option, Some, None, if◌then◌else◌, bytes_eq, arith}
use Rattle.std.proofs.lemmas.Slice.Eq.{bytes_eq-Decides}
use Rattle.go_tree.specs.Tree.{NameAt, Param, Sig, Expr, Stmt, const_decl, var_decl, empty, eval, step, assign, define, return_, break_, continue_, inner, if_, for_, range_, switch, defer, label, StmtOption, no_stmt, some_stmt, RangeLeft, nothing, assigns, defines, Exprs, TypeExpr, ValueSpecs, no_specs, spec}
use Rattle.go_tree.specs.ScopeNames.FreeNames.{names_of, sig_names, declared, declared_option, defined}
use Rattle.go_tree.specs.ScopeNames.Means.{is_blank, binding}
use Rattle.go_tree.specs.GoTypes.Answers.{given, both, only_if, is_among, without, distinct_by}
use Rattle.go_tree.specs.GoTypes.Types.{GoType, FuncType}
use Rattle.go_tree.specs.GoTypes.Defined.{Defined}
use Rattle.go_tree.specs.GoTypes.Entities.{Entity, variable, refused, Env, Binds, meaning, defined_in, extend, is_declared_here}
use Rattle.go_tree.specs.GoTypes.TypeNames.{func_type, written_type}
use Rattle.go_tree.specs.GoTypes.Operands.{Operand, Typed, typed, all_typed}
use Rattle.go_tree.specs.GoTypes.Declarations.{Declared, no_names, bound_names, bind_all, bind_each, constant_entity, variable_entity, constants_declared, variables_declared, some_declared, new_constants, new_variables, new_by_define, names_once, may_declare, defined_by, assigns_to, binds_or, binds_of, and_then, unused_after, Repeated, nothing_to_repeat}
use Rattle.go_tree.specs.GoTypes.Bodies.{param_binding, param_binds, body_binds, no_values}
use Rattle.go_tree.specs.GoTypes.Statements.{right_values, range_types, range_binds, new_by_range}
use Rattle.go_tree.specs.GoTypes.Typing.{parts, all_parts, places, used_variables, declares, declares_first, declares_constants, declares_variables, range_declares}
use Rattle.go_tree.proofs.GoTypes.Agreeing.{from_given, from_both, from_only, some_same, binds_same, declared_as_constants, declared_as_variables, declared_as_some}
use Rattle.form_meaning.specs.FormInPlace.Bound.{stmt_binds, first_binds, range_left_binds, literal_binds, variable_binds}
use Rattle.form_meaning.proofs.FormInPlace.Uses.{among_append, among_without}
use Rattle.constant_steps.proofs.WrittenLiteral.WithinLaws.{behind_front}

-- ---- lists of names

-- the name isn't among these
pub record Absent (n : List ℕ) (us : List (List ℕ)) : Type 0 where
  pub none : is_among n us ≡ false

module _ {n : List ℕ} where
  pub absent_none : Absent n []
  absent_none = record { none = refl }

  pub absent_both : {xs ys : List (List ℕ)} → Absent n xs → Absent n ys → Absent n (xs ++ ys)
  absent_both {xs = xs} {ys = ys} f g = record { none = among_append n xs ys ∙ (λ i. f.none i || g.none i) }

  pub absent_without : {xs : List (List ℕ)} (out : List (List ℕ)) → Absent n xs → Absent n (without out xs)
  absent_without {xs = xs} out f = record { none = among_without n out xs ∙ ap (λ (b : Bool). b && not (is_among n out)) f.none }

  pub absent_if : {xs : List (List ℕ)} (b : Bool) → Absent n xs → Absent n (if b then [] else xs)
  absent_if true f = absent_none
  absent_if false f = f

-- ---- what declarations bind

names_after : (bs cs : Binds) → bound_names (bs ++ cs) ≡ (bound_names bs ++ bound_names cs)
names_after [] cs = refl
names_after (b ∷ bs) cs = ap (λ (l : List (List ℕ)). b.0 ∷ l) (names_after bs cs)

module _ (n : List ℕ) (blank : is_blank n ≡ true) where
  -- the name isn't bound
  abbrev Unbound : Binds → Type 0
  Unbound bs = Absent n (bound_names bs)

  both_unbound : (bs cs : Binds) → Unbound bs → Unbound cs → Unbound (bs ++ cs)
  both_unbound bs cs f g = subst (Absent n) (sym (names_after bs cs)) (absent_both f g)

  one_more : (x : List ℕ) (e : Entity) (bs : Binds) → Unbound bs → Unbound (binding x e ++ bs)
  one_more x e bs f = go (is_blank x) refl
    where
      differs : is_blank x ≡ false → (c : Bool) → bytes_eq n x ≡ c → c ≡ false
      differs q true k = absurd (grind (arith, sym blank ∙ ap is_blank ((bytes_eq-Decides n x).0 k) ∙ q))
      differs q false k = refl

      go : (b : Bool) → is_blank x ≡ b → Unbound ((if b then [] else (x, e) ∷ []) ++ bs)
      go true q = f
      go false q = record { none = λ i. differs q (bytes_eq n x) refl i || f.none i }

  each_unbound : (e : Entity) (ns : List (List ℕ)) → Unbound (bind_each e ns)
  each_unbound e [] = absent_none
  each_unbound e (x ∷ ns) = one_more x e (bind_each e ns) (each_unbound e ns)

  all_unbound : (k : Typed → Option Entity) (ns : List (List ℕ)) (vs : List Typed) (bs : Binds) → bind_all k ns vs ≡ Some bs → Unbound bs
  all_unbound k [] [] bs q = subst Unbound (some_same [] bs q) absent_none
  all_unbound k [] (v ∷ vs) bs q = absurd (grind (arith, q))
  all_unbound k (x ∷ ns) [] bs q = absurd (grind (arith, q))
  all_unbound k (x ∷ ns) (v ∷ vs) bs q =
      let r = from_both (k v) (bind_all k ns vs) (λ e cs. Some (binding x e ++ cs)) bs q in
      subst Unbound (some_same (binding x r.0 ++ r.1) bs r.4) (one_more x r.0 r.1 (all_unbound k ns vs r.1 r.3))

  defined_unbound : (ds : List Defined) (a : Env) (ns : List (List ℕ)) (vs : List Typed) (bs : Binds) → defined_by ds a ns vs ≡ Some bs → Unbound bs
  defined_unbound ds a [] [] bs q = subst Unbound (some_same [] bs q) absent_none
  defined_unbound ds a [] (v ∷ vs) bs q = absurd (grind (arith, q))
  defined_unbound ds a (x ∷ ns) [] bs q = absurd (grind (arith, q))
  defined_unbound ds a (x ∷ ns) (v ∷ vs) bs q = go (is_declared_here a x) (defined_unbound ds a ns vs) q
    where
      go : (b : Bool) → ((cs : Binds) → defined_by ds a ns vs ≡ Some cs → Unbound cs)
          → (if b then only_if (assigns_to ds (meaning a x) v) (defined_by ds a ns vs) else both (variable_entity ds None v) (defined_by ds a ns vs) (λ e cs. Some (binding x e ++ cs))) ≡ Some bs → Unbound bs
      go true f q = f bs (from_only (assigns_to ds (meaning a x) v) (defined_by ds a ns vs) bs q)
      go false f q =
          let r = from_both (variable_entity ds None v) (defined_by ds a ns vs) (λ e cs. Some (binding x e ++ cs)) bs q in
          subst Unbound (some_same (binding x r.0 ++ r.1) bs r.4) (one_more x r.0 r.1 (f r.1 r.3))

  ranged_unbound : (ds : List Defined) (ns : List (List ℕ)) (ts : List GoType) (bs : Binds) → range_binds ds ns ts ≡ Some bs → Unbound bs
  ranged_unbound ds [] ts bs q = subst Unbound (some_same [] bs q) absent_none
  ranged_unbound ds (x ∷ ns) [] bs q = absurd (grind (arith, q))
  ranged_unbound ds (x ∷ ns) (t ∷ ts) bs q =
      let r = from_given (range_binds ds ns ts) (λ cs. Some (binding x (variable t) ++ cs)) bs q in
      subst Unbound (some_same (binding x (variable t) ++ r.0) bs r.2) (one_more x (variable t) r.0 (ranged_unbound ds ns ts r.0 r.1))

  -- ---- specs and short declarations

  constants_unbound : (a : Env) (ns : List (List ℕ)) (t : Option (Option GoType)) (os : Option (List Operand)) (d : Declared) → new_constants a ns t os ≡ Some d → Unbound d.binds
  constants_unbound a ns t os d e =
      let by : (Option GoType → List Operand → Option Binds) = (λ t os. given (all_typed os) (bind_all (constant_entity (defined_in a) t) ns)) in
      let r = from_both t os by d.binds (declared_as_constants (both t os by) d (from_only (may_declare a ns) (constants_declared (both t os by)) d e)) in
      let k = from_given (all_typed r.1) (bind_all (constant_entity (defined_in a) r.0) ns) d.binds r.4 in
      all_unbound (constant_entity (defined_in a) r.0) ns k.0 d.binds k.2

  variables_unbound : (a : Env) (ns : List (List ℕ)) (t : Option (Option GoType)) (zeros : Bool) (vs : Option (List Typed)) (d : Declared) → new_variables a ns t zeros vs ≡ Some d → Unbound d.binds
  variables_unbound a ns t zeros vs d e =
      let by : (Option GoType → Option Binds) = (λ t. if zeros then given t (λ t. Some (bind_each (variable t) ns)) else given vs (bind_all (variable_entity (defined_in a) t) ns)) in
      let r = from_given t by d.binds (declared_as_variables (given t by) d (from_only (may_declare a ns) (variables_declared (given t by)) d e)) in
      go zeros r.0 r.2
    where
      go : (z : Bool) (u : Option GoType) → (if z then given u (λ t. Some (bind_each (variable t) ns)) else given vs (bind_all (variable_entity (defined_in a) u) ns)) ≡ Some d.binds → Unbound d.binds
      go true u q = let r = from_given u (λ t. Some (bind_each (variable t) ns)) d.binds q in subst Unbound (some_same (bind_each (variable r.0) ns) d.binds r.2) (each_unbound (variable r.0) ns)
      go false u q = let r = from_given vs (bind_all (variable_entity (defined_in a) u) ns) d.binds q in all_unbound (variable_entity (defined_in a) u) ns r.0 d.binds r.2

  short_unbound : (a : Env) (ns : List (List ℕ)) (vs : Option (List Typed)) (d : Declared) → new_by_define a ns vs ≡ Some d → Unbound d.binds
  short_unbound a ns vs d e =
      let bs : Option Binds = given vs (defined_by (defined_in a) a ns) in
      let r = from_given vs (defined_by (defined_in a) a ns) d.binds (declared_as_some bs d (from_only (names_once ns) (some_declared bs) d e)) in
      defined_unbound (defined_in a) a ns r.0 d.binds r.2

  of_unbound : (ns : List (List ℕ)) (r : Option Declared) → ((d : Declared) → r ≡ Some d → Unbound d.binds) → Unbound (binds_of ns r)
  of_unbound ns None f = each_unbound refused ns
  of_unbound ns (Some d) f = f d refl

  nothing_unbound : (d : Declared) → Some no_names ≡ Some d → Unbound d.binds
  nothing_unbound d e = subst Unbound (binds_same no_names d e) absent_none

  module _ {S : Type 0} where
    group_unbound : (a : Env) (r : Repeated) (j : ℕ) (ss : ValueSpecs S) (d : Declared) → declares_constants a r j ss ≡ Some d → Unbound d.binds
    group_unbound a r j no_specs d e = subst Unbound (binds_same no_names d e) absent_none
    group_unbound a r j (spec s ns t es ss) d e =
        let again : Repeated = (if no_values es then r else (λ e. written_type e t, λ e. all_parts e es)) in
        let here : Env = record a { iota = Some j } in
        let first : Option Declared = new_constants here (names_of ns) (again.0 a) (again.1 here) in
        let p = from_given first (λ x. given (declares_constants (extend x.binds a) again (j + 1) ss) (λ y. Some (and_then x y))) d e in
        let q = from_given (declares_constants (extend (p.0).binds a) again (j + 1) ss) (λ y. Some (and_then p.0 y)) d p.2 in
        subst Unbound (binds_same (and_then p.0 q.0) d q.2)
        (both_unbound (q.0).binds (p.0).binds (group_unbound (extend (p.0).binds a) again (j + 1) ss q.0 q.1) (constants_unbound here (names_of ns) (again.0 a) (again.1 here) p.0 p.1))

    specs_unbound : (a : Env) (ss : ValueSpecs S) (d : Declared) → declares_variables a ss ≡ Some d → Unbound d.binds
    specs_unbound a no_specs d e = subst Unbound (binds_same no_names d e) absent_none
    specs_unbound a (spec s ns t es ss) d e =
        let vs : Option (List Typed) = right_values a (length ns) (places a es) (all_parts a es) in
        let first : Option Declared = new_variables a (names_of ns) (written_type a t) (no_values es) vs in
        let k : (Declared → Declared → Declared) = (λ x y. and_then (unused_after (used_variables (extend x.binds a) ss) x) y) in
        let p = from_given first (λ x. given (declares_variables (extend x.binds a) ss) (λ y. Some (k x y))) d e in
        let q = from_given (declares_variables (extend (p.0).binds a) ss) (λ y. Some (k p.0 y)) d p.2 in
        subst Unbound (binds_same (k p.0 q.0) d q.2)
        (both_unbound (q.0).binds (p.0).binds (specs_unbound (extend (p.0).binds a) ss q.0 q.1) (variables_unbound a (names_of ns) (written_type a t) (no_values es) vs p.0 p.1))

    stmt_unbound : (s : Stmt S) (a : Env) (d : Declared) → declares a s ≡ Some d → Unbound d.binds
    stmt_unbound (const_decl _ _ ss) a d e = group_unbound a nothing_to_repeat 0 ss d e
    stmt_unbound (var_decl _ _ ss) a d e = specs_unbound a ss d e
    stmt_unbound (define _ ns rs) a d e = short_unbound a (names_of ns) (right_values a (length ns) (places a rs) (all_parts a rs)) d e
    stmt_unbound (label _ m s) a d e = stmt_unbound s a d e
    stmt_unbound (empty _) a d e = nothing_unbound d e
    stmt_unbound (eval _ _) a d e = nothing_unbound d e
    stmt_unbound (step _ _ _) a d e = nothing_unbound d e
    stmt_unbound (assign _ _ _ _) a d e = nothing_unbound d e
    stmt_unbound (return_ _ _) a d e = nothing_unbound d e
    stmt_unbound (break_ _ _) a d e = nothing_unbound d e
    stmt_unbound (continue_ _ _) a d e = nothing_unbound d e
    stmt_unbound (inner _ _) a d e = nothing_unbound d e
    stmt_unbound (if_ _ _ _) a d e = nothing_unbound d e
    stmt_unbound (for_ _ _ _ _ _ _) a d e = nothing_unbound d e
    stmt_unbound (range_ _ _ _ _ _) a d e = nothing_unbound d e
    stmt_unbound (switch _ _ _ _) a d e = nothing_unbound d e
    stmt_unbound (defer _ _) a d e = nothing_unbound d e

    pub after_stmt : (a : Env) (s : Stmt S) → Unbound (stmt_binds a s)
    after_stmt a s = of_unbound (declared s) (declares a s) (stmt_unbound s a)

    header_unbound : (i : StmtOption S) (a : Env) (d : Declared) → declares_first a i ≡ Some d → Unbound d.binds
    header_unbound no_stmt a d e = nothing_unbound d e
    header_unbound (some_stmt s) a d e = stmt_unbound s a d e

    pub after_first : (a : Env) (i : StmtOption S) → Unbound (first_binds a i)
    after_first a i = of_unbound (declared_option i) (declares_first a i) (header_unbound i a)

    clause_unbound : (l : RangeLeft S) (a : Env) (o : Option Operand) (d : Declared) → range_declares a o l ≡ Some d → Unbound d.binds
    clause_unbound nothing a o d e = nothing_unbound d e
    clause_unbound (assigns es) a o d e = nothing_unbound d e
    clause_unbound (defines ns) a o d e =
        let r = from_given o (new_by_range a (names_of ns)) d e in
        let by : (Typed → Option Binds) = (λ v. given (range_types (defined_in a) v) (range_binds (defined_in a) (names_of ns))) in
        let k = from_given (typed r.0) (λ v. only_if (names_once (names_of ns)) (some_declared (by v))) d r.2 in
        let m = from_given (range_types (defined_in a) k.0) (range_binds (defined_in a) (names_of ns)) d.binds (declared_as_some (by k.0) d (from_only (names_once (names_of ns)) (some_declared (by k.0)) d k.2)) in
        ranged_unbound (defined_in a) (names_of ns) m.0 d.binds m.2

    pub after_range : (a : Env) (e : Expr S) (l : RangeLeft S) → Unbound (range_left_binds a e l)
    after_range a e l = of_unbound (defined l) (range_declares a (parts a e) l) (clause_unbound l a (parts a e))

    pub after_variables : (a : Env) (ns : List (NameAt S)) (t : Option (TypeExpr S)) (es : Exprs S) → Unbound (variable_binds a ns t es)
    after_variables a ns t es =
        let vs : Option (List Typed) = right_values a (length ns) (places a es) (all_parts a es) in
        of_unbound (names_of ns) (new_variables a (names_of ns) (written_type a t) (no_values es) vs) (variables_unbound a (names_of ns) (written_type a t) (no_values es) vs)

    -- ---- parameters and results

    params_unbound : (ps : List (Param S)) (ts : List GoType) → Unbound (param_binds ps ts)
    params_unbound [] ts = absent_none
    params_unbound (p ∷ ps) [] = absent_none
    params_unbound (p ∷ ps) (t ∷ ts) = go p.name (params_unbound ps ts)
      where
        go : (o : Option (NameAt S)) → Unbound (param_binds ps ts) → Unbound (param_binding o t ++ param_binds ps ts)
        go None f = f
        go (Some x) f = one_more x.name (variable t) (param_binds ps ts) f

    heads_unbound : (g : Sig S) (f : FuncType) (bs : Binds) → body_binds [] g f ≡ Some bs → Unbound bs
    heads_unbound g f bs e =
        let cs : Binds = param_binds g.params f.params ++ param_binds g.results f.results in
        subst Unbound (some_same cs bs (from_only (distinct_by bytes_eq (bound_names cs)) (Some cs) bs e)) (both_unbound (param_binds g.params f.params) (param_binds g.results f.results) (params_unbound g.params f.params) (params_unbound g.results f.results))

    pub after_heads : (a : Env) (g : Sig S) → Unbound (literal_binds a g)
    after_heads a g = go (given (func_type a g) (body_binds [] g)) refl
      where
        go : (o : Option Binds) → given (func_type a g) (body_binds [] g) ≡ o → Unbound (binds_or (sig_names g) o)
        go None q = each_unbound refused (sig_names g)
        go (Some bs) q = let r = from_given (func_type a g) (body_binds [] g) bs q in heads_unbound g r.0 bs r.2

  -- ---- so it means nothing behind a declaration

  -- the name means nothing there
  abbrev pub Unmeant : Env → Type 0
  Unmeant a = meaning a n ≡ None

  pub still_unmeant : (bs : Binds) (a : Env) → Absent n (bound_names bs) → Unmeant a → Unmeant (extend bs a)
  still_unmeant bs a f k = behind_front bs a.names n f.none ∙ k

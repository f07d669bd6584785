-- Declarations bind no other names than those that they declare. So any other name means after them what it meant before.
use Rattle.std.specs.Prelude.{◌≡◌, ℕ, ◌+◌, Bool, true, false, ◌||◌, List, [], ◌∷◌, ◌++◌, length, Option, Some, None, if◌then◌else◌, bytes_eq, refl}
use mathlib.Core.Path.{ap, sym, ◌∙◌, subst}
use Rattle.std.proofs.Common.{arith}
use Rattle.std.proofs.lemmas.Slice.Eq.{bytes_eq-Decides}
use Rattle.go_tree.specs.Tree.{NameAt, Param, Sig, Stmt, const_decl, var_decl, empty, eval, step, assign, define, return_, break_, continue_, inner, if_, for_, range_, switch, defer, label, StmtOption, no_stmt, some_stmt, RangeLeft, nothing, assigns, defines, ValueSpecs, no_specs, spec}
use Rattle.go_tree.specs.ScopeNames.Means.{Environment, means, binding, is_blank}
use Rattle.go_tree.specs.ScopeNames.FreeNames.{names_of, name_then, params_names, sig_names, specs_names, declared, declared_option, defined}
use Rattle.go_tree.specs.GoTypes.Answers.{given, both, only_if, is_among, distinct_by}
use Rattle.go_tree.specs.GoTypes.Types.{GoType, FuncType}
use Rattle.go_tree.specs.GoTypes.Defined.{Defined}
use Rattle.go_tree.specs.GoTypes.Entities.{Entity, variable, refused, Env, meaning, Binds, extend, is_declared_here, defined_in}
use Rattle.go_tree.specs.GoTypes.TypeNames.{func_type, written_type}
use Rattle.go_tree.specs.GoTypes.Operands.{Operand, Typed, typed, all_typed}
use Rattle.go_tree.specs.GoTypes.Statements.{constant_entity, may_declare, names_once, range_types, no_values, bound_names, Declared, constants_declared, variables_declared, some_declared, bind_all, bind_each, defined_by, assigns_to, variable_entity, range_binds, param_binding, param_binds, body_binds}
use Rattle.go_tree.specs.GoTypes.Typing.{new_constants, new_variables, new_by_define, binds_or, binds_of, and_then, unused_after, declares, declares_first, declares_constants, declares_variables, range_declares, Repeated, nothing_to_repeat, right_values, places, all_parts, used_variables}
use Rattle.go_tree.proofs.GoTypes.Agreeing.{among_right, from_given, from_both, from_only, some_same, binds_same, declared_as_constants, declared_as_variables, declared_as_some}

-- each name that is bound is one of these
abbrev pub Only : List (List ℕ) → Binds → Type 0
Only ns [] = Unit {0}
Only ns (b ∷ bs) = (is_among b.0 ns ≡ true) × Only ns bs

none_some : {A B : Type 0} {x : B} → None ≡ Some x → A
none_some e = grind arith

-- any other name means behind them what it means before
pub only_means : (ns : List (List ℕ)) (bs l : Environment Entity) (n : List ℕ) → Only ns bs → is_among n ns ≡ false → means (bs ++ l) n ≡ means l n
only_means ns [] l n o e = refl
only_means ns (b ∷ bs) l n o e = by (bytes_eq b.0 n) refl (only_means ns bs l n o.1 e)
  where
    by : (t : Bool) → bytes_eq b.0 n ≡ t → means (bs ++ l) n ≡ means l n → (if t then Some b.1 else means (bs ++ l) n) ≡ means l n
    by false q r = r
    by true q r = let no : true ≡ false = sym o.0 ∙ ap (λ x. is_among x ns) ((bytes_eq-Decides b.0 n).0 q) ∙ e in absurd (grind (arith, no))

-- ---- lists of names

wider : (ns ms : List (List ℕ)) → ((x : List ℕ) → is_among x ns ≡ true → is_among x ms ≡ true) → (bs : Binds) → Only ns bs → Only ms bs
wider ns ms f [] o = tt
wider ns ms f (b ∷ bs) o = (f b.0 o.0, wider ns ms f bs o.1)

among_left : (n : List ℕ) (xs ys : List (List ℕ)) → is_among n xs ≡ true → is_among n (xs ++ ys) ≡ true
among_left n [] ys e = grind (arith, e)
among_left n (x ∷ xs) ys e = go (bytes_eq n x) e (among_left n xs ys)
  where
    go : (b : Bool) → (b || is_among n xs) ≡ true → (is_among n xs ≡ true → is_among n (xs ++ ys) ≡ true) → (b || is_among n (xs ++ ys)) ≡ true
    go true q f = refl
    go false q f = f q

only_left : (xs ys : List (List ℕ)) (bs : Binds) → Only xs bs → Only (xs ++ ys) bs
only_left xs ys bs o = wider xs (xs ++ ys) (λ n e. among_left n xs ys e) bs o

only_right : (xs ys : List (List ℕ)) (bs : Binds) → Only ys bs → Only (xs ++ ys) bs
only_right xs ys bs o = wider ys (xs ++ ys) (λ n e. among_right n xs ys e) bs o

only_both : (ns : List (List ℕ)) (bs cs : Binds) → Only ns bs → Only ns cs → Only ns (bs ++ cs)
only_both ns [] cs f g = g
only_both ns (b ∷ bs) cs f g = (f.0, only_both ns bs cs f.1 g)

-- names of a first part and of what follows it
only_parts : (xs ys : List (List ℕ)) (bs cs : Binds) → Only xs bs → Only ys cs → Only (xs ++ ys) (cs ++ bs)
only_parts xs ys bs cs f g = only_both (xs ++ ys) cs bs (only_right xs ys cs g) (only_left xs ys bs f)

only_binding : (n : List ℕ) (e : Entity) (ns : List (List ℕ)) → Only (n ∷ ns) (binding n e)
only_binding n e ns = go (is_blank n)
  where
    itself : is_among n (n ∷ ns) ≡ true
    itself = ap (λ b. b || is_among n ns) ((bytes_eq-Decides n n).1 refl)

    go : (t : Bool) → Only (n ∷ ns) (if t then [] else (n, e) ∷ [])
    go true = tt
    go false = (itself, tt)

only_step : (n : List ℕ) (e : Entity) (ns : List (List ℕ)) (bs : Binds) → Only ns bs → Only (n ∷ ns) (binding n e ++ bs)
only_step n e ns bs o = only_both (n ∷ ns) (binding n e) bs (only_binding n e ns) (only_right (n ∷ []) ns bs o)

bind_each_only : (e : Entity) (ns : List (List ℕ)) → Only ns (bind_each e ns)
bind_each_only e [] = tt
bind_each_only e (n ∷ ns) = only_step n e ns (bind_each e ns) (bind_each_only e ns)

bind_all_only : (f : Typed → Option Entity) (ns : List (List ℕ)) (vs : List Typed) (bs : Binds) → bind_all f ns vs ≡ Some bs → Only ns bs
bind_all_only f [] [] bs e = subst (Only []) (some_same [] bs e) tt
bind_all_only f [] (v ∷ vs) bs e = none_some e
bind_all_only f (n ∷ ns) [] bs e = none_some e
bind_all_only f (n ∷ ns) (v ∷ vs) bs e =
    let q : ((d : Entity) × (cs : Binds) × (f v ≡ Some d) × (bind_all f ns vs ≡ Some cs) × (Some (binding n d ++ cs) ≡ Some bs)) = from_both (f v) (bind_all f ns vs) (λ d cs. Some (binding n d ++ cs)) bs e in
    subst (Only (n ∷ ns)) (some_same (binding n q.0 ++ q.1) bs q.4) (only_step n q.0 ns q.1 (bind_all_only f ns vs q.1 q.3))

ranged_only : (ds : List Defined) (ns : List (List ℕ)) (ts : List GoType) (bs : Binds) → range_binds ds ns ts ≡ Some bs → Only ns bs
ranged_only ds [] ts bs e = subst (Only []) (some_same [] bs e) tt
ranged_only ds (n ∷ ns) [] bs e = none_some e
ranged_only ds (n ∷ ns) (t ∷ ts) bs e =
    let q : ((cs : Binds) × (range_binds ds ns ts ≡ Some cs) × (Some (binding n (variable t) ++ cs) ≡ Some bs)) = from_given (range_binds ds ns ts) (λ cs. Some (binding n (variable t) ++ cs)) bs e in
    subst (Only (n ∷ ns)) (some_same (binding n (variable t) ++ q.0) bs q.2) (only_step n (variable t) ns q.0 (ranged_only ds ns ts q.0 q.1))

defined_only : (a : Env) (ns : List (List ℕ)) (vs : List Typed) (bs : Binds) → defined_by (defined_in a) a ns vs ≡ Some bs → Only ns bs
defined_only a [] [] bs e = subst (Only []) (some_same [] bs e) tt
defined_only a [] (v ∷ vs) bs e = none_some e
defined_only a (n ∷ ns) [] bs e = none_some e
defined_only a (n ∷ ns) (v ∷ vs) bs e = go (is_declared_here a n) (λ cs f. defined_only a ns vs cs f) e
  where
    go : (h : Bool) → ((cs : Binds) → defined_by (defined_in a) a ns vs ≡ Some cs → Only ns cs)
        → (if h then only_if (assigns_to (defined_in a) (meaning a n) v) (defined_by (defined_in a) a ns vs) else both (variable_entity (defined_in a) None v) (defined_by (defined_in a) a ns vs) (λ e bs. Some (binding n e ++ bs))) ≡ Some bs → Only (n ∷ ns) bs
    go true k q = only_right (n ∷ []) ns bs (k bs (from_only (assigns_to (defined_in a) (meaning a n) v) (defined_by (defined_in a) a ns vs) bs q))
    go false k q =
        let p : ((d : Entity) × (cs : Binds) × (variable_entity (defined_in a) None v ≡ Some d) × (defined_by (defined_in a) a ns vs ≡ Some cs) × (Some (binding n d ++ cs) ≡ Some bs)) = from_both (variable_entity (defined_in a) None v) (defined_by (defined_in a) a ns vs) (λ d cs. Some (binding n d ++ cs)) bs q in
        subst (Only (n ∷ ns)) (some_same (binding n p.0 ++ p.1) bs p.4) (only_step n p.0 ns p.1 (k p.1 p.3))

-- ---- what declarations declare

abbrev DeclaresOnly : List (List ℕ) → Option Declared → Type 0
DeclaresOnly ns r = (d : Declared) → r ≡ Some d → Only ns d.binds

module _ (a : Env) (xs : List (List ℕ)) where
  abbrev constant_binds : Option (Option GoType) → Option (List Operand) → Option Binds
  constant_binds t os = both t os (λ t os. given (all_typed os) (bind_all (constant_entity (defined_in a) t) xs))

  constants_only : (t : Option (Option GoType)) (os : Option (List Operand)) (bs : Binds) → constant_binds t os ≡ Some bs → Only xs bs
  constants_only None os bs e = none_some e
  constants_only (Some t) None bs e = none_some e
  constants_only (Some t) (Some os) bs e =
      let q : ((vs : List Typed) × (all_typed os ≡ Some vs) × (bind_all (constant_entity (defined_in a) t) xs vs ≡ Some bs)) = from_given (all_typed os) (bind_all (constant_entity (defined_in a) t) xs) bs e in
      bind_all_only (constant_entity (defined_in a) t) xs q.0 bs q.2

  new_constants_only : (t : Option (Option GoType)) (os : Option (List Operand)) → DeclaresOnly xs (new_constants a xs t os)
  new_constants_only t os d e = constants_only t os d.binds (declared_as_constants (constant_binds t os) d (from_only (may_declare a xs) (constants_declared (constant_binds t os)) d e))

  abbrev variable_binds : Option (Option GoType) → Bool → Option (List Typed) → Option Binds
  variable_binds t zeros vs = given t (λ t. if zeros then given t (λ t. Some (bind_each (variable t) xs)) else given vs (bind_all (variable_entity (defined_in a) t) xs))

  variables_only : (t : Option (Option GoType)) (zeros : Bool) (vs : Option (List Typed)) (bs : Binds) → variable_binds t zeros vs ≡ Some bs → Only xs bs
  variables_only None zeros vs bs e = none_some e
  variables_only (Some None) true vs bs e = none_some e
  variables_only (Some (Some t)) true vs bs e = subst (Only xs) (some_same (bind_each (variable t) xs) bs e) (bind_each_only (variable t) xs)
  variables_only (Some t) false None bs e = none_some e
  variables_only (Some t) false (Some vs) bs e = bind_all_only (variable_entity (defined_in a) t) xs vs bs e

  pub new_variables_only : (t : Option (Option GoType)) (zeros : Bool) (vs : Option (List Typed)) → DeclaresOnly xs (new_variables a xs t zeros vs)
  new_variables_only t zeros vs d e = variables_only t zeros vs d.binds (declared_as_variables (variable_binds t zeros vs) d (from_only (may_declare a xs) (variables_declared (variable_binds t zeros vs)) d e))

  defines_only : (vs : Option (List Typed)) (bs : Binds) → given vs (defined_by (defined_in a) a xs) ≡ Some bs → Only xs bs
  defines_only None bs e = none_some e
  defines_only (Some vs) bs e = defined_only a xs vs bs e

  new_by_define_only : (vs : Option (List Typed)) → DeclaresOnly xs (new_by_define a xs vs)
  new_by_define_only vs d e = defines_only vs d.binds (declared_as_some (given vs (defined_by (defined_in a) a xs)) d (from_only (names_once xs) (some_declared (given vs (defined_by (defined_in a) a xs))) d e))

  ranges_only : (ts : Option (List GoType)) (bs : Binds) → given ts (range_binds (defined_in a) xs) ≡ Some bs → Only xs bs
  ranges_only None bs e = none_some e
  ranges_only (Some ts) bs e = ranged_only (defined_in a) xs ts bs e

  new_by_range_only : (o : Option Typed) (d : Declared) → given o (λ v. only_if (names_once xs) (some_declared (given (range_types (defined_in a) v) (range_binds (defined_in a) xs)))) ≡ Some d → Only xs d.binds
  new_by_range_only None d e = none_some e
  new_by_range_only (Some v) d e = ranges_only (range_types (defined_in a) v) d.binds (declared_as_some (given (range_types (defined_in a) v) (range_binds (defined_in a) xs)) d (from_only (names_once xs) (some_declared (given (range_types (defined_in a) v) (range_binds (defined_in a) xs))) d e))

-- names of a declaration that is refused
pub of_only : (names : List (List ℕ)) (r : Option Declared) (a : Env) → DeclaresOnly names r → Only names (binds_of names r)
of_only names None a f = bind_each_only refused names
of_only names (Some d) a f = f d refl

pub or_only : (names : List (List ℕ)) (r : Option Binds) (k : Env) → ((bs : Binds) → r ≡ Some bs → Only names bs) → Only names (binds_or names r)
or_only names None k f = bind_each_only refused names
or_only names (Some bs) k f = f bs refl

nothing_only : (d : Declared) → Some (record { binds = []; fresh = [] }) ≡ Some d → Only [] d.binds
nothing_only d e = subst (Only []) (binds_same (record { binds = []; fresh = [] }) d e) tt

module _ {S : Type 0} where
  specs_constants_only : (ss : ValueSpecs S) (a : Env) (r : Repeated) (i : ℕ) → DeclaresOnly (specs_names ss) (declares_constants a r i ss)
  specs_constants_only no_specs a r i d e = nothing_only d e
  specs_constants_only (spec s ns t es ss) a r i d e =
      let again : Repeated = (if no_values es then r else (λ e. written_type e t, λ e. all_parts e es)) in
      let here : Env = record a { iota = Some i } in
      let first : Option Declared = new_constants here (names_of ns) (again.0 a) (again.1 here) in
      let p : ((x : Declared) × (first ≡ Some x) × (given (declares_constants (extend x.binds a) again (i + 1) ss) (λ y. Some (and_then x y)) ≡ Some d)) = from_given first (λ x. given (declares_constants (extend x.binds a) again (i + 1) ss) (λ y. Some (and_then x y))) d e in
      let q : ((y : Declared) × (declares_constants (extend p.0.binds a) again (i + 1) ss ≡ Some y) × (Some (and_then p.0 y) ≡ Some d)) = from_given (declares_constants (extend p.0.binds a) again (i + 1) ss) (λ y. Some (and_then p.0 y)) d p.2 in
      subst (Only (names_of ns ++ specs_names ss)) (binds_same (and_then p.0 q.0) d q.2)
      (only_parts (names_of ns) (specs_names ss) p.0.binds q.0.binds (new_constants_only here (names_of ns) (again.0 a) (again.1 here) p.0 p.1) (specs_constants_only ss (extend p.0.binds a) again (i + 1) q.0 q.1))

  specs_variables_only : (ss : ValueSpecs S) (a : Env) → DeclaresOnly (specs_names ss) (declares_variables a ss)
  specs_variables_only no_specs a d e = nothing_only d e
  specs_variables_only (spec s ns t es ss) a d e =
      let vs : Option (List Typed) = right_values a (length ns) (places a es) (all_parts a es) in
      let first : Option Declared = new_variables a (names_of ns) (written_type a t) (no_values es) vs in
      let k : (Declared → Declared → Declared) = (λ x y. and_then (unused_after (used_variables (extend x.binds a) ss) x) y) in
      let p : ((x : Declared) × (first ≡ Some x) × (given (declares_variables (extend x.binds a) ss) (λ y. Some (k x y)) ≡ Some d)) = from_given first (λ x. given (declares_variables (extend x.binds a) ss) (λ y. Some (k x y))) d e in
      let q : ((y : Declared) × (declares_variables (extend p.0.binds a) ss ≡ Some y) × (Some (k p.0 y) ≡ Some d)) = from_given (declares_variables (extend p.0.binds a) ss) (λ y. Some (k p.0 y)) d p.2 in
      subst (Only (names_of ns ++ specs_names ss)) (binds_same (k p.0 q.0) d q.2)
      (only_parts (names_of ns) (specs_names ss) p.0.binds q.0.binds (new_variables_only a (names_of ns) (written_type a t) (no_values es) vs p.0 p.1) (specs_variables_only ss (extend p.0.binds a) q.0 q.1))

  pub declares_only : (s : Stmt S) (a : Env) → DeclaresOnly (declared s) (declares a s)
  declares_only (const_decl _ _ ss) a d e = specs_constants_only ss a nothing_to_repeat 0 d e
  declares_only (var_decl _ _ ss) a d e = specs_variables_only ss a d e
  declares_only (define _ ns rs) a d e = new_by_define_only a (names_of ns) (right_values a (length ns) (places a rs) (all_parts a rs)) d e
  declares_only (label _ n s) a d e = declares_only s a d e
  declares_only (empty _) a d e = nothing_only d e
  declares_only (eval _ _) a d e = nothing_only d e
  declares_only (step _ _ _) a d e = nothing_only d e
  declares_only (assign _ _ _ _) a d e = nothing_only d e
  declares_only (return_ _ _) a d e = nothing_only d e
  declares_only (break_ _ _) a d e = nothing_only d e
  declares_only (continue_ _ _) a d e = nothing_only d e
  declares_only (inner _ _) a d e = nothing_only d e
  declares_only (if_ _ _ _) a d e = nothing_only d e
  declares_only (for_ _ _ _ _ _ _) a d e = nothing_only d e
  declares_only (range_ _ _ _ _ _) a d e = nothing_only d e
  declares_only (switch _ _ _ _) a d e = nothing_only d e
  declares_only (defer _ _) a d e = nothing_only d e

  pub first_only : (s : StmtOption S) (a : Env) → DeclaresOnly (declared_option s) (declares_first a s)
  first_only no_stmt a d e = nothing_only d e
  first_only (some_stmt s) a d e = declares_only s a d e

  pub range_only : (l : RangeLeft S) (a k : Env) (o : Option Operand) → DeclaresOnly (defined l) (range_declares a o l)
  range_only nothing a k o d e = nothing_only d e
  range_only (assigns es) a k o d e = nothing_only d e
  range_only (defines ns) a k None d e = none_some e
  range_only (defines ns) a k (Some o) d e = new_by_range_only a (names_of ns) (typed o) d e

  -- ---- parameters and results

  param_step : (o : Option (NameAt S)) (t : GoType) (ns : List (List ℕ)) (bs : Binds) → Only ns bs → Only (name_then o ns) (param_binding o t ++ bs)
  param_step None t ns bs o = o
  param_step (Some n) t ns bs o = only_step n.name (variable t) ns bs o

  pub params_only : (ps : List (Param S)) (ts : List GoType) → Only (params_names ps) (param_binds ps ts)
  params_only [] ts = tt
  params_only (p ∷ ps) [] = tt
  params_only (p ∷ ps) (t ∷ ts) = param_step p.name t (params_names ps) (param_binds ps ts) (params_only ps ts)

  pub literal_only : (a k : Env) (g : Sig S) (bs : Binds) → given (func_type a g) (body_binds [] g) ≡ Some bs → Only (sig_names g) bs
  literal_only a k g bs e =
      let q : ((f : FuncType) × (func_type a g ≡ Some f) × (body_binds [] g f ≡ Some bs)) = from_given (func_type a g) (body_binds [] g) bs e in
      let cs : Binds = param_binds g.params q.0.params ++ param_binds g.results q.0.results in
      let same : cs ≡ bs = some_same cs bs (from_only (distinct_by bytes_eq (bound_names cs)) (Some cs) bs q.2) in
      subst (Only (sig_names g)) same
      (only_both (sig_names g) (param_binds g.params q.0.params) (param_binds g.results q.0.results)
      (only_left (params_names g.params) (params_names g.results) (param_binds g.params q.0.params) (params_only g.params q.0.params))
      (only_right (params_names g.params) (params_names g.results) (param_binds g.results q.0.results) (params_only g.results q.0.results)))

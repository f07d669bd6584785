-- Headers under other imports declare the same and use the same names where each name that they look up means what it
-- meant, and each key the same or no value.
use Rattle.std.specs.Prelude.{◌≡◌, refl, ℕ, Bool, true, false, not, ◌&&◌, List, [], ◌∷◌, ◌++◌, map, Option, Some, None, if◌then◌else◌}
use mathlib.Core.Path.{ap, sym, subst}
use Rattle.std.proofs.Common.{arith}
use Rattle.go_tree.specs.Tree.{NameAt, TypeExpr, Expr, Exprs, no_exprs, expr_and}
use Rattle.go_tree.specs.File.{TypeSpec, Receiver, Func}
use Rattle.go_tree.specs.ScopeNames.Means.{Environment, is_blank}
use Rattle.go_tree.specs.ScopeNames.FreeNames.{names_of, sig_names, free_type, free_type_option, free_params}
use Rattle.go_tree.specs.GoTypes.Agreement.{Same, On, Agrees}
use Rattle.go_tree.specs.GoTypes.Answers.{given, both, only_if, is_empty, without}
use Rattle.go_tree.specs.GoTypes.Bodiless.{all_bodiless}
use Rattle.go_tree.specs.GoTypes.Entities.{Entity, variable, World, Env, Binds}
use Rattle.go_tree.specs.GoTypes.Operands.{all_typed}
use Rattle.go_tree.specs.GoTypes.Programs.{Header, constants, variables, a_type_spec, a_func, Headed}
use Rattle.go_tree.specs.GoTypes.Collect.{env_of, DeclaredTypes, good_entity, may_be_main, function_declared, declared_by}
use Rattle.go_tree.specs.GoTypes.SingleNames.{has_value_each, each_alone, single_names, with_header}
use Rattle.go_tree.specs.GoTypes.Statements.{bind_all, bind_each, body_binds, constant_entity, variable_entity, no_values}
use Rattle.go_tree.specs.GoTypes.TypeNames.{func_type}
use Rattle.go_tree.specs.GoTypes.Typing.{used_all}
use Rattle.go_tree.specs.GoTypes.WellTyped.{body_ok, body_env, receiver_names, function_uses, header_uses}
use Rattle.go_translation.proofs.SmallAlike.{written_type-alike}
use Rattle.typed_in_place.specs.ImportsMoved.{under_imports, file_names, MovedReceiver, MovedIn, moved_type, moved_func, Moved}
use Rattle.typed_in_place.specs.ProgramsAlike.{OneByOne, no_more, and_more, SameHeader, SameMethod, AliasesStand, TypesStand, NameStands, ValuesStand}
use Rattle.typed_in_place.proofs.Headers.{type_in, method_in, on_in, body_in, alias_in, good_in, declared_in}
use Rattle.typed_in_place.proofs.ImportsMoved.{func_type-moved, alias-moved, good-moved, type_declared-moved, method-moved}
use Rattle.constant_modules.specs.NamesAndKeys.Marked.{Marked, OnMarked, marked_expr, marked_exprs, marked_stmts}
use Rattle.constant_modules.proofs.KeyedImports.Initial.{all_initial-keyed}
use Rattle.constant_modules.proofs.NamesAndKeys.Functions.{typed_so, uses_so}
use Rattle.constant_modules.proofs.NamesAndKeys.TypingMarked.{first_of, second_of, all_parts-alike, used_all-alike}

apart : {A : Type 0} → false ≡ true → A
apart e = grind (arith, e)

append_none : (xs : List Marked) → xs ++ [] ≡ xs
append_none [] = refl
append_none (x ∷ xs) = ap (λ l. x ∷ l) (append_none xs)

module _ {S : Type 0} where
  -- each name in a header means the same, `at` being the place, and each key the same or no value
  pub data KeyedIn (at : Option ℕ → Env) (m : Environment Entity) : Header S → Type 0 where
    keyed_constants :
        {ns : List (NameAt S)} {t : Option (TypeExpr S)} {es : Exprs S} {i : ℕ} → On (free_type_option [] t) (at (Some i)) m → OnMarked (marked_exprs [] es) (at (Some i)) m →
        KeyedIn at m (constants ns t es i)
    keyed_variables :
        {ns : List (NameAt S)} {t : Option (TypeExpr S)} {es : Exprs S} → On (free_type_option [] t) (at None) m → OnMarked (marked_exprs [] es) (at None) m → KeyedIn at m (variables ns t es)
    keyed_type : {t : TypeSpec S} → On (free_type [] t.of) (at None) m → KeyedIn at m (a_type_spec t)
    keyed_func :
        {f : Func S} → MovedReceiver (at None) m f.receiver → On (free_params [] f.sig.params) (at None) m → On (free_params [] f.sig.results) (at None) m → KeyedIn at m (a_func f)

  -- so does each that a header looks up
  pub record Keyed (w : World) (is : Environment Entity) (h : Headed S) : Type 0 where
    pub blank : (n : List ℕ) → is_blank n ≡ true → Same (env_of w h None) (file_names w h is) n
    pub tree : KeyedIn (env_of w h) (file_names w h is) h.header

  -- the names in the body of a function
  abbrev pub KeyedBody : World → Environment Entity → Headed S → Header S → Type 0
  KeyedBody w is h (constants ns t es i) = Unit {0}
  KeyedBody w is h (variables ns t es) = Unit {0}
  KeyedBody w is h (a_type_spec t) = Unit {0}
  KeyedBody w is h (a_func f) = OnMarked (marked_stmts [] f.body) (body_env w h f) (body_env w (under_imports is h) f).names

module _ {S : Type 0} (w : World) (is : Environment Entity) (h : Headed S) (blank : (n : List ℕ) → is_blank n ≡ true → Same (env_of w h None) (file_names w h is) n) where
  abbrev k : Headed S
  k = under_imports is h

  abbrev m : Environment Entity
  m = file_names w h is

  agrees : (i : Option ℕ) → Agrees [] (env_of w h i) m
  agrees i = record { bound = λ n e. apart e; here = λ n e. apart e; blank = blank }

  -- a header of types or of a function alone
  pub moved_there : {x : Header S} → MovedIn (env_of w h) m x → Moved w is (with_header h x)
  moved_there d = record { blank = blank; tree = d }

  -- ---- types

  alias_go : {x : Header S} → KeyedIn (env_of w h) m x → alias_in w h x ≡ alias_in w k x
  alias_go (keyed_constants o u) = refl
  alias_go (keyed_variables o u) = refl
  alias_go (keyed_type {t = t} o) = alias-moved w is (with_header h (a_type_spec t)) (moved_there (moved_type o))
  alias_go (keyed_func q p s) = refl

  good_go : (ds : DeclaredTypes) {x : Header S} → KeyedIn (env_of w h) m x → good_in ds w h x ≡ good_in ds w k x
  good_go ds (keyed_constants o u) = refl
  good_go ds (keyed_variables o u) = refl
  good_go ds (keyed_type {t = t} o) = good-moved w is (with_header h (a_type_spec t)) (moved_there (moved_type o)) ds
  good_go ds (keyed_func q p s) = refl

  type_go : {x : Header S} → KeyedIn (env_of w h) m x → type_in w h x ≡ type_in w k x
  type_go (keyed_constants o u) = refl
  type_go (keyed_variables o u) = refl
  type_go (keyed_type {t = t} o) = type_declared-moved w is (with_header h (a_type_spec t)) (moved_there (moved_type o))
  type_go (keyed_func q p s) = refl

  -- ---- what a header declares

  func_go : (f : Func S) → func_type (env_of w h None) f.sig ≡ func_type (env_of w k None) f.sig → (q : Option (Receiver S)) → elim q as (λ q. Option Binds) [ None ↦ function_declared w h f | Some r ↦ Some [] ] ≡ elim q as (λ p. Option Binds) [ None ↦ function_declared w k f | Some r ↦ Some [] ]
  func_go f e None = λ x. given (e x) (λ g. given (body_binds [] f.sig g) (λ bs. only_if (may_be_main h f g) (Some (Rattle.go_tree.specs.ScopeNames.Means.binding f.name.name (Rattle.go_tree.specs.GoTypes.Entities.function g)))))
  func_go f e (Some q) = refl

  declared_go : (p q : Option Entity) → p ≡ q → {x : Header S} → KeyedIn (env_of w h) m x → declared_in w h p x ≡ declared_in w k q x
  declared_go p q e (keyed_constants {ns = ns} {t = t} {es = es} {i = i} o u) =
      λ x. only_if (all_bodiless es) (both (written_type-alike (env_of w h (Some i)) t m [] (agrees (Some i)) o x) (all_parts-alike (env_of w h (Some i)) es m [] (agrees (Some i)) u x) (λ t os. given (all_typed os) (bind_all (constant_entity w.defined t) (names_of ns))))
  declared_go p q e (keyed_variables {ns = ns} {t = t} {es = es} o u) = λ x. given (written_type-alike (env_of w h None) t m [] (agrees None) o x) (λ t.
      if no_values es
      then given t (λ t. Some (bind_each (variable t) (names_of ns)))
      else only_if (all_bodiless es && all_initial-keyed (env_of w h None) m [] (agrees None) es u x) (given (all_parts-alike (env_of w h None) es m [] (agrees None) u x) (λ os. given (all_typed os) (bind_all (variable_entity w.defined t) (names_of ns)))))
  declared_go p q e (keyed_type {t = t} o) = λ x. given (e x) (λ e. Some (Rattle.go_tree.specs.ScopeNames.Means.binding t.name.name e))
  declared_go p q e (keyed_func {f = f} r s t) = func_go f (func_type-moved (env_of w h None) m [] (agrees None) f.sig s t) f.receiver

  -- ---- methods

  method_go : {x : Header S} → KeyedIn (env_of w h) m x → method_in w h x ≡ method_in w k x
  method_go (keyed_constants o u) = refl
  method_go (keyed_variables o u) = refl
  method_go (keyed_type o) = refl
  method_go (keyed_func {f = f} q p s) = (method-moved w is (with_header h (a_func f)) (moved_there (moved_func q p s))).method

  on_go : {x : Header S} → KeyedIn (env_of w h) m x → on_in w h x ≡ on_in w k x
  on_go (keyed_constants o u) = refl
  on_go (keyed_variables o u) = refl
  on_go (keyed_type o) = refl
  on_go (keyed_func {f = f} q p s) = (method-moved w is (with_header h (a_func f)) (moved_there (moved_func q p s))).on

  -- ---- bodies and names that are used

  body_go : {x : Header S} → KeyedIn (env_of w h) m x → KeyedBody w is h x → body_in w h x ≡ body_in w k x
  body_go (keyed_constants o u) d = refl
  body_go (keyed_variables o u) d = refl
  body_go (keyed_type o) d = refl
  body_go (keyed_func {f = f} q p s) d = typed_so w is (with_header h (a_func f)) f (moved_there (moved_func q p s)) d (moved_func q p s)

  abbrev uses_in : Headed S → Header S → List (List ℕ)
  uses_in h x =
      elim x [
        | constants ns t es i ↦ free_type_option [] t ++ used_all (env_of w h (Some i)) es
        | variables ns t es ↦ free_type_option [] t ++ used_all (env_of w h None) es
        | a_type_spec t ↦ free_type [] t.of
        | a_func f ↦ function_uses w h f
      ]

  uses_go : {x : Header S} → KeyedIn (env_of w h) m x → KeyedBody w is h x → uses_in h x ≡ uses_in k x
  uses_go (keyed_constants {t = t} {es = es} {i = i} o u) d = ap (λ us. free_type_option [] t ++ us) (used_all-alike (env_of w h (Some i)) es m [] (agrees (Some i)) u)
  uses_go (keyed_variables {t = t} {es = es} o u) d = ap (λ us. free_type_option [] t ++ us) (used_all-alike (env_of w h None) es m [] (agrees None) u)
  uses_go (keyed_type o) d = refl
  uses_go (keyed_func {f = f} q p s) d =
      ap (λ us. free_params [] f.sig.params ++ free_params [] f.sig.results ++ without (receiver_names f.receiver ++ sig_names f.sig) us)
      (uses_so w is (with_header h (a_func f)) f (moved_there (moved_func q p s)) d (moved_func q p s))

  -- ---- name by name

  by_test : (xs us : List (Header S)) (b : Bool) → OneByOne (NameStands w) (map (with_header h) xs) (map (with_header k) xs) → OneByOne (NameStands w) (map (with_header h) us) (map (with_header k) us) → OneByOne (NameStands w) (map (with_header h) (if b then xs else us)) (map (with_header k) (if b then xs else us))
  by_test xs us true p q = p
  by_test xs us false p q = q

  same_header : (x : Header S) → SameHeader (with_header h x) (with_header k x)
  same_header x = record { home = refl; file = refl; sound = refl; names = refl; method = refl }

  placed : {x : Header S} → KeyedIn (env_of w h) m x → NameStands w (with_header h x) (with_header k x)
  placed {x = x} tree = record { header = same_header x; declared = λ ds. ap (only_if h.sound) (declared_go (good_in ds w h x) (good_in ds w k x) (good_go ds tree) tree) }

  module _ (a : Env) (one : NameAt S → Exprs S → Header S) (single : (n : NameAt S) (e : Expr S) → OnMarked (marked_exprs [] (expr_and e no_exprs)) a m → KeyedIn (env_of w h) m (one n (expr_and e no_exprs))) where
    each_keyed : (ns : List (NameAt S)) (es : Exprs S) → OnMarked (marked_exprs [] es) a m → OneByOne (NameStands w) (map (with_header h) (each_alone one ns es)) (map (with_header k) (each_alone one ns es))
    each_keyed [] es o = no_more
    each_keyed (n ∷ ns) no_exprs o = no_more
    each_keyed (n ∷ ns) (expr_and e es) o =
        and_more (placed (single n e (subst (λ (ms : List Marked). OnMarked ms a m) (sym (append_none (marked_expr [] e))) (first_of (marked_expr [] e) (marked_exprs [] es) a m o))))
        (each_keyed ns es (second_of (marked_expr [] e) (marked_exprs [] es) a m o))

  tree_singly : {x : Header S} → KeyedIn (env_of w h) m x → OneByOne (NameStands w) (map (with_header h) (single_names x)) (map (with_header k) (single_names x))
  tree_singly (keyed_constants {ns = ns} {t = t} {es = es} {i = i} o u) =
      by_test (each_alone (λ n e. constants (n ∷ []) t e i) ns es) (constants ns t es i ∷ []) (not (is_empty ns) && has_value_each ns es) (each_keyed (env_of w h (Some i)) (λ n e. constants (n ∷ []) t e i) (λ n e q. keyed_constants o q) ns es u)
      (and_more (placed (keyed_constants o u)) no_more)
  tree_singly (keyed_variables {ns = ns} {t = t} {es = es} o u) =
      by_test (each_alone (λ n e. variables (n ∷ []) t e) ns es) (variables ns t es ∷ []) (not (is_empty ns) && has_value_each ns es) (each_keyed (env_of w h None) (λ n e. variables (n ∷ []) t e) (λ n e q. keyed_variables o q) ns es u)
      (and_more (placed (keyed_variables o u)) no_more)
  tree_singly (keyed_type o) = and_more (placed (keyed_type o)) no_more
  tree_singly (keyed_func q p s) = and_more (placed (keyed_func q p s)) no_more

-- ---- a header

module _ {S : Type 0} (w : World) (is : Environment Entity) (h : Headed S) (r : Keyed w is h) where
  abbrev there : Headed S
  there = under_imports is h

  same : SameMethod w h there
  same = record { method = method_go w is h r.blank r.tree; on = on_go w is h r.blank r.tree }

  alike : SameHeader h there
  alike = record { home = refl; file = refl; sound = refl; names = refl; method = refl }

  pub aliases_stand : AliasesStand w h there
  aliases_stand = record { header = alike; alias = alias_go w is h r.blank r.tree; defined = type_go w is h r.blank r.tree }

  pub types_stand : TypesStand w h there
  types_stand = record { good = λ ds. good_go w is h r.blank ds r.tree }

  pub declared_same : (ds : DeclaredTypes) → declared_by ds w h ≡ declared_by ds w there
  declared_same ds = ap (only_if h.sound) (declared_go w is h r.blank (good_entity ds w h) (good_entity ds w there) (good_go w is h r.blank ds r.tree) r.tree)

  pub values_stand : ValuesStand w h there
  values_stand = record { declared = declared_same; method = same; singles = tree_singly w is h r.blank r.tree }

  pub body_same : KeyedBody w is h h.header → body_ok w h ≡ body_ok w there
  body_same d = body_go w is h r.blank r.tree d

  pub uses_same : KeyedBody w is h h.header → header_uses w h ≡ header_uses w there
  uses_same d = uses_go w is h r.blank r.tree d

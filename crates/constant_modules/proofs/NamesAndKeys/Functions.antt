-- A function under other imports of its file is as well typed, uses the same names and has the same code, where the names
-- of its body mean the same, and keys the same or no value.
use Rattle.std.specs.Prelude.{◌≡◌, refl, ℕ, true, false, ◌&&◌, List, [], ◌++◌, Option, Some, None, nat_eq, is_none}
use mathlib.Core.Path.{ap, sym, ◌∙◌, subst}
use Rattle.std.proofs.Common.{arith, ◌∷◌, ◌⊎◌, inl, inr, Bool, if◌then◌else◌}
use Rattle.go_tree.specs.declared.spans.Span.{Span}
use Rattle.go_tree.specs.File.{Receiver, Func as Function}
use Rattle.go_tree.specs.ScopeNames.Means.{Environment, means}
use Rattle.go_tree.specs.Tree.{ident, eval, no_stmts, stmt_and}
use Rattle.go_tree.specs.ScopeNames.FreeNames.{unless_declared, free_params}
use Rattle.go_tree.specs.GoTypes.Answers.{given, meets, only_if, otherwise, is_among}
use Rattle.go_tree.specs.GoTypes.Types.{FuncType, named_type, type_name_of, base_of}
use Rattle.go_tree.specs.GoTypes.Defined.{under}
use Rattle.go_tree.specs.GoTypes.Entities.{Entity, World, Env, type_of_name, Binds, extend, in_block}
use Rattle.go_tree.specs.GoTypes.TypeNames.{func_type}
use Rattle.go_tree.specs.GoTypes.Bodies.{is_body}
use Rattle.go_tree.specs.GoTypes.Statements.{body_binds, body_ctx}
use Rattle.go_tree.specs.GoTypes.Typing.{used_stmts, stmts}
use Rattle.go_tree.specs.GoTypes.Programs.{Header, a_func, Headed}
use Rattle.go_tree.specs.GoTypes.Collect.{env_of, receiver_type, receiver_binds}
use Rattle.go_tree.specs.GoTypes.WellTyped.{receiver_of, body_env, function_ok}
use Rattle.go_tree.specs.GoTypes.Agreement.{In, head, tail, Same, On, Agrees}
use Rattle.go_tree.proofs.GoTypes.Agreeing.{agrees_after}
use Rattle.typed_in_place.specs.ImportsMoved.{under_imports, file_names, MovedReceiver, nothing_received, received, MovedIn, moved_func, Moved}
use Rattle.typed_in_place.proofs.ImportsMoved.{func_type-moved}
use Rattle.go_kernel.specs.Kernel.{ImportPath, FuncName, Func}
use Rattle.go_translation.specs.Values.{path_of}
use Rattle.go_translation.specs.Mentions.{Mention, mentions_stmts}
use Rattle.go_translation.specs.Here.{Here, at_body, function_of}
use Rattle.go_translation.specs.Calls.{function_named, method_named}
use Rattle.go_translation.specs.Translation.{stmts_term}
use Rattle.go_translation.specs.Packages.{binds_or_none, named_code, file_here, function_names, function_binds, function_code, func_code}
use Rattle.order_runs.specs.CycleRuns.ImportCycles.LookedUp.{names_around}
use Rattle.order_runs.proofs.CycleRuns.ImportCycles.FreeIdentifiers.{in-either}
use Rattle.order_runs.proofs.ImportCodes.BodiesBound.{BoundWith, ok_in, func-bound, body-same}
use Rattle.order_runs.proofs.ImportCodes.BodiesBound.{bound_in as bound}
use Rattle.constant_modules.specs.NamesAndKeys.Laws.{FunctionsStayTyped, FunctionsUseTheSame, FunctionsKeepTheirCode, NamesAtTheTop}
use Rattle.constant_modules.specs.NamesAndKeys.Marked.{Marked, used_name, key_name, SameOrNone, MeansAlike, Within, OnMarked, marked_stmts}
use Rattle.constant_modules.proofs.NamesAndKeys.AroundMarked.{marked-around}
use Rattle.constant_modules.proofs.NamesAndKeys.MentionsMarked.{mentions_stmts-alike}
use Rattle.constant_modules.proofs.NamesAndKeys.TranslationMarked.{stmts_term-alike}
use Rattle.constant_modules.proofs.NamesAndKeys.TypingMarked.{used_stmts-alike, stmts-alike, under_none}

apart : {A : Type 0} → false ≡ true → A
apart e = grind (arith, e)

the-one : (m n : List ℕ) → In m (n ∷ []) → m ≡ n
the-one m _ head = refl
the-one m n (tail i) = elim i [ ]

-- what follows from an answer, alike for each
given_each : {A B : Type 0} {p q : Option A} (k l : A → Option B) → p ≡ q → ((x : A) → p ≡ Some x → k x ≡ l x) → given p k ≡ given q l
given_each {p = None} k l e h = ap (λ r. given r l) e
given_each {p = Some x} k l e h = h x refl ∙ ap (λ r. given r l) e

-- two ways to say what is bound, if anything
bound_either : (o : Option Binds) → otherwise o [] ≡ binds_or_none o
bound_either None = refl
bound_either (Some bs) = refl

module _ {S : Type 0} (paths : List (ℕ × ImportPath)) (w : World) (is : Environment Entity) (h : Headed S) (r : Moved w is h) where
  abbrev k : Headed S
  k = under_imports is h

  abbrev m : Environment Entity
  m = file_names w h is

  abbrev before : Here
  before = file_here paths w h

  abbrev after : Here
  after = file_here paths w k

  agrees : Agrees [] (env_of w h None) m
  agrees = record { bound = λ n e. apart e; here = λ n e. apart e; blank = r.blank }

  -- ---- receivers

  receiver_type_moved : (q : Receiver S) → Same (env_of w h None) m q.of.name → receiver_type w h q ≡ receiver_type w k q
  receiver_type_moved q s = λ x. given (type_of_name (s x)) (λ t. given (type_name_of t) (λ q. only_if (nat_eq q.0 h.home && is_none (base_of (under w.defined t))) (Some q.1)))

  receiver_moved : {q : Option (Receiver S)} → MovedReceiver (env_of w h None) m q → receiver_of w h q ≡ receiver_of w k q
  receiver_moved nothing_received = refl
  receiver_moved (received {r = q} s) = λ x. elim (receiver_type_moved q s x) as (λ r. Binds) [ None ↦ [] | Some n ↦ receiver_binds q (named_type h.home n) ]

  abbrev called : Function S → Headed S → Option (Receiver S) → Option FuncName
  called f x q = elim q [
    | None ↦ Some (function_named (path_of paths x.home) f.name.name)
    | Some r ↦
        elim (receiver_type w x r) [
          | None ↦ None
          | Some t ↦ Some (method_named (path_of paths x.home) t f.name.name)
        ]
  ]

  called_moved : (f : Function S) {q : Option (Receiver S)} → MovedReceiver (env_of w h None) m q → called f h q ≡ called f k q
  called_moved f nothing_received = refl
  called_moved f (received {r = q} s) = λ x. elim (receiver_type_moved q s x) as (λ r. Option FuncName) [ None ↦ None | Some t ↦ Some (method_named (path_of paths h.home) t f.name.name) ]

  -- ---- functions

  abbrev code : Here → Binds → List Mention → Function S → FuncType → Func
  code x bs ms f g = function_of x (function_names f g) ms (stmts_term (at_body x bs (function_names f g) ms) f.body)

  abbrev mentioned : Here → Binds → Function S → List Mention
  mentioned x bs f = mentions_stmts (extend bs (in_block x.env)) f.body

  module _ (f : Function S) (bs : Binds) (o : OnMarked (marked_stmts [] f.body) (extend bs (env_of w h None)) (bs ++ m)) where
    within : Agrees [] (extend bs (env_of w h None)) (bs ++ m)
    within = agrees_after [] [] bs (env_of w h None) m (λ n i b. apart i) agrees

    mentions_moved : mentioned before bs f ≡ mentioned after bs f
    mentions_moved = mentions_stmts-alike (extend bs (in_block before.env)) f.body (bs ++ m) [] within o

    stmts_moved : (g : FuncType) (ms : List Mention) → stmts_term (at_body before bs (function_names f g) ms) f.body ≡ stmts_term (at_body after bs (function_names f g) ms) f.body
    stmts_moved g ms =
        stmts_term-alike (at_body before bs (function_names f g) ms) f.body (bs ++ m) (at_body before bs (function_names f g) ms).locals []
        (record { names = within; bound = λ n e. refl; here = λ n e. refl; blank = λ n e. refl }) (o, λ n i. refl)

  binds_moved : (f : Function S) (g : FuncType) → MovedReceiver (env_of w h None) m f.receiver → function_binds w h f g ≡ function_binds w k f g
  binds_moved f g q = λ z. binds_or_none (body_binds (receiver_moved q z) f.sig g)

  code_moved : (f : Function S) (g : FuncType) → MovedReceiver (env_of w h None) m f.receiver → OnMarked (marked_stmts [] f.body) (extend (function_binds w h f g) (env_of w h None)) (function_binds w h f g ++ m) → function_code paths w h f g ≡ function_code paths w k f g
  code_moved f g q o =
      let bs : Binds = function_binds w h f g in
      (λ z. function_of before (function_names f g) (mentioned before bs f) (stmts_moved f bs o g (mentioned before bs f) z))
      ∙ (λ z. code after bs (mentions_moved f bs o z) f g)
      ∙ (λ z. code after (binds_moved f g q z) (mentioned after (binds_moved f g q z) f) f g)

  abbrev bound_in : Function S → Headed S → Binds
  bound_in f x = otherwise (given (func_type (env_of w x None) f.sig) (body_binds (receiver_of w x f.receiver) f.sig)) []

  func_moved : (f : Function S) → MovedReceiver (env_of w h None) m f.receiver → On (free_params [] f.sig.params) (env_of w h None) m → On (free_params [] f.sig.results) (env_of w h None) m → OnMarked (marked_stmts [] f.body) (body_env w h f) (body_env w k f).names → func_code paths w h f ≡ func_code paths w k f
  func_moved f q p s o = λ z. named_code (called_moved f q z) (given_each (λ g. Some (function_code paths w h f g)) (λ g. Some (function_code paths w k f g)) typed (λ g e. ap (λ c. Some c) (code_moved f g q (on g e))) z)
    where
      typed : func_type (env_of w h None) f.sig ≡ func_type (env_of w k None) f.sig
      typed = func_type-moved (env_of w h None) m [] agrees f.sig p s

      bound : (x : Headed S) (g : FuncType) → func_type (env_of w x None) f.sig ≡ Some g → bound_in f x ≡ function_binds w x f g
      bound x g e = ap (λ t. otherwise (given t (body_binds (receiver_of w x f.receiver) f.sig)) []) e ∙ bound_either (body_binds (receiver_of w x f.receiver) f.sig g)

      on : (g : FuncType) → func_type (env_of w h None) f.sig ≡ Some g → OnMarked (marked_stmts [] f.body) (extend (function_binds w h f g) (env_of w h None)) (function_binds w h f g ++ m)
      on g e =
          subst (λ (bs : Binds). OnMarked (marked_stmts [] f.body) (extend bs (env_of w h None)) (function_binds w h f g ++ m)) (bound h g e)
          (subst (λ (bs : Binds). OnMarked (marked_stmts [] f.body) (body_env w h f) (bs ++ m)) (bound k g (sym typed ∙ e) ∙ sym (binds_moved f g q)) o)

  -- ---- typing

  module _ (f : Function S) (q : MovedReceiver (env_of w h None) m f.receiver) (p : On (free_params [] f.sig.params) (env_of w h None) m) (s : On (free_params [] f.sig.results) (env_of w h None) m)
      (o : OnMarked (marked_stmts [] f.body) (body_env w h f) (body_env w k f).names) where
    both_bound : bound_in f h ≡ bound_in f k
    both_bound = λ x. otherwise (given (func_type-moved (env_of w h None) m [] agrees f.sig p s x) (body_binds (receiver_moved q x) f.sig)) []

    on_here : OnMarked (marked_stmts [] f.body) (body_env w h f) (bound_in f h ++ m)
    on_here = subst (λ (bs : Binds). OnMarked (marked_stmts [] f.body) (body_env w h f) (bs ++ m)) (sym both_bound) o

    here : Agrees [] (body_env w h f) (bound_in f h ++ m)
    here = agrees_after [] [] (bound_in f h) (env_of w h None) m (λ n i b. apart i) agrees

    pub typed_moved : function_ok w h f ≡ function_ok w k f
    typed_moved =
        λ x. meets (func_type-moved (env_of w h None) m [] agrees f.sig p s x) (λ g. is_body g f.body
        ((stmts-alike (body_ctx f.sig g) (body_env w h f) false f.body (bound_in f h ++ m) [] here on_here ∙ ap (λ (bs : Binds). stmts (body_ctx f.sig g) (extend bs (env_of w k None)) false f.body) both_bound) x))

    pub uses_moved : used_stmts (body_env w h f) f.body ≡ used_stmts (body_env w k f) f.body
    uses_moved = used_stmts-alike (body_env w h f) f.body (bound_in f h ++ m) [] here on_here ∙ ap (λ (bs : Binds). used_stmts (extend bs (env_of w k None)) f.body) both_bound

-- ---- laws

module _ {S : Type 0} (w : World) (is : Environment Entity) (h : Headed S) (f : Function S) (r : Moved w is h) (o : OnMarked (marked_stmts [] f.body) (body_env w h f) (body_env w (under_imports is h) f).names) where
  pub typed_so : MovedIn (env_of w h) (file_names w h is) (a_func f) → function_ok w h f ≡ function_ok w (under_imports is h) f
  typed_so (moved_func q p s) = typed_moved [] w is h r f q p s o

  pub uses_so : MovedIn (env_of w h) (file_names w h is) (a_func f) → used_stmts (body_env w h f) f.body ≡ used_stmts (body_env w (under_imports is h) f) f.body
  uses_so (moved_func q p s) = uses_moved [] w is h r f q p s o

  pub code_so : (paths : List (ℕ × ImportPath)) → MovedIn (env_of w h) (file_names w h is) (a_func f) → func_code paths w h f ≡ func_code paths w (under_imports is h) f
  code_so paths (moved_func q p s) = func_moved paths w is h r f q p s o

pub stay_typed : FunctionsStayTyped
stay_typed w is h f e r o = typed_so w is h f r o (subst (λ (y : Header Span). MovedIn (env_of w h) (file_names w h is) y) e r.tree)

pub use_the_same : FunctionsUseTheSame
use_the_same w is h f e r o = uses_so w is h f r o (subst (λ (y : Header Span). MovedIn (env_of w h) (file_names w h is) y) e r.tree)

pub keep_code : FunctionsKeepTheirCode
keep_code paths w is h f e r o = code_so w is h f r o paths (subst (λ (y : Header Span). MovedIn (env_of w h) (file_names w h is) y) e r.tree)

-- what a function binds around its body is the same under the other imports
bound_alike : {S : Type 0} (w : World) (is : Environment Entity) (h : Headed S) (r : Moved w is h) (f : Function S) → MovedReceiver (env_of w h None) (file_names w h is) f.receiver → On (free_params [] f.sig.params) (env_of w h None) (file_names w h is)
    → On (free_params [] f.sig.results) (env_of w h None) (file_names w h is) → bound w h f ≡ bound w (under_imports is h) f
bound_alike w is h r f q p s =
    λ x. otherwise (given (func_type-moved (env_of w h None) (file_names w h is) [] (agrees [] w is h r) f.sig p s x) (body_binds (receiver_moved [] w is h r q x) f.sig)) []

-- ---- by the names at the top of the file

module _ {S : Type 0} (w : World) (is : Environment Entity) (h : Headed S) (r : Moved w is h) (f : Function S) (b : BoundWith w h f f.receiver) where
  abbrev top : Env
  top = env_of w h None

  abbrev there : Environment Entity
  there = file_names w h is

  at_top : Agrees [] top there
  at_top = record { bound = λ n e. apart e; here = λ n e. apart e; blank = r.blank }

  -- the function with a body that is this name
  abbrev only : List ℕ → Function S
  only n = record f { body = stmt_and (eval f.span (ident f.span n)) no_stmts }

  -- a name that the function declares around its body means the same there, and any other what it means at the top
  one_same : (n : List ℕ) → (is_among n (names_around f) ≡ false → means top.names n ≡ means there n) → means (bound w h f ++ top.names) n ≡ means (bound w h f ++ there) n
  one_same n g = body-same w h there at_top (only n) (record { type = b.type; typed = b.typed; received = b.received; binds = b.binds; bound = b.bound }) on n head
    where
      on : On (unless_declared (names_around f) n ++ []) top there
      on x i = either (in-either x (unless_declared (names_around f) n) [] i)
        where
          by : (c : Bool) → is_among n (names_around f) ≡ c → In x (if c then [] else n ∷ []) → means top.names x ≡ means there x
          by true e j = elim j [ ]
          by false e j = subst (λ (y : List ℕ). means top.names y ≡ means there y) (sym (the-one x n j)) (g e)

          either : In x (unless_declared (names_around f) n) ⊎ In x [] → means top.names x ≡ means there x
          either (inl j) = by (is_among n (names_around f)) refl j
          either (inr j) = elim j [ ]

  module _ (o : OnMarked (marked_stmts (names_around f) f.body) top there) where
    each : (x : Marked) → Within x (marked_stmts [] f.body) → MeansAlike (extend (bound w h f) top) (bound w h f ++ there) x
    each (used_name n) i = one_same n (λ e. o (used_name n) (marked-around (used_name n) (names_around f) f.body e i))
    each (key_name n) i = by (is_among n (names_around f)) refl
      where
        by : (c : Bool) → is_among n (names_around f) ≡ c → SameOrNone (means (bound w h f ++ top.names) n) (means (bound w h f ++ there) n)
        by true e = inl (one_same n (λ g. absurd (grind (arith, sym e ∙ g))))
        by false e = under_none n (bound w h f) top.names there (o (key_name n) (marked-around (key_name n) (names_around f) f.body e i))

  pub body_marked : MovedIn (env_of w h) there (a_func f) → OnMarked (marked_stmts (names_around f) f.body) top there → OnMarked (marked_stmts [] f.body) (body_env w h f) (body_env w (under_imports is h) f).names
  body_marked (moved_func q p s) o = subst (λ (bs : Binds). OnMarked (marked_stmts [] f.body) (body_env w h f) (bs ++ there)) (bound_alike w is h r f q p s) (each o)

pub at_the_top : NamesAtTheTop
at_the_top w is h f e r ds before ok o =
    body_marked w is h r f (func-bound w h ds before f (subst (λ (y : Header Span). ok_in w h ds before y ≡ true) e ok)) (subst (λ (y : Header Span). MovedIn (env_of w h) (file_names w h is) y) e r.tree) o

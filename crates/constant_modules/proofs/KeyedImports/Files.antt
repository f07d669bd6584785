-- The headers of a file under other imports: each name that they look up means what it meant, and each key the same or no
-- value, in bodies too.
use Rattle.std.proofs.Common.{◌≡◌, refl, sym, subst, ◌∙◌, ◌⊎◌, inl, inr, ℕ, suc, Bool, true, false, List, [], ◌∷◌, ◌++◌, map, Option, Some, None, if◌then◌else◌, bytes_eq}
use Rattle.std.specs.Prelude.{slice_get}
use Rattle.go_tree.specs.Tree.{TypeExpr, Exprs, no_exprs, const_decl, var_decl, empty, eval, step, assign, define, return_, break_, continue_, inner, if_, for_, range_, switch, defer, label, ValueSpecs, no_specs, spec}
use Rattle.go_tree.specs.File.{TypeSpec, Receiver, Func, Decl, values, types, func}
use Rattle.go_tree.specs.ScopeNames.FreeNames.{free_type, free_type_option, free_params}
use Rattle.go_tree.specs.ScopeNames.Means.{Environment, means, is_blank, or_else}
use Rattle.go_tree.specs.GoTypes.Agreement.{In, head, tail, On}
use Rattle.go_tree.specs.GoTypes.Answers.{is_among}
use Rattle.go_tree.specs.GoTypes.Bodies.{no_values}
use Rattle.go_tree.specs.GoTypes.Collect.{DeclaredTypes}
use Rattle.go_tree.specs.GoTypes.Entities.{Entity, variable, constant, stand_in, type_name, function, package_name, builtin, nil_name, iota_name, refused, World, block_of, universe}
use Rattle.go_tree.specs.GoTypes.MethodDeclarations.{MethodName}
use Rattle.go_tree.specs.GoTypes.Programs.{Header, constants, variables, a_type_spec, a_func, Headed, Import, SourceFile, file_env, at_member, constant_headers, variable_headers, headers, all_headers, header_names, header_sound, headed_file, file_block, import_sound, import_entity}
use Rattle.go_tree.specs.GoTypes.WellTyped.{header_ok}
use Rattle.constant_steps.proofs.WrittenLiteral.NamesMeant.{means_join}
use Rattle.order_runs.specs.CycleRuns.ImportCycles.LookedUp.{types_looked_up, receiver_looked_up, names_around}
use Rattle.order_runs.specs.ImportCodes.PackagesMoved.{imported_as}
use Rattle.order_runs.proofs.ImportCodes.BodiesBound.{func-bound}
use Rattle.order_runs.proofs.ImportCodes.NamesImported.{name-means, blank-means}
use Rattle.typed_in_place.specs.ImportsMoved.{under_imports, MovedReceiver, nothing_received, received, moved_func}
use Rattle.typed_in_place.specs.ProgramReplaced.{All, all_of_none, all_and}
use Rattle.typed_in_place.specs.ProgramsAlike.{OneByOne, no_more, and_more}
use Rattle.constant_modules.specs.KeyedImports.Keyed.{means_value, all_used, specs_marked, decl_marked, IsFree, FileKeyed}
use Rattle.constant_modules.specs.NamesAndKeys.Marked.{Marked, used_name, key_name, NoValue, no_meaning, of_package, of_type, of_builtin, of_refused, SameOrNone, MeansAlike, Within, at_head, behind, OnMarked, marked_exprs, marked_stmts}
use Rattle.constant_modules.proofs.KeyedImports.Headers.{KeyedIn, keyed_constants, keyed_variables, keyed_type, keyed_func, Keyed, KeyedBody, moved_there}
use Rattle.constant_modules.proofs.NamesAndKeys.Functions.{body_marked}
use Rattle.constant_modules.proofs.NamesAndKeys.TypingMarked.{within-left, within-right}

-- the second header is the first under other imports, under which, in these worlds, each name means the same, and each key
-- the same or no value, also in the body, where the header declares something, or is a method that may stand there
pub record WholeKeyed {S : Type 0} (G : World → Type 0) (h k : Headed S) : Type 0 where
  pub imports : Environment Entity
  pub same : k ≡ under_imports imports h
  pub keyed : (w : World) → G w → Keyed w imports h
  pub body : (w : World) → G w → (ds : DeclaredTypes) (before : List MethodName) → header_ok ds w before h ≡ true → KeyedBody w imports h h.header

within_used : {n : List ℕ} {ns : List (List ℕ)} → In n ns → Within (used_name n) (all_used ns)
within_used head = at_head
within_used (tail i) = behind (within_used i)

all-append : {A : Type 0} (P : A → Type 0) (xs ys : List A) → All P xs → All P ys → All P (xs ++ ys)
all-append P _ ys all_of_none r = r
all-append P _ ys (all_and {xs = xs} p q) r = all_and p (all-append P xs ys q r)

module _ (home : ℕ) (is js : Environment Entity) (G : World → Type 0) where
  -- the file's names under the other imports
  abbrev under : World → Environment Entity
  under w = js ++ block_of w.blocks home ++ universe

  -- each of the names means alike in these worlds
  abbrev pub AllAlike : List Marked → Type 0
  AllAlike ms = (x : Marked) → Within x ms → (w : World) → G w → MeansAlike (file_env w home is None) (under w) x

  at_any : (w : World) (i : Option ℕ) (x : Marked) → MeansAlike (file_env w home is None) (under w) x → MeansAlike (file_env w home is i) (under w) x
  at_any w i (used_name n) e = e
  at_any w i (key_name n) e = e

  used_on : (ns : List (List ℕ)) → AllAlike (all_used ns) → (w : World) → G w → (i : Option ℕ) → On ns (file_env w home is i) (under w)
  used_on ns f w g i n j = f (used_name n) (within_used j) w g

  marked_on : (ms : List Marked) → AllAlike ms → (w : World) → G w → (i : Option ℕ) → OnMarked ms (file_env w home is i) (under w)
  marked_on ms f w g i x j = at_any w i x (f x j w g)

  front : (ms ns : List Marked) → AllAlike (ms ++ ns) → AllAlike ms
  front ms ns f x j = f x (within-left ns j)

  rear : (ms ns : List Marked) → AllAlike (ms ++ ns) → AllAlike ns
  rear ms ns f x j = f x (within-right ms j)

  -- names that are used, by parts of a list
  used_front : (xs ys : List (List ℕ)) → AllAlike (all_used (xs ++ ys)) → AllAlike (all_used xs)
  used_front xs ys f x j = f x (further xs x j)
    where
      further : (xs : List (List ℕ)) (x : Marked) → Within x (all_used xs) → Within x (all_used (xs ++ ys))
      further (n ∷ xs) _ at_head = at_head
      further (n ∷ xs) x (behind j) = behind (further xs x j)
      further [] x j = elim j [ ]

  used_rear : (xs ys : List (List ℕ)) → AllAlike (all_used (xs ++ ys)) → AllAlike (all_used ys)
  used_rear xs ys f x j = f x (further xs x j)
    where
      further : (xs : List (List ℕ)) (x : Marked) → Within x (all_used ys) → Within x (all_used (xs ++ ys))
      further [] x j = j
      further (n ∷ xs) x j = behind (further xs x j)

  module _ {S : Type 0} where
    abbrev pub HeaderReads : S × Header S → Type 0
    HeaderReads h = (w : World) → G w → KeyedIn (λ i. file_env w home is i) (under w) h.1

    constant-all : (at : S → S) (t : Option (TypeExpr S)) (es : Exprs S) (i : ℕ) (ss : ValueSpecs S) → AllAlike (all_used (free_type_option [] t)) → AllAlike (marked_exprs [] es) → AllAlike (specs_marked ss) → All HeaderReads (constant_headers at t es i ss)
    constant-all at t es i no_specs f g h = all_of_none
    constant-all at t es i (spec s ns u fs ss) f g h =
        by (no_values fs) (constant-all at t es (suc i) ss f g rest) (constant-all at u fs (suc i) ss own-type own-values rest)
      where
        both : AllAlike (all_used (free_type_option [] u) ++ marked_exprs [] fs)
        both = front (all_used (free_type_option [] u) ++ marked_exprs [] fs) (specs_marked ss) h

        rest : AllAlike (specs_marked ss)
        rest = rear (all_used (free_type_option [] u) ++ marked_exprs [] fs) (specs_marked ss) h

        own-type : AllAlike (all_used (free_type_option [] u))
        own-type = front (all_used (free_type_option [] u)) (marked_exprs [] fs) both

        own-values : AllAlike (marked_exprs [] fs)
        own-values = rear (all_used (free_type_option [] u)) (marked_exprs [] fs) both

        by : (b : Bool) → All HeaderReads (constant_headers at t es (suc i) ss) → All HeaderReads (constant_headers at u fs (suc i) ss)
            → All HeaderReads (if b then (at s, constants ns t es i) ∷ constant_headers at t es (suc i) ss else (at s, constants ns u fs i) ∷ constant_headers at u fs (suc i) ss)
        by true x y = all_and (λ w k. keyed_constants (used_on (free_type_option [] t) f w k (Some i)) (marked_on (marked_exprs [] es) g w k (Some i))) x
        by false x y = all_and (λ w k. keyed_constants (used_on (free_type_option [] u) own-type w k (Some i)) (marked_on (marked_exprs [] fs) own-values w k (Some i))) y

    variable-all : (at : S → S) (ss : ValueSpecs S) → AllAlike (specs_marked ss) → All HeaderReads (variable_headers at ss)
    variable-all at no_specs h = all_of_none
    variable-all at (spec s ns u fs ss) h =
        all_and
        (λ w k. keyed_variables (used_on (free_type_option [] u) (front (all_used (free_type_option [] u)) (marked_exprs [] fs) both) w k None) (marked_on (marked_exprs [] fs) (rear (all_used (free_type_option [] u)) (marked_exprs [] fs) both) w k None))
        (variable-all at ss (rear (all_used (free_type_option [] u) ++ marked_exprs [] fs) (specs_marked ss) h))
      where
        both : AllAlike (all_used (free_type_option [] u) ++ marked_exprs [] fs)
        both = front (all_used (free_type_option [] u) ++ marked_exprs [] fs) (specs_marked ss) h

    type-all : (g : Bool) (s : S) (ts : List (TypeSpec S)) → AllAlike (all_used (types_looked_up ts)) → All HeaderReads (map (λ t. (at_member g s t.span, a_type_spec t)) ts)
    type-all g s [] h = all_of_none
    type-all g s (t ∷ ts) h =
        all_and (λ w k. keyed_type (used_on (free_type [] t.of) (used_front (free_type [] t.of) (types_looked_up ts) h) w k None)) (type-all g s ts (used_rear (free_type [] t.of) (types_looked_up ts) h))

    receiver-reads : (r : Option (Receiver S)) → AllAlike (all_used (receiver_looked_up r)) → (w : World) → G w → MovedReceiver (file_env w home is None) (under w) r
    receiver-reads None h w k = nothing_received
    receiver-reads (Some r) h w k = received (h (used_name r.of.name) at_head w k)

    module _ (f : Func S) (h : AllAlike (decl_marked (func f))) where
      receiver : List (List ℕ)
      receiver = receiver_looked_up f.receiver

      params : List (List ℕ)
      params = free_params [] f.sig.params

      results : List (List ℕ)
      results = free_params [] f.sig.results

      heads : AllAlike (all_used (receiver_looked_up f.receiver ++ free_params [] f.sig.params ++ free_params [] f.sig.results))
      heads = front (all_used (receiver_looked_up f.receiver ++ free_params [] f.sig.params ++ free_params [] f.sig.results)) (marked_stmts (names_around f) f.body) h

      firsts : AllAlike (all_used (receiver_looked_up f.receiver ++ free_params [] f.sig.params))
      firsts = used_front (receiver_looked_up f.receiver ++ free_params [] f.sig.params) (free_params [] f.sig.results) heads

      func-all : All HeaderReads (headers (func f))
      func-all =
          all_and (λ w k.
          keyed_func (receiver-reads f.receiver (used_front (receiver_looked_up f.receiver) (free_params [] f.sig.params) firsts) w k)
          (used_on (free_params [] f.sig.params) (used_rear (receiver_looked_up f.receiver) (free_params [] f.sig.params) firsts) w k None)
          (used_on (free_params [] f.sig.results) (used_rear (receiver_looked_up f.receiver ++ free_params [] f.sig.params) (free_params [] f.sig.results) heads) w k None))
          all_of_none

    decl-all : (d : Decl S) → AllAlike (decl_marked d) → All HeaderReads (headers d)
    decl-all (values (const_decl s g ss)) h = constant-all (at_member g s) None no_exprs 0 ss (λ x j. elim j [ ]) (λ x j. elim j [ ]) h
    decl-all (values (var_decl s g ss)) h = variable-all (at_member g s) ss h
    decl-all (values (empty _)) h = all_of_none
    decl-all (values (eval _ _)) h = all_of_none
    decl-all (values (step _ _ _)) h = all_of_none
    decl-all (values (assign _ _ _ _)) h = all_of_none
    decl-all (values (define _ _ _)) h = all_of_none
    decl-all (values (return_ _ _)) h = all_of_none
    decl-all (values (break_ _ _)) h = all_of_none
    decl-all (values (continue_ _ _)) h = all_of_none
    decl-all (values (inner _ _)) h = all_of_none
    decl-all (values (if_ _ _ _)) h = all_of_none
    decl-all (values (for_ _ _ _ _ _ _)) h = all_of_none
    decl-all (values (range_ _ _ _ _ _)) h = all_of_none
    decl-all (values (switch _ _ _ _)) h = all_of_none
    decl-all (values (defer _ _)) h = all_of_none
    decl-all (values (label _ _ _)) h = all_of_none
    decl-all (types s g ts) h = type-all g s ts h
    decl-all (func f) h = func-all f h

    decls-all : (ds : List (Decl S)) → ((k : ℕ) (d : Decl S) → slice_get ds k ≡ Some d → AllAlike (decl_marked d)) → All HeaderReads (all_headers ds)
    decls-all [] h = all_of_none
    decls-all (d ∷ ds) h = all-append HeaderReads (headers d) (all_headers ds) (decl-all d (h 0 d refl)) (decls-all ds (λ k e g. h (suc k) e g))

    -- ---- bodies

    -- each name in the body that the function doesn't declare around it means alike
    abbrev BodyMeans : Header S → Type 0
    BodyMeans (constants ns t es i) = Unit {0}
    BodyMeans (variables ns t es) = Unit {0}
    BodyMeans (a_type_spec t) = Unit {0}
    BodyMeans (a_func f) = AllAlike (marked_stmts (names_around f) f.body)

    abbrev BodyReads : S × Header S → Type 0
    BodyReads h = BodyMeans h.1

    constant-bodies : (at : S → S) (t : Option (TypeExpr S)) (es : Exprs S) (i : ℕ) (ss : ValueSpecs S) → All BodyReads (constant_headers at t es i ss)
    constant-bodies at t es i no_specs = all_of_none
    constant-bodies at t es i (spec s ns u fs ss) = by (no_values fs) (constant-bodies at t es (suc i) ss) (constant-bodies at u fs (suc i) ss)
      where
        by : (b : Bool) → All BodyReads (constant_headers at t es (suc i) ss) → All BodyReads (constant_headers at u fs (suc i) ss)
            → All BodyReads (if b then (at s, constants ns t es i) ∷ constant_headers at t es (suc i) ss else (at s, constants ns u fs i) ∷ constant_headers at u fs (suc i) ss)
        by true x y = all_and tt x
        by false x y = all_and tt y

    variable-bodies : (at : S → S) (ss : ValueSpecs S) → All BodyReads (variable_headers at ss)
    variable-bodies at no_specs = all_of_none
    variable-bodies at (spec s ns u fs ss) = all_and tt (variable-bodies at ss)

    type-bodies : (g : Bool) (s : S) (ts : List (TypeSpec S)) → All BodyReads (map (λ t. (at_member g s t.span, a_type_spec t)) ts)
    type-bodies g s [] = all_of_none
    type-bodies g s (t ∷ ts) = all_and tt (type-bodies g s ts)

    decl-bodies : (d : Decl S) → AllAlike (decl_marked d) → All BodyReads (headers d)
    decl-bodies (values (const_decl s g ss)) h = constant-bodies (at_member g s) None no_exprs 0 ss
    decl-bodies (values (var_decl s g ss)) h = variable-bodies (at_member g s) ss
    decl-bodies (values (empty _)) h = all_of_none
    decl-bodies (values (eval _ _)) h = all_of_none
    decl-bodies (values (step _ _ _)) h = all_of_none
    decl-bodies (values (assign _ _ _ _)) h = all_of_none
    decl-bodies (values (define _ _ _)) h = all_of_none
    decl-bodies (values (return_ _ _)) h = all_of_none
    decl-bodies (values (break_ _ _)) h = all_of_none
    decl-bodies (values (continue_ _ _)) h = all_of_none
    decl-bodies (values (inner _ _)) h = all_of_none
    decl-bodies (values (if_ _ _ _)) h = all_of_none
    decl-bodies (values (for_ _ _ _ _ _ _)) h = all_of_none
    decl-bodies (values (range_ _ _ _ _ _)) h = all_of_none
    decl-bodies (values (switch _ _ _ _)) h = all_of_none
    decl-bodies (values (defer _ _)) h = all_of_none
    decl-bodies (values (label _ _ _)) h = all_of_none
    decl-bodies (types s g ts) h = type-bodies g s ts
    decl-bodies (func f) h =
        all_and (rear (all_used (receiver_looked_up f.receiver ++ free_params [] f.sig.params ++ free_params [] f.sig.results)) (marked_stmts (names_around f) f.body) h) all_of_none

    decls-bodies : (ds : List (Decl S)) → ((k : ℕ) (d : Decl S) → slice_get ds k ≡ Some d → AllAlike (decl_marked d)) → All BodyReads (all_headers ds)
    decls-bodies [] h = all_of_none
    decls-bodies (d ∷ ds) h = all-append BodyReads (headers d) (all_headers ds) (decl-bodies d (h 0 d refl)) (decls-bodies ds (λ k e g. h (suc k) e g))

    -- ---- the headers of a file

    module _ (blank : (n : List ℕ) → is_blank n ≡ true → (w : World) → means (is ++ block_of w.blocks home ++ universe) n ≡ means (under w) n) where
      -- a header in the file, under its imports
      abbrev in_file : Bool → ℕ → List (List ℕ) → S × Header S → Headed S
      in_file in_main file before h = record { home = home; in_main = in_main; file = file; imports = is; at = h.0; sound = header_sound before h.1; header = h.1 }

      body-of : (in_main : Bool) (file : ℕ) (before : List (List ℕ)) (s : S) (x : Header S) (w : World) → G w → KeyedIn (λ i. file_env w home is i) (under w) x → BodyMeans x → (ds : DeclaredTypes) (b : List MethodName) → header_ok ds w b (in_file in_main file before (s, x)) ≡ true
          → KeyedBody w js (in_file in_main file before (s, x)) x
      body-of in_main file before s (constants ns t es i) w g k o ds b e = tt
      body-of in_main file before s (variables ns t es) w g k o ds b e = tt
      body-of in_main file before s (a_type_spec t) w g k o ds b e = tt
      body-of in_main file before s (a_func f) w g (keyed_func q p r) o ds b e =
          let x : Headed S = in_file in_main file before (s, a_func f) in
          body_marked w js x (moved_there w js x (λ n c. blank n c w) (moved_func q p r)) f (func-bound w x ds b f e) (moved_func q p r) (marked_on (marked_stmts (names_around f) f.body) o w g None)

      whole-file : (in_main : Bool) (file : ℕ) (before : List (List ℕ)) (hs : List (S × Header S)) → All HeaderReads hs → All BodyReads hs → OneByOne (WholeKeyed G) (headed_file home in_main file is before hs) (headed_file home in_main file js before hs)
      whole-file in_main file before _ all_of_none all_of_none = no_more
      whole-file in_main file before _ (all_and {a = h} {xs = hs} p ps) (all_and q qs) =
          and_more (record { imports = js; same = refl; keyed = λ w g. record { blank = λ n c. blank n c w; tree = p w g }; body = λ w g ds b e. body-of in_main file before h.0 h.1 w g (p w g) q ds b e })
          (whole-file in_main file (header_names h.1 ++ before) hs ps qs)

      pub file-keyed : (in_main : Bool) (file : ℕ) (before : List (List ℕ)) (ds : List (Decl S)) → ((k : ℕ) (d : Decl S) → slice_get ds k ≡ Some d → AllAlike (decl_marked d))
          → OneByOne (WholeKeyed G) (headed_file home in_main file is before (all_headers ds)) (headed_file home in_main file js before (all_headers ds))
      file-keyed in_main file before ds f = whole-file in_main file before (all_headers ds) (decls-all ds f) (decls-bodies ds f)

-- ---- what a name means at the top of a file

no_value : (o : Option Entity) → means_value o ≡ false → NoValue o
no_value None e = no_meaning
no_value (Some (package_name p)) e = of_package
no_value (Some (type_name t)) e = of_type
no_value (Some (builtin b)) e = of_builtin
no_value (Some refused) e = of_refused
no_value (Some (variable t)) e = absurd cc
no_value (Some (constant t c)) e = absurd cc
no_value (Some (stand_in p t c)) e = absurd cc
no_value (Some (function f)) e = absurd cc
no_value (Some nil_name) e = absurd cc
no_value (Some iota_name) e = absurd cc

imported_none : (b : Bool) (p : ℕ) → NoValue (Some (import_entity b p))
imported_none true p = of_package
imported_none false p = of_refused

module _ {S : Type 0} (held : List (List ℕ)) (n : List ℕ) (rest last : Environment Entity) (none : NoValue (means (rest ++ last) n)) where
  -- where nothing else declares a name, it is no value, whatever is imported
  quiet : (before : List (List ℕ)) (is : List (Import S)) → NoValue (means (file_block held before is ++ rest ++ last) n)
  quiet before [] = none
  quiet before (i ∷ is) = by (is_blank i.name) (quiet (i.name ∷ before) is)
    where
      entity : Entity
      entity = import_entity (import_sound held before i) i.of

      more : Environment Entity
      more = file_block held (i.name ∷ before) is

      named : (t : Bool) → NoValue (means (more ++ rest ++ last) n) → NoValue (if t then Some entity else means (more ++ rest ++ last) n)
      named true r = imported_none (import_sound held before i) i.of
      named false r = r

      by : (b : Bool) → NoValue (means (more ++ rest ++ last) n) → NoValue (means (((if b then [] else (i.name, entity) ∷ []) ++ more) ++ rest ++ last) n)
      by true r = r
      by false r = named (bytes_eq i.name n) r

module _ {S : Type 0} (home : ℕ) (held : List (List ℕ)) (G : World → Type 0) (lacks : (w : World) → G w → (n : List ℕ) → is_among n held ≡ false → means (block_of w.blocks home) n ≡ None) (f g : SourceFile S) (r : FileKeyed held f g) where
  nothing : (w : World) → G w → (n : List ℕ) → IsFree held n → NoValue (means (block_of w.blocks home ++ universe) n)
  nothing w k n free = subst NoValue (sym (means_join (block_of w.blocks home) universe n ∙ (λ z. or_else (lacks w k n free.0 z) (means universe n)))) (no_value (means universe n) free.1)

  -- each name that a declaration looks up means alike under the imports of both files
  pub names_alike : (k : ℕ) (d : Decl S) → slice_get f.decls k ≡ Some d → AllAlike home (file_block held [] f.imports) (file_block held [] g.imports) G (decl_marked d)
  names_alike k d e (used_name n) j w at = name-means (block_of w.blocks home) universe held n f.imports g.imports (r.used k d e n j)
  names_alike k d e (key_name n) j w at = by (r.keys k d e n j)
    where
      by : (imported_as g.imports n ≡ imported_as f.imports n) ⊎ IsFree held n
          → SameOrNone (means (file_block held [] f.imports ++ block_of w.blocks home ++ universe) n) (means (file_block held [] g.imports ++ block_of w.blocks home ++ universe) n)
      by (inl q) = inl (name-means (block_of w.blocks home) universe held n f.imports g.imports q)
      by (inr q) =
          inr (
            quiet held n (block_of w.blocks home) universe (nothing w at n q) [] f.imports,
            quiet held n (block_of w.blocks home) universe (nothing w at n q) [] g.imports,
          )

  pub blanks_alike : (n : List ℕ) → is_blank n ≡ true → (w : World) → means (file_block held [] f.imports ++ block_of w.blocks home ++ universe) n ≡ means (file_block held [] g.imports ++ block_of w.blocks home ++ universe) n
  blanks_alike n e w = blank-means (block_of w.blocks home) universe held n f.imports g.imports e

-- Which import serves for a package in a file that has further imports behind its own, by new names.
use Rattle.std.proofs.Common.{◌≡◌, refl, sym, ◌∙◌, ℕ, suc, ◌+◌, Bool, true, false, not, ◌&&◌, ◌||◌, if◌then◌else◌, bytes_eq, nat_eq, List, [], ◌∷◌, ◌++◌, map, length, Option, Some, None, arith, length-append}
use Rattle.std.proofs.lemmas.Bool.{or_parts}
use Rattle.std.proofs.lemmas.List.{append_assoc}
use Rattle.std.proofs.lemmas.Bool.Decides.{nat_tests}
use Rattle.go_tree.specs.GoWords.Tokens.Pieces.{is_among}
use Rattle.go_tree.specs.declared.scope_names.names.Entity.{Entity}
use Rattle.go_tree.specs.declared.scope_names.names.Entity.TheVariants.{Local, Import, Package, Universe}
use Rattle.go_tree.specs.declared.scope_names.names.ImportName.{ImportName}
use Rattle.go_tree.specs.ScopeNames.Means.{Environment, means, is_blank, numbered, predeclared, or_else}
use Rattle.go_tree.specs.ScopeNames.Occurrences.{means_import}
use Rattle.run_rules.specs.declared.import_rules.new_import.NewImport.{NewImport}
use Rattle.run_rules.specs.ImportRules.Needs.{serves, serving_from, serving}
use Rattle.run_rules.specs.Naming.{no_span}
use Rattle.run_rules.proofs.ImportRules.NeededMeans.{eq_turn, own_eq, any_append}

-- ---- environments in which no name means an import

abbrev NoImport : ℕ → Environment Entity → Type 0
NoImport k [] = Unit {0}
NoImport k (e ∷ es) = (means_import k (Some e.1) ≡ false) × NoImport k es

none-meant : (k : ℕ) (es : Environment Entity) (m : List ℕ) → NoImport k es → means_import k (means es m) ≡ false
none-meant k [] m h = refl
none-meant k (e ∷ es) m h = by (bytes_eq e.0 m) h.0 (none-meant k es m h.1)
  where
    by : (b : Bool) → means_import k (Some e.1) ≡ false → means_import k (means es m) ≡ false → means_import k (if b then Some e.1 else means es m) ≡ false
    by true g r = g
    by false g r = r

none-of-both : (k : ℕ) (xs ys : Environment Entity) → NoImport k xs → NoImport k ys → NoImport k (xs ++ ys)
none-of-both k [] ys h g = g
none-of-both k (x ∷ xs) ys h g = (h.0, none-of-both k xs ys h.1 g)

none-numbered : (k : ℕ) (f : ℕ → Entity) → ((i : ℕ) → means_import k (Some (f i)) ≡ false) → (i : ℕ) (xs : List (List ℕ)) → NoImport k (numbered f i xs)
none-numbered k f q i [] = tt
none-numbered k f q i (x ∷ xs) = by (is_blank x) (none-numbered k f q (suc i) xs)
  where
    by : (b : Bool) → NoImport k (numbered f (suc i) xs) → NoImport k ((if b then [] else (x, f i) ∷ []) ++ numbered f (suc i) xs)
    by true r = r
    by false r = (q i, r)

-- the blocks around the imports of a file
abbrev pub around : List (List ℕ) → Environment Entity
around pk = numbered Package 0 pk ++ numbered Universe 0 predeclared

around-none : (k : ℕ) (pk : List (List ℕ)) → NoImport k (around pk)
around-none k pk = none-of-both k (numbered Package 0 pk) (numbered Universe 0 predeclared) (none-numbered k Package (λ i. refl) 0 pk) (none-numbered k Universe (λ i. refl) 0 predeclared)

-- ---- names of imports, with further ones behind them

module _ (R Behind : Environment Entity) where
  past : (k i : ℕ) (ys : List (List ℕ)) (m : List ℕ) → is_among ys m ≡ false → means_import k (means (numbered Import i ys ++ Behind) m) ≡ means_import k (means Behind m)
  past k i [] m a = refl
  past k i (y ∷ ys) m a =
      let r = or_parts (bytes_eq m y) (is_among ys m) a in
      by (is_blank y) (eq_turn y m ∙ r.0) (past k (suc i) ys m r.1)
    where
      by : (b : Bool) → bytes_eq y m ≡ false → means_import k (means (numbered Import (suc i) ys ++ Behind) m) ≡ means_import k (means Behind m)
          → means_import k (means (((if b then [] else (y, Import i) ∷ []) ++ numbered Import (suc i) ys) ++ Behind) m) ≡ means_import k (means Behind m)
      by true g r = r
      by false g r = (λ v. means_import k (if g v then Some (Import i) else means (numbered Import (suc i) ys ++ Behind) m)) ∙ r

  behind-same : (k : ℕ) → NoImport k R → NoImport k Behind → (i : ℕ) (xs ys : List (List ℕ)) (m : List ℕ) → is_among ys m ≡ false
      → means_import k (means (numbered Import i (xs ++ ys) ++ Behind) m) ≡ means_import k (means (numbered Import i xs ++ R) m)
  behind-same k h g i [] ys m a = past k i ys m a ∙ none-meant k Behind m g ∙ sym (none-meant k R m h)
  behind-same k h g i (x ∷ xs) ys m a = by (is_blank x) (behind-same k h g (suc i) xs ys m a)
    where
      first : (b : Bool) → means_import k (means (numbered Import (suc i) (xs ++ ys) ++ Behind) m) ≡ means_import k (means (numbered Import (suc i) xs ++ R) m)
          → means_import k (if b then Some (Import i) else means (numbered Import (suc i) (xs ++ ys) ++ Behind) m) ≡ means_import k (if b then Some (Import i) else means (numbered Import (suc i) xs ++ R) m)
      first true r = refl
      first false r = r

      by : (b : Bool) → means_import k (means (numbered Import (suc i) (xs ++ ys) ++ Behind) m) ≡ means_import k (means (numbered Import (suc i) xs ++ R) m)
          → means_import k (means (((if b then [] else (x, Import i) ∷ []) ++ numbered Import (suc i) (xs ++ ys)) ++ Behind) m)
          ≡ means_import k (means (((if b then [] else (x, Import i) ∷ []) ++ numbered Import (suc i) xs) ++ R) m)
      by true r = r
      by false r = first (bytes_eq x m) r

  -- a new name means the import that has it
  at-place : (i : ℕ) (xs ys : List (List ℕ)) (y : List ℕ) → is_among xs y ≡ false → is_blank y ≡ false → (j : ℕ) → j ≡ i + length xs → means (numbered Import i (xs ++ y ∷ ys) ++ Behind) y ≡ Some (Import j)
  at-place i [] ys y a b j e =
      (λ v. means (((if b v then [] else (y, Import i) ∷ []) ++ numbered Import (suc i) ys) ++ Behind) y)
      ∙ (λ v. if own_eq y v then Some (Import i) else means (numbered Import (suc i) ys ++ Behind) y)
      ∙ (λ v. Some (Import (first v)))
    where
      first : i ≡ j
      first = omega (arith, e)
  at-place i (x ∷ xs) ys y a b j e =
      let r = or_parts (bytes_eq y x) (is_among xs y) a in
      by (is_blank x) (eq_turn x y ∙ r.0) (at-place (suc i) xs ys y r.1 b j (omega (arith, e)))
    where
      by : (c : Bool) → bytes_eq x y ≡ false → means (numbered Import (suc i) (xs ++ y ∷ ys) ++ Behind) y ≡ Some (Import j)
          → means (((if c then [] else (x, Import i) ∷ []) ++ numbered Import (suc i) (xs ++ y ∷ ys)) ++ Behind) y ≡ Some (Import j)
      by true g r = r
      by false g r = (λ v. if g v then Some (Import i) else means (numbered Import (suc i) (xs ++ y ∷ ys) ++ Behind) y) ∙ r

-- ---- names that are declared around

behind-locals : (ls xs ys : Environment Entity) (k : ℕ) (m : List ℕ) → means_import k (means ys m) ≡ means_import k (means xs m) → means_import k (means (ls ++ ys) m) ≡ means_import k (means (ls ++ xs) m)
behind-locals [] xs ys k m h = h
behind-locals (l ∷ ls) xs ys k m h = by (bytes_eq l.0 m) (behind-locals ls xs ys k m h)
  where
    by : (b : Bool) → means_import k (means (ls ++ ys) m) ≡ means_import k (means (ls ++ xs) m) → means_import k (if b then Some l.1 else means (ls ++ ys) m) ≡ means_import k (if b then Some l.1 else means (ls ++ xs) m)
    by true r = refl
    by false r = r

abbrev pub locals : List (List ℕ) → Environment Entity
locals ls = map (λ n. (n, Local no_span)) ls

past-locals : (ls : List (List ℕ)) (xs : Environment Entity) (m : List ℕ) → is_among ls m ≡ false → means (locals ls ++ xs) m ≡ means xs m
past-locals [] xs m a = refl
past-locals (l ∷ ls) xs m a =
    let r = or_parts (bytes_eq m l) (is_among ls m) a in
    (λ v. if (eq_turn l m ∙ r.0) v then Some (Local no_span) else means (locals ls ++ xs) m) ∙ past-locals ls xs m r.1

-- ---- what serves

-- the name of the first of these imports that is of the path
abbrev pub first_of : List ℕ → List NewImport → Option (List ℕ)
first_of path [] = None
first_of path (i ∷ is) = if bytes_eq i.path path then Some i.name else first_of path is

abbrev pub as_name : NewImport → ImportName
as_name i = record { name = i.name; path = i.path; spec = no_span }

abbrev pub names_old : List ImportName → List (List ℕ)
names_old is = map (λ i. i.name) is

abbrev pub names_new : List NewImport → List (List ℕ)
names_new is = map (λ i. i.name) is

sizes : (is : List ImportName) → length (names_old is) ≡ length is
sizes [] = refl
sizes (i ∷ is) = λ v. suc (sizes is v)

itself : (k : ℕ) → nat_eq k k ≡ true
itself k = grind (arith, nat_tests)

and-true : (b : Bool) → (b && true) ≡ b
and-true true = refl
and-true false = refl

-- what names mean among names that are declared around, in a file with these imports
abbrev pub with_imports : List (List ℕ) → List ImportName → List (List ℕ) → Environment Entity
with_imports ls is pk = locals ls ++ (numbered Import 0 (names_old is) ++ around pk)

-- names around, imports of the file and further ones
module _ (ls : List (List ℕ)) (old : List ImportName) (pk pk2 : List (List ℕ)) (new : List NewImport) where
  abbrev pub before : Environment Entity
  before = with_imports ls old pk

  abbrev pub after : Environment Entity
  after = with_imports ls (old ++ map as_name new) pk2

  these : (is : List NewImport) → names_old (map as_name is) ≡ names_new is
  these [] = refl
  these (i ∷ is) = λ v. i.name ∷ these is v

  both-names : (is : List ImportName) → names_old (is ++ map as_name new) ≡ names_old is ++ names_new new
  both-names [] = these new
  both-names (i ∷ is) = λ v. i.name ∷ both-names is v

  stays : (k : ℕ) (m : List ℕ) → is_among (names_new new) m ≡ false → means_import k (means after m) ≡ means_import k (means before m)
  stays k m a =
      (λ v. means_import k (means (locals ls ++ (numbered Import 0 (both-names old v) ++ around pk2)) m))
      ∙ behind-locals (locals ls) (numbered Import 0 (names_old old) ++ around pk) (numbered Import 0 (names_old old ++ names_new new) ++ around pk2) k m
      (behind-same (around pk) (around pk2) k (around-none k pk) (around-none k pk2) 0 (names_old old) (names_new new) m a)

  -- the imports of the file have names that are neither new nor among these
  abbrev pub AllApart : List (List ℕ) → List ImportName → Type 0
  AllApart more [] = Unit {0}
  AllApart more (i ∷ is) = ((is_among more i.name ≡ false) × (is_among (names_new new) i.name ≡ false)) × AllApart more is

  bound-so : (more bound : List (List ℕ)) (m : List ℕ) → is_among more m ≡ false → is_among bound m ≡ is_among (more ++ bound) m
  bound-so more bound m a = sym (any_append (bytes_eq m) more bound ∙ (λ v. a v || is_among bound m))

  old-serve : (more bound : List (List ℕ)) (path : List ℕ) (k : ℕ) (is : List ImportName) → AllApart more is → serving_from after bound path k is ≡ serving_from before (more ++ bound) path k is
  old-serve more bound path k [] h = refl
  old-serve more bound path k (i ∷ is) h =
      λ v.
      if bytes_eq i.path path && (stays k i.name h.0.1 v && not (bound-so more bound i.name h.0.0 v)) then Some i.name else old-serve more bound path (suc k) is h.1 v

  -- each further import serves for its path
  abbrev NewServe : List (List ℕ) → ℕ → List NewImport → Type 0
  NewServe bound k [] = Unit {0}
  NewServe bound k (i ∷ is) = ((means_import k (means after i.name) ≡ true) × (is_among bound i.name ≡ false)) × NewServe bound (suc k) is

  new-serve : (bound : List (List ℕ)) (path : List ℕ) (k : ℕ) (is : List NewImport) → NewServe bound k is → serving_from after bound path k (map as_name is) ≡ first_of path is
  new-serve bound path k [] h = refl
  new-serve bound path k (i ∷ is) h =
      (λ v. if bytes_eq i.path path && (h.0.0 v && not (h.0.1 v)) then Some i.name else new-serve bound path (suc k) is h.1 v)
      ∙ (λ v. if and-true (bytes_eq i.path path) v then Some i.name else first_of path is)

  serve-both : (bound : List (List ℕ)) (path : List ℕ) (k : ℕ) (is js : List ImportName) (j : ℕ) → j ≡ k + length is
      → serving_from after bound path k (is ++ js) ≡ or_else (serving_from after bound path k is) (serving_from after bound path j js)
  serve-both bound path k [] js j e = λ v. serving_from after bound path (turn v) js
    where
      turn : k ≡ j
      turn = omega (arith, e)
  serve-both bound path k (i ∷ is) js j e = by (serves after bound path k i) (serve-both bound path (suc k) is js j (omega (arith, e)))
    where
      by : (b : Bool) → serving_from after bound path (suc k) (is ++ js) ≡ or_else (serving_from after bound path (suc k) is) (serving_from after bound path j js)
          → (if b then Some i.name else serving_from after bound path (suc k) (is ++ js)) ≡ or_else (if b then Some i.name else serving_from after bound path (suc k) is) (serving_from after bound path j js)
      by true r = refl
      by false r = r

  -- a name that no declaration around, no import of the file, none of the first further ones and no bound name has
  pub record IsNewName (bound done : List (List ℕ)) (m : List ℕ) : Type 0 where
    pub outside : is_among ls m ≡ false
    pub apart : is_among (names_old old) m ≡ false
    pub first : is_among done m ≡ false
    pub named : is_blank m ≡ false
    pub unbound : is_among bound m ≡ false

  -- so has each of these, behind those
  abbrev pub AllNew : List (List ℕ) → List (List ℕ) → List NewImport → Type 0
  AllNew bound done [] = Unit {0}
  AllNew bound done (i ∷ is) = IsNewName bound done i.name × AllNew bound (done ++ i.name ∷ []) is

  all-serve : (bound done : List (List ℕ)) (is : List NewImport) → names_new new ≡ done ++ names_new is → (k : ℕ) → k ≡ length old + length done → AllNew bound done is → NewServe bound k is
  all-serve bound done [] e k n h = tt
  all-serve bound done (i ∷ is) e k n h =
      ((its, (h.0).unbound), all-serve bound (done ++ i.name ∷ []) is (e ∙ sym (append_assoc done (i.name ∷ []) (names_new is))) (suc k) next h.1)
    where
      next : suc k ≡ length old + length (done ++ i.name ∷ [])
      next = let a : length (done ++ i.name ∷ []) ≡ length done + 1 = length-append done (i.name ∷ []) in omega (arith, n, a)

      number : k ≡ 0 + length (names_old old ++ done)
      number =
          let a : length (names_old old ++ done) ≡ length (names_old old) + length done = length-append (names_old old) done in
          let c : length (names_old old) ≡ length old = sizes old in omega (arith, n, a, c)

      none : is_among (names_old old ++ done) i.name ≡ false
      none = any_append (bytes_eq i.name) (names_old old) done ∙ (λ v. (h.0).apart v || (h.0).first v)

      all-names : names_old (old ++ map as_name new) ≡ (names_old old ++ done) ++ i.name ∷ names_new is
      all-names = both-names old ∙ (λ v. names_old old ++ e v) ∙ sym (append_assoc (names_old old) done (i.name ∷ names_new is))

      its : means_import k (means after i.name) ≡ true
      its =
          (λ v. means_import k (means (locals ls ++ (numbered Import 0 (all-names v) ++ around pk2)) i.name))
          ∙ (λ v. means_import k (past-locals ls (numbered Import 0 ((names_old old ++ done) ++ i.name ∷ names_new is) ++ around pk2) i.name (h.0).outside v))
          ∙ (λ v. means_import k (at-place (around pk) (around pk2) 0 (names_old old ++ done) (names_new is) i.name none (h.0).named k number v))
          ∙ itself k

  -- with the further imports, the one that served serves, or the first of them with the path
  pub served-there : (more bound : List (List ℕ)) (path : List ℕ) → AllApart more old → AllNew bound [] new
      → serving after bound path (old ++ map as_name new) ≡ or_else (serving before (more ++ bound) path old) (first_of path new)
  served-there more bound path h g =
      serve-both bound path 0 old (map as_name new) (length old) (start (length old))
      ∙ (λ v. or_else (old-serve more bound path 0 old h v) (new-serve bound path (length old) new (all-serve bound [] new refl (length old) (behind (length old)) g) v))
    where
      start : (a : ℕ) → a ≡ 0 + a
      start a = omega arith

      behind : (a : ℕ) → a ≡ a + 0
      behind a = omega arith

-- The import specs of a file without spans, and without those that go.
use Rattle.std.proofs.Common.{◌≡◌, refl, sym, ◌∙◌, ap, ℕ, Bool, true, false, not, ◌&&◌, List, [], ◌∷◌, ◌++◌, map, Some, None, Option, if◌then◌else◌}
use Rattle.std.specs.Prelude.{filter}
use Rattle.std.specs.List.{list_all}
use Rattle.go_tree.specs.declared.spans.Span.{Span}
use Rattle.go_tree.specs.declared.tokens.Token.{Token}
use Rattle.go_tree.specs.declared.tokens.Comment.{Comment}
use Rattle.go_tree.specs.Tree.{NameAt}
use Rattle.go_tree.specs.File.{ImportSpec, ImportDecl}
use Rattle.go_tree.specs.FileBare.{bare_import_spec, bare_import_decl}
use Rattle.pkg_graph.specs.Package.{specs_in}
use Rattle.run_rules.specs.ImportRules.Removed.{goes, goes_whole, has_specs, holds_comment}
use Rattle.splice_laws.specs.ImportSplices.SettledFile.{left_specs, left_single, left_decl, left_decls}
use Rattle.run_rules.specs.Respanned.{import_spec_with, import_decl_with}
use Rattle.order_runs.specs.CycleRuns.StepCycles.PackagesAlike.{import_key}

map-append : {A B : Type 0} (f : A → B) (xs ys : List A) → map f (xs ++ ys) ≡ map f xs ++ map f ys
map-append f [] ys = refl
map-append f (x ∷ xs) ys = ap (λ l. f x ∷ l) (map-append f xs ys)

filter-append : {A : Type 0} (f : A → Bool) (xs ys : List A) → filter f (xs ++ ys) ≡ filter f xs ++ filter f ys
filter-append f [] ys = refl
filter-append f (x ∷ xs) ys = by (f x) (filter-append f xs ys)
  where
    by : (b : Bool) → filter f (xs ++ ys) ≡ filter f xs ++ filter f ys → (if b then x ∷ filter f (xs ++ ys) else filter f (xs ++ ys)) ≡ (if b then x ∷ filter f xs else filter f xs) ++ filter f ys
    by true e = ap (λ l. x ∷ l) e
    by false e = e

nothing-filtered : {A : Type 0} (xs : List A) → filter (λ x. true) xs ≡ xs
nothing-filtered [] = refl
nothing-filtered (x ∷ xs) = ap (λ l. x ∷ l) (nothing-filtered xs)

pub nothing-behind : {A : Type 0} (xs : List A) → xs ++ [] ≡ xs
nothing-behind [] = refl
nothing-behind (x ∷ xs) = ap (λ l. x ∷ l) (nothing-behind xs)

front : (a b : Bool) → (a && b) ≡ true → a ≡ true
front true b e = refl
front false b e = cc

back : (a b : Bool) → (a && b) ≡ true → b ≡ true
back true b e = e
back false b e = cc

-- ---- without spans

module _ {S : Type 0} where
  bare-key : (s : ImportSpec S) → import_key (bare_import_spec s) ≡ import_key s
  bare-key s = by s.name
    where
      by : (n : Option (NameAt S)) → import_key (bare_import_spec (record { span = s.span; name = n; path = s.path })) ≡ import_key (record { span = s.span; name = n; path = s.path })
      by None = refl
      by (Some n) = refl

  pub bare-keys : (ss : List (ImportSpec S)) → map import_key (map bare_import_spec ss) ≡ map import_key ss
  bare-keys [] = refl
  bare-keys (s ∷ ss) = λ v. bare-key s v ∷ bare-keys ss v

  bare-specs : (ds : List (ImportDecl S)) → specs_in (map bare_import_decl ds) ≡ map bare_import_spec (specs_in ds)
  bare-specs [] = refl
  bare-specs (d ∷ ds) = ap (λ l. map bare_import_spec d.specs ++ l) (bare-specs ds) ∙ sym (map-append bare_import_spec d.specs (specs_in ds))

  -- the names and paths of specs without spans
  pub keys-bare : (ds : List (ImportDecl S)) → map import_key (specs_in (map bare_import_decl ds)) ≡ map import_key (specs_in ds)
  keys-bare ds = ap (λ ss. map import_key ss) (bare-specs ds) ∙ bare-keys (specs_in ds)

module _ {S T : Type 0} (to : S → T) where
  with-key : (s : ImportSpec S) → import_key (import_spec_with to s) ≡ import_key s
  with-key s = by s.name
    where
      by : (n : Option (NameAt S)) → import_key (import_spec_with to (record { span = s.span; name = n; path = s.path })) ≡ import_key (record { span = s.span; name = n; path = s.path })
      by None = refl
      by (Some n) = refl

  with-keys : (ss : List (ImportSpec S)) → map import_key (map (import_spec_with to) ss) ≡ map import_key ss
  with-keys [] = refl
  with-keys (s ∷ ss) = λ v. with-key s v ∷ with-keys ss v

  pub with-specs : (ds : List (ImportDecl S)) → specs_in (map (import_decl_with to) ds) ≡ map (import_spec_with to) (specs_in ds)
  with-specs [] = refl
  with-specs (d ∷ ds) = ap (λ l. map (import_spec_with to) d.specs ++ l) (with-specs ds) ∙ sym (map-append (import_spec_with to) d.specs (specs_in ds))

  -- those of specs with other spans
  pub keys-with : (ds : List (ImportDecl S)) → map import_key (specs_in (map (import_decl_with to) ds)) ≡ map import_key (specs_in ds)
  keys-with ds = ap (λ ss. map import_key ss) (with-specs ds) ∙ with-keys (specs_in ds)

-- ---- without those that go

module _ (text : List ℕ) (tokens : List Token) (comments : List Comment) (unused : List Span) where
  abbrev stays : ImportSpec Span → Bool
  stays s = not (goes text tokens comments unused s)

  left-specs : (ss : List (ImportSpec Span)) → left_specs text tokens comments unused ss ≡ map bare_import_spec (filter stays ss)
  left-specs [] = refl
  left-specs (s ∷ ss) = by (goes text tokens comments unused s) (left-specs ss)
    where
      by : (b : Bool) → left_specs text tokens comments unused ss ≡ map bare_import_spec (filter stays ss)
          → (if b then left_specs text tokens comments unused ss else bare_import_spec s ∷ left_specs text tokens comments unused ss) ≡ map bare_import_spec (if not b then s ∷ filter stays ss else filter stays ss)
      by true e = e
      by false e = ap (λ l. bare_import_spec s ∷ l) e

  all-go : (ss : List (ImportSpec Span)) → list_all (goes text tokens comments unused) ss ≡ true → filter stays ss ≡ []
  all-go [] e = refl
  all-go (s ∷ ss) e =
      by (goes text tokens comments unused s) (front (goes text tokens comments unused s) (list_all (goes text tokens comments unused) ss) e) (all-go ss (back (goes text tokens comments unused s) (list_all (goes text tokens comments unused) ss) e))
    where
      by : (b : Bool) → b ≡ true → filter stays ss ≡ [] → (if not b then s ∷ filter stays ss else filter stays ss) ≡ []
      by true g r = r
      by false g r = cc

  single : (ss : List (ImportSpec (Unit {0}))) → specs_in (left_single text tokens comments unused ss) ≡ ss
  single [] = refl
  single (s ∷ ss) = nothing-behind (s ∷ ss)

  one-decl : (d : ImportDecl Span) → specs_in (left_decl text tokens comments unused d) ≡ map bare_import_spec (filter stays d.specs)
  one-decl d = by (goes_whole text tokens comments unused false d) refl d.grouped
    where
      stay : (g : Bool) → specs_in (if g then record { span = tt; grouped = true; specs = left_specs text tokens comments unused d.specs } ∷ [] else left_single text tokens comments unused (left_specs text tokens comments unused d.specs)) ≡ map bare_import_spec (filter stays d.specs)
      stay true = nothing-behind (left_specs text tokens comments unused d.specs) ∙ left-specs d.specs
      stay false = single (left_specs text tokens comments unused d.specs) ∙ left-specs d.specs

      all : goes_whole text tokens comments unused false d ≡ true → list_all (goes text tokens comments unused) d.specs ≡ true
      all e =
          front (list_all (goes text tokens comments unused) d.specs) (not (holds_comment text tokens comments unused d))
          (back (has_specs text tokens comments unused d.specs) (list_all (goes text tokens comments unused) d.specs && not (holds_comment text tokens comments unused d))
          (back d.grouped (has_specs text tokens comments unused d.specs && (list_all (goes text tokens comments unused) d.specs && not (holds_comment text tokens comments unused d))) e))

      by : (b : Bool) → goes_whole text tokens comments unused false d ≡ b → (g : Bool)
          → specs_in (if b then [] else (if g then record { span = tt; grouped = true; specs = left_specs text tokens comments unused d.specs } ∷ [] else left_single text tokens comments unused (left_specs text tokens comments unused d.specs))) ≡ map bare_import_spec (filter stays d.specs)
      by true e g = ap (λ ss. map bare_import_spec ss) (sym (all-go d.specs (all e)))
      by false e g = stay g

  in-turn : (xs ys : List (ImportDecl (Unit {0}))) → specs_in (xs ++ ys) ≡ specs_in xs ++ specs_in ys
  in-turn [] ys = refl
  in-turn (x ∷ xs) ys = ap (λ l. x.specs ++ l) (in-turn xs ys) ∙ sym (joined x.specs (specs_in xs) (specs_in ys))
    where
      joined : (us vs ws : List (ImportSpec (Unit {0}))) → (us ++ vs) ++ ws ≡ us ++ (vs ++ ws)
      joined [] vs ws = refl
      joined (u ∷ us) vs ws = ap (λ l. u ∷ l) (joined us vs ws)

  -- the specs that are left
  pub specs-left : (ds : List (ImportDecl Span)) → specs_in (left_decls text tokens comments unused ds) ≡ map bare_import_spec (filter stays (specs_in ds))
  specs-left [] = refl
  specs-left (d ∷ ds) =
      in-turn (left_decl text tokens comments unused d) (left_decls text tokens comments unused ds)
      ∙ (λ v. one-decl d v ++ specs-left ds v)
      ∙ sym (map-append bare_import_spec (filter stays d.specs) (filter stays (specs_in ds)))
      ∙ (λ v. map bare_import_spec (sym (filter-append stays d.specs (specs_in ds)) v))

pub all-stay : (text : List ℕ) (tokens : List Token) (comments : List Comment) (ss : List (ImportSpec Span)) → filter (λ s. not (goes text tokens comments [] s)) ss ≡ ss
all-stay text tokens comments ss = nothing-filtered ss

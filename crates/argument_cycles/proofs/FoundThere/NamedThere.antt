-- With the imports of a step's form added, each package that the form names has at the use the name that it has in the form.
use Rattle.std.proofs.Common.{◌≡◌, refl, sym, subst, ◌∙◌, ℕ, Bool, true, false, not, ◌&&◌, ◌||◌, if◌then◌else◌, bytes_eq, nat_eq, is_some, List, [], ◌∷◌, ◌++◌, map, Option, Some, None, codes, arith}
use Rattle.std.specs.Prelude.{slice_get}
use Rattle.std.proofs.lemmas.Bool.{or_parts}
use Rattle.std.proofs.lemmas.Bool.Decides.{nat_tests}
use Rattle.std.proofs.lemmas.List.{map-append, append_assoc}
use Rattle.std.proofs.lemmas.Option.{same_Some}
use Rattle.std.proofs.lemmas.Slice.Eq.{bytes_eq-Decides}
use Rattle.go_tree.specs.Tree.{NameAt}
use Rattle.go_tree.specs.File.{ImportSpec}
use Rattle.go_tree.specs.GoTypes.Agreement.{In, head, tail}
use Rattle.go_tree.specs.GoWords.Tokens.Pieces.{is_among, keyword_spellings}
use Rattle.go_tree.specs.declared.scope_names.names.FileNames.{FileNames}
use Rattle.go_tree.specs.declared.scope_names.names.ImportName.{ImportName}
use Rattle.go_tree.specs.ScopeNames.Binders.{func_binders}
use Rattle.go_tree.specs.ScopeNames.Fresh.{is_new}
use Rattle.go_tree.specs.ScopeNames.FreeNames.{names_of}
use Rattle.go_tree.specs.ScopeNames.Identifiers.{identifiers}
use Rattle.go_tree.specs.ScopeNames.Means.{predeclared, or_else}
use Rattle.go_tree.specs.declared.spans.Span.{Span}
use Rattle.pkg_graph.specs.Members.{import_name}
use Rattle.pkg_graph.specs.Package.{Package, specs_in, import_specs}
use Rattle.constant_steps.specs.FormImports.ImportLaws.Steps.{binders_in, binders_of}
use Rattle.constant_steps.specs.FormImports.OwnNames.{AllOwn}
use Rattle.constant_steps.proofs.FormImports.ImportLaws.PlacesBound.{In as BoundIn}
use Rattle.constant_steps.proofs.FormImports.ImportLaws.StepNames.{FoundWell, found_well}
use Rattle.constant_steps.proofs.FormImports.OwnNames.{packages_in_use_are_named}
use Rattle.run_rules.specs.declared.import_rules.new_import.NewImport.{NewImport}
use Rattle.run_rules.specs.ImportRules.Needs.{serving, avoided}
use Rattle.run_rules.specs.ImportRules.SettledNames.{IsOwnName}
use Rattle.run_rules.specs.Naming.{no_span, Named, name_added, names_by, imports_added, fresh_name, package_path, own_name, names_here, environment_here, added_import, named_packages}
use Rattle.run_rules.specs.Run.{Standing, Logged, Next, is_commented, here_of}
use Rattle.run_rules.specs.Sites.{MarkRef, Where}
use Rattle.run_rules.specs.Steps.{At, same_here, spec_for, added_decls}
use Rattle.run_rules.specs.Surroundings.{Place}
use Rattle.run_rules.proofs.ImportRules.NeededMeans as needed
use Rattle.run_rules.proofs.ImportRules.NeededMeans.{eq_turn, any_append}
use Rattle.splice_laws.proofs.RunLaws.FoundSpans.{Placed}
use Rattle.order_runs.specs.CycleRuns.ImportCycles.ImportSteps.{packages_added, where_added}
use Rattle.order_runs.specs.CycleRuns.ImportCycles.OtherImports.{PackagesBeside}
use Rattle.order_runs.specs.CycleRuns.Linked.{Linked, SettlesFile}
use Rattle.order_runs.specs.CycleRuns.OrderCycles.NewNames.{NamesByPath, FreshBy, EachFresh}
use Rattle.order_runs.specs.CycleRuns.OrderedSteps.Ranks.{RankedBelow}
use Rattle.order_runs.proofs.CycleRuns.ImportCycles.ImportStep.{placed, added-same}
use Rattle.order_runs.proofs.CycleRuns.ImportCycles.LeadAlike.{same-beside}
use Rattle.order_runs.proofs.CycleRuns.OrderCycles.FreshNames.{step-fresh}
use Rattle.order_runs.proofs.CycleRuns.OrderedSteps.Ranked.{orders-ranked}
use Rattle.order_runs.proofs.CycleRuns.OrderedSteps.Steps.{leads-below}
use Rattle.order_runs.proofs.CycleRuns.Runs.{linked-names}
use Rattle.literal_cycles.specs.BodyForms.Uses.{CalledUse}
use Rattle.argument_cycles.specs.FoundThere.There.{NamesStay}
use Rattle.argument_cycles.proofs.FoundThere.Apart as apart
use Rattle.argument_cycles.proofs.FoundThere.Files as files
use Rattle.argument_cycles.proofs.FoundThere.Remade as remade
use Rattle.argument_cycles.proofs.FoundThere.Serving as serve
use Rattle.argument_cycles.proofs.FoundThere.Serving.{first_of, as_name, names_old, names_new, with_imports}

-- ---- the first import of a path

of-path : (path : List ℕ) (pre rest : List NewImport) (i : NewImport) → bytes_eq i.path path ≡ true → first_of path pre ≡ None → first_of path (pre ++ i ∷ rest) ≡ Some i.name
of-path path [] rest i e f = λ v. if e v then Some i.name else first_of path rest
of-path path (k ∷ pre) rest i e f = by (bytes_eq k.path path) f (of-path path pre rest i e)
  where
    by : (b : Bool) → (if b then Some k.name else first_of path pre) ≡ None → (first_of path pre ≡ None → first_of path (pre ++ i ∷ rest) ≡ Some i.name) → (if b then Some k.name else first_of path (pre ++ i ∷ rest)) ≡ Some i.name
    by true g r = cc
    by false g r = r g

some-path : (path : List ℕ) (pre rest : List NewImport) (i : NewImport) → bytes_eq i.path path ≡ true → (x : List ℕ) × (first_of path (pre ++ i ∷ rest) ≡ Some x)
some-path path [] rest i e = (i.name, λ v. if e v then Some i.name else first_of path rest)
some-path path (k ∷ pre) rest i e = by (bytes_eq k.path path) (some-path path pre rest i e)
  where
    by : (b : Bool) → (x : List ℕ) × (first_of path (pre ++ i ∷ rest) ≡ Some x) → (x : List ℕ) × ((if b then Some k.name else first_of path (pre ++ i ∷ rest)) ≡ Some x)
    by true r = (k.name, refl)
    by false r = r

none-of-path : (path : List ℕ) (pre : List NewImport) (i : NewImport) → bytes_eq i.path path ≡ false → first_of path pre ≡ None → first_of path (pre ++ i ∷ []) ≡ None
none-of-path path [] i e f = λ v. if e v then Some i.name else None
none-of-path path (k ∷ pre) i e f = by (bytes_eq k.path path) f (none-of-path path pre i e)
  where
    by : (b : Bool) → (if b then Some k.name else first_of path pre) ≡ None → (first_of path pre ≡ None → first_of path (pre ++ i ∷ []) ≡ None) → (if b then Some k.name else first_of path (pre ++ i ∷ [])) ≡ None
    by true g r = cc
    by false g r = r g

-- ---- numbers of packages

itself : (k : ℕ) → nat_eq k k ≡ true
itself k = grind (arith, nat_tests)

equal : (i j : ℕ) → nat_eq i j ≡ true → i ≡ j
equal i j h = grind (arith, nat_tests, h)

not-equal : (i j : ℕ) → nat_eq i j ≡ false → i ≡ j → ⊥
not-equal i j h e = let no : false ≡ true = sym h ∙ (λ v. nat_eq i (sym e v)) ∙ itself i in absurd cc

both-false : (a b : Bool) → a ≡ false → b ≡ false → (a || b) ≡ false
both-false a b g h = λ v. g v || h v

module _ (ps : List (Package At)) (linked : Linked ps) where
  -- the path is that of one of the packages
  abbrev pub IsPath : List ℕ → Type 0
  IsPath path = (k : ℕ) × (q : Package At) × (slice_get ps k ≡ Some q) × (q.path ≡ path)

  ranked-path : (rank : ℕ → ℕ) {path : List ℕ} {bound : ℕ} → RankedBelow ps rank path bound → IsPath path
  ranked-path rank r = (r.number, r.of, r.is, r.path_is)

  not-empty : IsPath [] → ⊥
  not-empty h = linked.paths h.0 h.1 h.2 h.3

  there : (q : ℕ) → IsPath (package_path ps q) → (p : Package At) × (slice_get ps q ≡ Some p)
  there q h = by (slice_get ps q) refl h
    where
      by : (o : Option (Package At)) → slice_get ps q ≡ o → IsPath (elim o [ None ↦ [] | Some p ↦ p.path ]) → (p : Package At) × (slice_get ps q ≡ Some p)
      by None e i = elim (not-empty i) [ ]
      by (Some p) e i = (p, e)

  its-own : AllOwn ps → (q : ℕ) → IsPath (package_path ps q) → IsOwnName (own_name ps q)
  its-own own q h =
      let t = there q h in
      (packages_in_use_are_named ps (record { of = q; name = []; added = None } ∷ []) own ((λ v. is_some (t.1 v)), tt)).0

  paths-apart : (q j : ℕ) → IsPath (package_path ps q) → nat_eq q j ≡ false → bytes_eq (package_path ps q) (package_path ps j) ≡ false
  paths-apart q j h g = by (bytes_eq (package_path ps q) (package_path ps j)) refl
    where
      same : package_path ps q ≡ package_path ps j → ⊥
      same e =
          let a = there q h in
          let c = there j (subst IsPath e h) in
          not-equal q j g (linked.own q j a.0 c.0 a.1 c.1 (sym (λ v. elim (a.1 v) as (λ z. List ℕ) [ None ↦ [] | Some p ↦ p.path ]) ∙ e ∙ (λ v. elim (c.1 v) as (λ z. List ℕ) [ None ↦ [] | Some p ↦ p.path ])))

      by : (b : Bool) → bytes_eq (package_path ps q) (package_path ps j) ≡ b → b ≡ false
      by false e = refl
      by true e = elim (same ((bytes_eq-Decides (package_path ps q) (package_path ps j)).0 e)) [ ]

-- ---- names that are new in a file

new-facts : (a b c d e : Bool) → (not a && (not b && (not c && (not d && not e)))) ≡ true → (a ≡ false) × (b ≡ false)
new-facts true b c d e h = absurd cc
new-facts false true c d e h = absurd cc
new-facts false false c d e h = (refl, refl)

module _ (w : Where At) (avoid : List (List ℕ)) (m : List ℕ) (new : is_new w.source.tree avoid m ≡ true) where
  its-facts : (is_among (identifiers w.source.tree) m ≡ false) × (is_among avoid m ≡ false)
  its-facts = new-facts (is_among (identifiers w.source.tree) m) (is_among avoid m) (is_among keyword_spellings m) (is_among predeclared m) (bytes_eq m (codes "init")) new

none-bound : (ids : List (List ℕ)) (bs : List (NameAt At)) (m : List ℕ) → BoundIn ids bs → is_among ids m ≡ false → is_among (names_of bs) m ≡ false
none-bound ids [] m h e = refl
none-bound ids (b ∷ bs) m h e = by (bytes_eq m b.name) refl (none-bound ids bs m h.1 e)
  where
    by : (c : Bool) → bytes_eq m b.name ≡ c → is_among (names_of bs) m ≡ false → (c || is_among (names_of bs) m) ≡ false
    by true g r =
        let same : m ≡ b.name = (bytes_eq-Decides m b.name).0 g in
        let no : false ≡ true = sym e ∙ (λ v. is_among ids (same v)) ∙ h.0 in absurd cc
    by false g r = r

-- ---- a step

module _ (marks : List MarkRef) (st : Standing) (l : Logged) (after : Standing) (n : Next marks st l after) (h : Linked st.packages) (s : SettlesFile n) (own : AllOwn st.packages) where
  abbrev ps : List (Package At)
  ps = st.packages

  abbrev w : Where At
  w = n.found.site.at

  abbrev p : Place At
  p = n.found.site.place

  abbrev mid : List (Package At)
  mid = packages_added ps n.found

  abbrev wa : Where At
  wa = where_added n.found

  abbrev bound : List (List ℕ)
  bound = binders_of ps n.found.site.mark

  abbrev names : FileNames
  names = names_here ps w

  abbrev old : List ImportName
  old = names.imports

  abbrev pk : List (List ℕ)
  pk = names.«package»

  abbrev pk2 : List (List ℕ)
  pk2 = (names_here mid wa).«package»

  abbrev ls : List (List ℕ)
  ls = names_of p.bound

  well : FoundWell ps marks (is_commented st) n.found
  well = found_well ps marks (is_commented st) n.found n.is_first

  abbrev asked : List ℕ
  asked = well.packages

  abbrev found : List Named
  found = named_packages ps w p bound asked

  abbrev new : List NewImport
  new = imports_added found

  beside : PackagesBeside ps mid
  beside = same-beside (added-same marks st l after n)

  by-paths : NamesByPath ps
  by-paths = linked-names ps h

  fresh-found : EachFresh ps w bound n.found.named
  fresh-found = step-fresh marks st l after n s.few

  fresh : EachFresh ps w bound found
  fresh = subst (EachFresh ps w bound) well.names fresh-found

  here : Placed here_of (λ (z : Span). Unit {0}) ps marks n.found.site
  here = placed marks st l after n

  abbrev Led : List Named → Type 0
  Led ns = (path : List ℕ) → In path (map (λ i. i.path) (imports_added ns)) → IsPath ps h path

  led : Led found
  led =
      let ranks = orders-ranked ps h.ordered in
      subst Led well.names (λ path i. ranked-path ps h ranks.0 (leads-below ps ranks.0 ranks.1 h.own (s.led path i) w.number w.of here.package_is refl))

  -- ---- the imports of the file there

  abbrev listed_as : List (Package At) → ImportSpec At → ImportName
  listed_as rs y = record { name = import_name rs y; path = y.path; spec = no_span }

  olds-same : (ss : List (ImportSpec At)) → map (listed_as mid) ss ≡ map (listed_as ps) ss
  olds-same [] = refl
  olds-same (y ∷ ss) = λ v. record { name = files.name-now marks st l after n y v; path = y.path; spec = no_span } ∷ olds-same ss v

  news-same : (b : List (List ℕ)) (ns : List Named) → EachFresh ps w b ns → map (listed_as mid) (map (spec_for n.found.range) (imports_added ns)) ≡ map as_name (imports_added ns)
  news-same b [] e = refl
  news-same b (m ∷ ns) e = by m.added e.0 (news-same (name_added m ++ b) ns e.1)
    where
      its-name : (k : NewImport) → FreshBy ps w b m (Some k) → import_name mid (spec_for n.found.range k) ≡ k.name
      its-name k f = (λ v. import_name mid (spec_for n.found.range (f.0 v))) ∙ apart.import-named ps w mid beside by-paths n.found.range m.of m.name ∙ sym (λ v. (f.0 v).name)

      by : (o : Option NewImport) → FreshBy ps w b m o → map (listed_as mid) (map (spec_for n.found.range) (imports_added ns)) ≡ map as_name (imports_added ns)
          → map (listed_as mid) (map (spec_for n.found.range) (elim o as (λ z. List NewImport) [ None ↦ imports_added ns | Some k ↦ k ∷ imports_added ns ]))
          ≡ map as_name (elim o as (λ z. List NewImport) [ None ↦ imports_added ns | Some k ↦ k ∷ imports_added ns ])
      by None f r = r
      by (Some k) f r = λ v. record { name = its-name k f v; path = k.path; spec = no_span } ∷ r v

  imports-there : (names_here mid wa).imports ≡ old ++ map as_name new
  imports-there =
      (λ v. map (listed_as mid) (files.specs-added marks st l after n v))
      ∙ map-append (listed_as mid) (import_specs w.source.tree) (specs_in (added_decls n.found.range (imports_added n.found.named)))
      ∙ (λ v. olds-same (import_specs w.source.tree) v ++ map (listed_as mid) (apart.specs-added n.found.range (imports_added n.found.named) v))
      ∙ (λ v. old ++ news-same bound n.found.named fresh-found v)
      ∙ (λ v. old ++ map as_name (imports_added (well.names v)))

  -- ---- names, one after another

  abbrev fresh_for : List (List ℕ) → ℕ → List ℕ
  fresh_for b q = fresh_name w.source.tree (avoided names b) (own_name ps q)

  abbrev by_option : List (List ℕ) → ℕ → Option (List ℕ) → Named
  by_option b q o =
      elim o [
        | Some m ↦ record { of = q; name = m; added = None }
        | None ↦ record { of = q; name = fresh_for b q; added = Some (added_import ps q (fresh_for b q)) }
      ]

  abbrev listed : List (List ℕ) → ℕ → List ℕ → Option (List ℕ) → List Named
  listed b q qs o = by_option b q o ∷ named_packages ps w p (name_added (by_option b q o) ++ b) qs

  abbrev first_there : ℕ → Option (List ℕ) → Named
  first_there q o =
      elim o [
        | Some m ↦ record { of = q; name = m; added = None }
        | None ↦ let m : List ℕ = fresh_name wa.source.tree (avoided (names_here mid wa) bound) (own_name mid q) in record { of = q; name = m; added = Some (added_import mid q m) }
      ]

  abbrev listed_there : ℕ → List ℕ → Option (List ℕ) → List Named
  listed_there q qs o = first_there q o ∷ named_packages mid wa p (name_added (first_there q o) ++ bound) qs

  abbrev served : List (List ℕ) → ℕ → Option (List ℕ)
  served b q = serving (environment_here ps w p) b (package_path ps q) old

  abbrev IsNewName : List (List ℕ) → List ℕ → Type 0
  IsNewName done m = serve.IsNewName ls old pk pk2 new bound done m

  -- what isn't among the names that are avoided isn't among others
  abbrev Within : List (List ℕ) → List (List ℕ) → Type 0
  Within done b = (m : List ℕ) → is_among b m ≡ false → is_among done m ≡ false

  still-within : (done b : List (List ℕ)) (m : List ℕ) → Within done b → Within (done ++ m ∷ []) (m ∷ b)
  still-within done b m k x e =
      let r = or_parts (bytes_eq x m) (is_among b x) e in
      any_append (bytes_eq x) done (m ∷ []) ∙ (λ v. k x r.1 v || (r.0 v || false))

  more-within : (b : List (List ℕ)) (m : List ℕ) → Within bound b → Within bound (m ∷ b)
  more-within b m k x e = k x (or_parts (bytes_eq x m) (is_among b x) e).1

  abbrev FreshFor : List (List ℕ) → ℕ → Type 0
  FreshFor b q = FreshBy ps w b (by_option b q None) (Some (added_import ps q (fresh_for b q)))

  -- what isn't avoided is neither the name of an import nor bound
  free-of : (b : List (List ℕ)) (m : List ℕ) → is_among (avoided names b) m ≡ false → (is_among (names_old old) m ≡ false) × (is_among b m ≡ false)
  free-of b m e =
      let two = or_parts (is_among (names_old old ++ pk) m) (is_among b m) (sym (any_append (bytes_eq m) (names_old old ++ pk) b) ∙ e) in
      ((or_parts (is_among (names_old old) m) (is_among pk m) (sym (any_append (bytes_eq m) (names_old old) pk) ∙ two.0)).0, two.1)

  apart-old : (b : List (List ℕ)) (q : ℕ) → FreshFor b q → is_among (names_old old) (fresh_for b q) ≡ false
  apart-old b q f = (free-of b (fresh_for b q) (its-facts w (avoided names b) (fresh_for b q) f.1.new).1).0

  -- a fresh name is new
  new-name : (b done : List (List ℕ)) (q : ℕ) → FreshFor b q → IsPath ps h (package_path ps q) → Within done b → Within bound b → IsNewName done (fresh_for b q)
  new-name b done q f i d k =
      let facts = its-facts w (avoided names b) (fresh_for b q) f.1.new in
      let free = free-of b (fresh_for b q) facts.1 in
      record {
        outside = none-bound (identifiers w.source.tree) p.bound (fresh_for b q) well.stands facts.0;
        apart = free.0;
        first = d (fresh_for b q) free.1;
        named = needed.fresh_name (own_name ps q) (is_new w.source.tree (avoided names b)) (fresh_for b q) (its-own ps h own q i) f.1;
        unbound = k (fresh_for b q) free.1;
      }

  all-new : (b done : List (List ℕ)) (qs : List ℕ) → EachFresh ps w b (named_packages ps w p b qs) → Led (named_packages ps w p b qs) → Within done b → Within bound b
      → serve.AllNew ls old pk pk2 new bound done (imports_added (named_packages ps w p b qs))
  all-new b done [] e i d k = tt
  all-new b done (q ∷ qs) e i d k = by (served b q) e i (λ c done2. all-new c done2 qs)
    where
      by : (o : Option (List ℕ)) → EachFresh ps w b (listed b q qs o) → Led (listed b q qs o)
          → ((c done2 : List (List ℕ)) → EachFresh ps w c (named_packages ps w p c qs) → Led (named_packages ps w p c qs) → Within done2 c → Within bound c → serve.AllNew ls old pk pk2 new bound done2 (imports_added (named_packages ps w p c qs)))
          → serve.AllNew ls old pk pk2 new bound done (imports_added (listed b q qs o))
      by (Some m) e i later = later b done e.1 i d k
      by None e i later = (
        new-name b done q e.0 (i (package_path ps q) head) d k,
        later (fresh_for b q ∷ b) (done ++ fresh_for b q ∷ []) e.1 (λ path t. i path (tail t)) (still-within done b (fresh_for b q) d) (more-within b (fresh_for b q) k),
      )

  each-new : serve.AllNew ls old pk pk2 new bound [] new
  each-new = all-new bound [] asked fresh led (λ m e. refl) (λ m e. e)

  -- ---- the imports of the file are others

  none-new : (done : List (List ℕ)) (is : List NewImport) → serve.AllNew ls old pk pk2 new bound done is → (m : List ℕ) → is_among (names_old old) m ≡ true → is_among (names_new is) m ≡ false
  none-new done [] a m e = refl
  none-new done (i ∷ is) a m e = by (bytes_eq m i.name) refl (none-new (done ++ i.name ∷ []) is a.1 m e)
    where
      by : (b : Bool) → bytes_eq m i.name ≡ b → is_among (names_new is) m ≡ false → (b || is_among (names_new is) m) ≡ false
      by true g r =
          let same : m ≡ i.name = (bytes_eq-Decides m i.name).0 g in
          let no : true ≡ false = sym e ∙ (λ v. is_among (names_old old) (same v)) ∙ (a.0).apart in absurd cc
      by false g r = r

  abbrev AllApart : List (List ℕ) → List ImportName → Type 0
  AllApart more is = serve.AllApart ls old pk pk2 new more is

  olds-apart : (is : List ImportName) → ((m : List ℕ) → is_among (names_old is) m ≡ true → is_among (names_old old) m ≡ true) → AllApart [] is
  olds-apart [] k = tt
  olds-apart (i ∷ is) k = ((refl, none-new [] new each-new i.name (k i.name (λ v. needed.own_eq i.name v || is_among (names_old is) i.name))), olds-apart is (λ m e. k m ((λ v. bytes_eq m i.name || e v) ∙ behind (bytes_eq m i.name))))
    where
      behind : (b : Bool) → (b || true) ≡ true
      behind true = refl
      behind false = refl

  more-apart : (more : List (List ℕ)) (m : List ℕ) (is : List ImportName) → is_among (names_old is) m ≡ false → AllApart more is → AllApart (m ∷ more) is
  more-apart more m [] e a = tt
  more-apart more m (i ∷ is) e a =
      let r = or_parts (bytes_eq m i.name) (is_among (names_old is) m) e in
      ((both-false (bytes_eq i.name m) (is_among more i.name) (eq_turn i.name m ∙ r.0) a.0.0, a.0.1), more-apart more m is r.1 a.1)

  -- ---- what serves there

  serves-there : (more : List (List ℕ)) (q : ℕ) → AllApart more old → serving (environment_here mid wa p) bound (package_path mid q) (names_here mid wa).imports ≡ or_else (served (more ++ bound) q) (first_of (package_path ps q) new)
  serves-there more q a =
      (λ v. serving (with_imports ls (imports-there v) pk2) bound (sym (files.path-now marks st l after n q) v) (imports-there v))
      ∙ serve.served-there ls old pk pk2 new more bound (package_path ps q) a each-new

  -- where an import is added for the first package
  first-added : (j q : ℕ) (qs : List ℕ) (b : List (List ℕ)) (x : List ℕ) → first_of (package_path ps q) new ≡ Some x → (nat_eq q j ≡ true → x ≡ fresh_for b q)
      → (nat_eq q j ≡ false → names_by (named_packages mid wa p bound qs) j ≡ names_by (named_packages ps w p (fresh_for b q ∷ b) qs) j)
      → names_by (listed_there q qs (first_of (package_path ps q) new)) j ≡ names_by (listed b q qs None) j
  first-added j q qs b x e same later = (λ v. names_by (listed_there q qs (e v)) j) ∙ by (nat_eq q j) same later
    where
      by : (c : Bool) → (c ≡ true → x ≡ fresh_for b q) → (c ≡ false → names_by (named_packages mid wa p bound qs) j ≡ names_by (named_packages ps w p (fresh_for b q ∷ b) qs) j)
          → (if c then x else names_by (named_packages mid wa p bound qs) j) ≡ (if c then fresh_for b q else names_by (named_packages ps w p (fresh_for b q ∷ b) qs) j)
      by true s k = s refl
      by false s k = k refl

  -- so it has its name there
  abbrev NamedSo : ℕ → List ℕ → Type 0
  NamedSo j qs =
      (pre : List NewImport) (more : List (List ℕ)) → EachFresh ps w (more ++ bound) (named_packages ps w p (more ++ bound) qs) → Led (named_packages ps w p (more ++ bound) qs)
      → new ≡ pre ++ imports_added (named_packages ps w p (more ++ bound) qs) → AllApart more old → first_of (package_path ps j) pre ≡ None
      → names_by (named_packages mid wa p bound qs) j ≡ names_by (named_packages ps w p (more ++ bound) qs) j

  one-added : (j q : ℕ) (qs : List ℕ) → NamedSo j qs → (pre : List NewImport) (more : List (List ℕ)) → EachFresh ps w (more ++ bound) (listed (more ++ bound) q qs None) → Led (listed (more ++ bound) q qs None)
      → new ≡ pre ++ imports_added (listed (more ++ bound) q qs None) → AllApart more old → first_of (package_path ps j) pre ≡ None
      → names_by (listed_there q qs (first_of (package_path ps q) new)) j ≡ names_by (listed (more ++ bound) q qs None) j
  one-added j q qs later pre more e i g a f =
      let b : List (List ℕ) = more ++ bound in
      let k : NewImport = added_import ps q (fresh_for b q) in
      let rest : List NewImport = imports_added (named_packages ps w p (fresh_for b q ∷ b) qs) in
      let some = some-path (package_path ps q) pre rest k (needed.own_eq (package_path ps q)) in
      first-added j q qs b some.0 ((λ v. first_of (package_path ps q) (g v)) ∙ some.1)
      (λ y. same_Some some.0 (fresh_for b q) (sym some.1 ∙ of-path (package_path ps q) pre rest k (needed.own_eq (package_path ps q)) (subst (λ (r : ℕ). first_of (package_path ps r) pre ≡ None) (sym (equal q j y)) f)))
      (λ y.
      later (pre ++ k ∷ []) (fresh_for b q ∷ more) e.1 (λ path t. i path (tail t)) (g ∙ sym (append_assoc pre (k ∷ []) rest)) (more-apart more (fresh_for b q) old (apart-old b q e.0) a)
      (none-of-path (package_path ps j) pre k (paths-apart ps h q j (i (package_path ps q) head) y) f))

  go : (j : ℕ) (qs : List ℕ) → NamedSo j qs
  go j [] pre more e i g a f = refl
  go j (q ∷ qs) pre more e i g a f = (λ v. names_by (listed_there q qs (serves-there more q a v)) j) ∙ by (served (more ++ bound) q) e i g (go j qs)
    where
      by : (o : Option (List ℕ)) → EachFresh ps w (more ++ bound) (listed (more ++ bound) q qs o) → Led (listed (more ++ bound) q qs o) → new ≡ pre ++ imports_added (listed (more ++ bound) q qs o) → NamedSo j qs
          → names_by (listed_there q qs (or_else o (first_of (package_path ps q) new))) j ≡ names_by (listed (more ++ bound) q qs o) j
      by (Some m) e i g later = λ v. if nat_eq q j then m else later pre more e.1 i g a f v
      by None e i g later = one-added j q qs later pre more e i g a f

  named-there : NamesStay n p bound
  named-there j =
      (λ v. names_by (named_packages mid wa p bound (map (λ (m : Named). m.of) (well.names v))) j)
      ∙ (λ v. names_by (named_packages mid wa p bound (remade.ofs ps w p bound asked v)) j)
      ∙ go j asked [] [] fresh led refl (olds-apart old (λ m e. e)) refl
      ∙ (λ v. names_by (sym well.names v) j)

  -- each package that the form names has the same name there
  pub names-stay : (u : CalledUse same_here (is_commented st) ps marks n.found.site) → NamesStay n p (func_binders u.callee)
  names-stay u = subst (NamesStay n p) (λ v. elim (u.declared v) as (λ z. List (List ℕ)) [ None ↦ [] | Some d ↦ binders_in d ]) named-there

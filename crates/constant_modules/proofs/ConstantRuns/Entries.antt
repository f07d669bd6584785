-- What a file has for each name that it declares, by where the name stands: no two stand at one place, so what is found at
-- the place of a mark is what is there for its name.
use Rattle.std.proofs.Common.{◌≡◌, ◌∙◌, ◌<◌, ◌+◌, refl, sym, ap, subst, ℕ, zero, suc, Bool, true, false, if◌then◌else◌, List, [], ◌∷◌, ◌++◌, map, Option, Some, None, arith}
use Rattle.std.specs.Prelude.{nat_eq, slice_get}
use Rattle.std.proofs.lemmas.List.{map-append}
use Rattle.std.proofs.lemmas.Option.{same_Some}
use Rattle.go_tree.specs.declared.spans.Span.{Span}
use Rattle.go_tree.specs.Tree.{NameAt}
use Rattle.go_tree.specs.File.{Decl}
use Rattle.pkg_graph.specs.Members.{decl_names}
use Rattle.run_rules.specs.ImportRules.Removed.{same_span}
use Rattle.run_rules.specs.Marks.{item_at, declaration_at}
use Rattle.run_rules.specs.Programs.{numbered, numbered_from}
use Rattle.run_rules.specs.Sites.{MarkRef}
use Rattle.constant_steps.proofs.NamesOutside.{equal_numbers}
use Rattle.order_runs.proofs.RunSteps.SeatedUses.{Among, first, later}
use Rattle.printed_constants.proofs.TypedParts.MarkedRuns.NamedMarks.Order.{name_place, all_names, Above, Climbs}
use Rattle.typed_in_place.proofs.Rising.{and_first, and_second}
use Rattle.constant_modules.proofs.LookUps.Walk.{among-front, among-back}

same_so : (a b : Span) → same_span a b ≡ true → a ≡ b
same_so a b h =
    let s : a.start ≡ b.start = equal_numbers a.start b.start (and_first (nat_eq a.start b.start) (nat_eq a.end b.end) h) in
    let e : a.end ≡ b.end = equal_numbers a.end b.end (and_second (nat_eq a.start b.start) (nat_eq a.end b.end) h) in
    λ v. record { start = s v; end = e v }

then_climbs : (k : ℕ) (xs : List ℕ) → Above k xs → Climbs xs
then_climbs k [] h = tt
then_climbs k (x ∷ xs) h = h.1

-- ---- by names

module _ {A : Type 0} where
  -- what f has for the number of each name, with the span of the name
  abbrev pub entries : (ℕ → A) → List (NameAt Span) → List (Span × A)
  entries f [] = []
  entries f (n ∷ ns) = (n.span, f zero) ∷ entries (λ i. f (suc i)) ns

  abbrev place_of : Span × A → ℕ
  place_of e = e.0.start

  places_of : (f : ℕ → A) (ns : List (NameAt Span)) → map place_of (entries f ns) ≡ map name_place ns
  places_of f [] = refl
  places_of f (n ∷ ns) = λ v. n.span.start ∷ places_of (λ i. f (suc i)) ns v

  behind : (e : Span × A) (k : ℕ) (es : List (Span × A)) → Above k (map place_of es) → Among e es → k < e.0.start
  behind e k _ h first = h.0
  behind e k (x ∷ es) h (later m) =
      let a : x.0.start < e.0.start = behind e x.0.start es h.1 m in let b : k < x.0.start = h.0 in omega (arith, a, b)

  -- what stands at one place is one
  one_entry : (es : List (Span × A)) (a b : Span × A) → Climbs (map place_of es) → Among a es → Among b es → a.0 ≡ b.0 → a ≡ b
  one_entry [] a b h m k e = elim m [ ]
  one_entry (x ∷ es) _ _ h first first e = refl
  one_entry (x ∷ es) _ b h first (later m) e = let c : x.0.start < b.0.start = behind b x.0.start es h m in let d : x.0.start ≡ b.0.start = (λ v. (e v).start) in absurd (omega (arith, c, d))
  one_entry (x ∷ es) a _ h (later m) first e = let c : x.0.start < a.0.start = behind a x.0.start es h m in let d : a.0.start ≡ x.0.start = (λ v. (e v).start) in absurd (omega (arith, c, d))
  one_entry (x ∷ es) a b h (later m) (later k) e = one_entry es a b (then_climbs x.0.start (map place_of es) h) m k e

  item_found : (s : Span) (f : ℕ → A) (to : ℕ → ℕ) (k i : ℕ) (ns : List (NameAt Span)) → ((j : ℕ) → to j ≡ k + j) → item_at s (numbered_from k ns) ≡ Some i → Among (s, f i) (entries (λ j. f (to j)) ns)
  item_found s f to k i [] h e = absurd cc
  item_found s f to k i (n ∷ ns) h e = by (same_span s n.span) refl e (λ g. later (item_found s f (λ j. to (suc j)) (suc k) i ns (λ j. next j (h (suc j))) g))
    where
      next : (j : ℕ) → to (suc j) ≡ k + suc j → to (suc j) ≡ suc k + j
      next j g = omega (arith, g)

      here : to zero ≡ k
      here = let g : to zero ≡ k + zero = h zero in omega (arith, g)

      by : (b : Bool) → same_span s n.span ≡ b → (if b then Some k else item_at s (numbered_from (suc k) ns)) ≡ Some i → (item_at s (numbered_from (suc k) ns) ≡ Some i → Among (s, f i) (entries (λ j. f (to j)) (n ∷ ns)))
          → Among (s, f i) (entries (λ j. f (to j)) (n ∷ ns))
      by true q g r = subst (λ (e : Span × A). Among e ((n.span, f (to zero)) ∷ entries (λ j. f (to (suc j))) ns)) (λ v. (sym (same_so s n.span q) v, f ((here ∙ same_Some k i g) v))) first
      by false q g r = r g

-- ---- by declarations

module _ {A : Type 0} (of : Decl Span → ℕ → A) where
  -- what there is for the names of declarations
  abbrev pub all_entries : List (Decl Span) → List (Span × A)
  all_entries [] = []
  all_entries (d ∷ ds) = entries (of d) (decl_names d) ++ all_entries ds

  all_places : (ds : List (Decl Span)) → map place_of (all_entries ds) ≡ map name_place (all_names ds)
  all_places [] = refl
  all_places (d ∷ ds) =
      map-append place_of (entries (of d) (decl_names d)) (all_entries ds)
      ∙ (λ v. places_of (of d) (decl_names d) v ++ all_places ds v)
      ∙ sym (map-append name_place (decl_names d) (all_names ds))

  -- a mark by numbers is found in its declaration
  record IsFoundAt (k f : ℕ) (s : Span) (ds : List (Decl Span)) (all : List (Decl Span)) (m : MarkRef) : Type 0 where
    of_package : m.«package» ≡ k
    of_file : m.file ≡ f
    decl : Decl Span
    nth : slice_get all m.decl ≡ Some decl
    entry : Among (s, of decl m.item) (all_entries ds)

  module _ (k f : ℕ) (s : Span) (all : List (Decl Span)) where
    decl_found : (to : ℕ) (ds : List (Decl Span)) (m : MarkRef) → ((i n : ℕ) (d : Decl Span) → slice_get ds i ≡ Some d → n ≡ to + i → slice_get all n ≡ Some d) → declaration_at k f s (numbered_from to ds) ≡ Some m → IsFoundAt k f s ds all m
    decl_found to [] m h e = absurd cc
    decl_found to (d ∷ ds) m h e = by (item_at s (numbered (decl_names d))) refl e (λ g. decl_found (suc to) ds m (λ i n x p q. h (suc i) n x p (omega (arith, q))) g)
      where
        by : (o : Option ℕ) → item_at s (numbered (decl_names d)) ≡ o
            → elim o [ Some i ↦ Some (record { «package» = k; file = f; decl = to; item = i }) | None ↦ declaration_at k f s (numbered_from (suc to) ds) ] ≡ Some m
            → (declaration_at k f s (numbered_from (suc to) ds) ≡ Some m → IsFoundAt k f s ds all m) → IsFoundAt k f s (d ∷ ds) all m
        by None q g r =
            let x : IsFoundAt k f s ds all m = r g in
            record { of_package = x.of_package; of_file = x.of_file; decl = x.decl; nth = x.nth; entry = among-back (entries (of d) (decl_names d)) x.entry }
        by (Some i) q g r =
            subst (λ (y : MarkRef). IsFoundAt k f s (d ∷ ds) all y) (same_Some (record { «package» = k; file = f; decl = to; item = i }) m g)
            (record {
              of_package = refl;
              of_file = refl;
              decl = d;
              nth = h zero to d refl (omega arith);
              entry = among-front (all_entries ds) (item_found s (of d) (λ j. j) zero i (decl_names d) (λ j. omega arith) q);
            })

  -- What is there for the name of a mark, where its numbers are told by where the name stands.
  pub record IsMarkOf (k f : ℕ) (ds : List (Decl Span)) (a : A) (m : MarkRef) : Type 0 where
    pub of_package : m.«package» ≡ k
    pub of_file : m.file ≡ f
    pub decl : Decl Span
    pub nth : slice_get ds m.decl ≡ Some decl
    pub is : of decl m.item ≡ a

  pub mark_of_entry : (k f : ℕ) (s : Span) (ds : List (Decl Span)) (a : A) (m : MarkRef) → Climbs (map name_place (all_names ds)) → Among (s, a) (all_entries ds) → declaration_at k f s (numbered ds) ≡ Some m → IsMarkOf k f ds a m
  mark_of_entry k f s ds a m climbs there e =
      let x : IsFoundAt k f s ds ds m = decl_found k f s ds zero ds m (λ i n d p q. subst (λ (j : ℕ). slice_get ds j ≡ Some d) (sym (omega (arith, q))) p) e in
      let same : (s, of x.decl m.item) ≡ (s, a) = one_entry (all_entries ds) (s, of x.decl m.item) (s, a) (subst Climbs (sym (all_places ds)) climbs) x.entry there refl in
      record { of_package = x.of_package; of_file = x.of_file; decl = x.decl; nth = x.nth; is = ap (λ (y : Span × A). y.1) same }

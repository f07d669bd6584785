-- The uses in types: where they stand, and their order.
use Rattle.std.proofs.Common.{◌≡◌, refl, sym, ap, subst, ◌∙◌, ℕ, inl, inr, List, [], ◌∷◌, ◌++◌, map, Option, Some, None, append_assoc}
use Rattle.go_tree.specs.declared.spans.Span.{Span}
use Rattle.go_tree.specs.Tree.{NameAt, TypeExpr, named, pointer, slice_type, map_type, struct_type, Fields, no_fields, field, Param}
use Rattle.pkg_graph.specs.Package.{Package}
use Rattle.run_rules.specs.Surroundings.{Use, other, Place}
use Rattle.run_rules.specs.Places.{params_seen}
use Rattle.run_rules.specs.Respanned.{type_with, fields_with, param_with}
use Rattle.run_rules.specs.Sites.{MarkRef, Where, Part, a_type_part, Site, part_span, named_in, named_in_fields, not_function, name_mark, qualified_mark, marked_as, type_mark, site_by, type_sites, sites_among}
use Rattle.order_runs.proofs.RunSteps.SpanPlaces.{One, Two}
use Rattle.run_order.proofs.EndPlaces.{Ends, TypeIn, FieldsIn, OneType, ParamsIn}
use Rattle.run_order.proofs.Rising.{Key, InOrder, none-there, one-there, order-wider, order-both, order-again}

-- what is used at a span, where anything is
abbrev pub key_if : Span → Option MarkRef → List Key
key_if s None = []
key_if s (Some m) = (s, m) ∷ []

pub key-in-order : {lo hi : ℕ} (s : Span) (o : Option MarkRef) → Ends lo hi s → InOrder lo hi (key_if s o)
key-in-order s None h = none-there
key-in-order s (Some m) h = one-there (s, m) h

-- where parts stand between places
pub order-one : {lo hi : ℕ} {Q : ℕ → ℕ → Type 0} (ks : List Key) → ((a b : ℕ) → Q a b → InOrder a b ks) → One lo hi Q
    → InOrder lo hi ks
order-one ks f q = order-wider ks q.above q.below (f q.from q.upto q.it)

pub order-two : {lo hi : ℕ} {Q R : ℕ → ℕ → Type 0} (xs ys : List Key) → ((a b : ℕ) → Q a b → InOrder a b xs)
    → ((a b : ℕ) → R a b → InOrder a b ys) → Two lo hi Q R → InOrder lo hi (xs ++ ys)
order-two {lo = lo} {hi = hi} xs ys f g q = order-both xs ys q.above q.below q.apart (f lo q.mid q.one) (g q.next hi q.two)

module _ {A : Type 0} (to : A → Span) (ps : List (Package A)) (marks : List MarkRef) (w : Where A) where
  -- the keys of uses
  abbrev pub keys : List (Site A) → List Key
  keys [] = []
  keys (x ∷ xs) = (to (part_span x.part), x.mark) ∷ keys xs

  pub keys-both : (xs ys : List (Site A)) → keys (xs ++ ys) ≡ keys xs ++ keys ys
  keys-both [] ys = refl
  keys-both (x ∷ xs) ys = λ v. (to (part_span x.part), x.mark) ∷ keys-both xs ys v

  module _ (p : Place A) where
    -- what a name of a type names
    abbrev mark_by : Option (NameAt Span) → List ℕ → Option MarkRef
    mark_by None n = marked_as ps marks not_function (name_mark ps w p n)
    mark_by (Some q) n = marked_as ps marks not_function (qualified_mark ps w p q.name n)

    -- the uses in a type whose nodes have these spans
    abbrev mutual
      pub type_keys : TypeExpr Span → List Key
      type_keys (named s q n) = key_if s (mark_by q n.name)
      type_keys (pointer s t) = type_keys t
      type_keys (slice_type s t) = type_keys t
      type_keys (map_type s k t) = type_keys k ++ type_keys t
      type_keys (struct_type s fs) = fields_keys fs

      pub fields_keys : Fields Span → List Key
      fields_keys no_fields = []
      fields_keys (field s n t fs) = type_keys t ++ fields_keys fs

    abbrev pub params_keys : List (Param Span) → List Key
    params_keys [] = []
    params_keys (x ∷ xs) = type_keys x.of ++ params_keys xs

    -- ---- their order

    shared : {lo hi : ℕ} (t u : TypeExpr Span) (zs : List Key) → t ≡ u → InOrder lo hi (type_keys u ++ zs)
        → InOrder lo hi (type_keys t ++ (type_keys u ++ zs))
    shared {lo = lo} {hi = hi} t u zs e h = subst (λ (x : TypeExpr Span). InOrder lo hi (type_keys x ++ (type_keys u ++ zs))) (sym e) (order-again (type_keys u) zs h)

    mutual
      type-order : (lo hi : ℕ) (t : TypeExpr Span) → TypeIn lo hi t → InOrder lo hi (type_keys t)
      type-order lo hi (named s q n) h = key-in-order s (mark_by q n.name) h
      type-order lo hi (pointer s t) h = order-one (type_keys t) (λ a b q. type-order a b t q) h
      type-order lo hi (slice_type s t) h = order-one (type_keys t) (λ a b q. type-order a b t q) h
      type-order lo hi (map_type s k t) h =
          order-two (type_keys k) (type_keys t) (λ a b q. order-one (type_keys k) (λ c d r. type-order c d k r) q) (λ a b q. order-one (type_keys t) (λ c d r. type-order c d t r) q) h
      type-order lo hi (struct_type s fs) h = order-one (fields_keys fs) (λ a b q. fields-order a b fs q) h

      fields-order : (lo hi : ℕ) (fs : Fields Span) → FieldsIn lo hi fs → InOrder lo hi (fields_keys fs)
      fields-order lo hi no_fields h = none-there
      fields-order lo hi (field s n t fs) (inr q) = order-two (type_keys t) (fields_keys fs) (λ a b r. order-one (type_keys t) (λ c d z. type-order c d t z) r) (λ a b r. fields-order a b fs r) q
      fields-order lo hi (field s n t no_fields) (inl q) = absurd q.0
      fields-order lo hi (field s n t (field z m u fs)) (inl q) = shared t u (fields_keys fs) q.0 (fields-order lo hi (field z m u fs) q.1)

    pub one-type : {lo hi : ℕ} (t : TypeExpr Span) → OneType lo hi t → InOrder lo hi (type_keys t)
    one-type t h = order-one (type_keys t) (λ a b q. type-order a b t q) h

    pub params-order : (lo hi : ℕ) (xs : List (Param Span)) → ParamsIn lo hi xs → InOrder lo hi (params_keys xs)
    params-order lo hi [] h = none-there
    params-order lo hi (x ∷ xs) (inr q) = order-two (type_keys x.of) (params_keys xs) (λ a b r. one-type x.of r) (λ a b r. params-order a b xs r) q
    params-order lo hi (x ∷ []) (inl q) = absurd q.0
    params-order lo hi (x ∷ y ∷ xs) (inl q) = shared x.of y.of (params_keys xs) q.0 (params-order lo hi (y ∷ xs) q.1)

    -- ---- they are those that are listed

    module _ (d : ℕ) where
      by-option : (u : Use) (x : Part A) (o : Option MarkRef)
          → keys (site_by ps marks w d p u x o ++ []) ≡ key_if (to (part_span x)) o
      by-option u x None = refl
      by-option u x (Some m) = refl

      types-both : (xs ys : List (TypeExpr A))
          → type_sites ps marks w d p (xs ++ ys) ≡ type_sites ps marks w d p xs ++ type_sites ps marks w d p ys
      types-both [] ys = refl
      types-both (x ∷ xs) ys =
          ap (λ zs. site_by ps marks w d p other (a_type_part x) (type_mark ps marks w p x) ++ zs) (types-both xs ys)
          ∙ sym (append_assoc (site_by ps marks w d p other (a_type_part x) (type_mark ps marks w p x)) (type_sites ps marks w d p xs) (type_sites ps marks w d p ys))

      keys-types : (xs ys : List (TypeExpr A))
          → keys (type_sites ps marks w d p (xs ++ ys)) ≡ keys (type_sites ps marks w d p xs) ++ keys (type_sites ps marks w d p ys)
      keys-types xs ys = ap keys (types-both xs ys) ∙ keys-both (type_sites ps marks w d p xs) (type_sites ps marks w d p ys)

      mutual
        pub type-keys : (t : TypeExpr A) → keys (type_sites ps marks w d p (named_in t)) ≡ type_keys (type_with to t)
        type-keys (named s None n) = by-option other (a_type_part (named s None n)) (type_mark ps marks w p (named s None n))
        type-keys (named s (Some q) n) = by-option other (a_type_part (named s (Some q) n)) (type_mark ps marks w p (named s (Some q) n))
        type-keys (pointer s t) = type-keys t
        type-keys (slice_type s t) = type-keys t
        type-keys (map_type s k t) = keys-types (named_in k) (named_in t) ∙ (λ v. type-keys k v ++ type-keys t v)
        type-keys (struct_type s fs) = fields-keys fs

        fields-keys : (fs : Fields A)
            → keys (type_sites ps marks w d p (named_in_fields fs)) ≡ fields_keys (fields_with to fs)
        fields-keys no_fields = refl
        fields-keys (field s n t fs) = keys-types (named_in t) (named_in_fields fs) ∙ (λ v. type-keys t v ++ fields-keys fs v)

      pub params-keys : (xs : List (Param A))
          → keys (sites_among ps marks w d (params_seen p xs)) ≡ params_keys (map (param_with to) xs)
      params-keys [] = refl
      params-keys (x ∷ xs) = keys-both (type_sites ps marks w d p (named_in x.of)) (sites_among ps marks w d (params_seen p xs)) ∙ (λ v. type-keys x.of v ++ params-keys xs v)

-- Each name of a type in a type or a signature that tokens spell may be swapped where that may.
use Rattle.std.proofs.Common.{◌≡◌, refl, sym, Bool, true, false, List, [], ◌∷◌, ◌++◌, Option, Some, None}
use Rattle.go_tree.specs.Tree.{NameAt, Param, Sig, TypeExpr, named, pointer, slice_type, map_type, struct_type, Fields, no_fields, field}
use Rattle.go_read.specs.Spells.{starts_type}
use Rattle.go_read.specs.SpellsTypes.{Lexemes, fields_of, params_of, SpellsType, SpellsFields, SpellsEntries, SpellsRest, SpellsNamed, SpellsUnnamed, SpellsParams, SpellsResults, SpellsSig, named_rule, qualified_rule, pointer_rule, slice_type_rule, map_type_rule, struct_type_rule, type_parens_rule, no_fields_rule, last_field_rule, more_fields_rule, last_entry_rule, more_entries_rule, rest_rule, named_rest_rule, last_named_rule, comma_named_rule, more_named_rule, rest_named_rule, comma_rest_named_rule, last_unnamed_rule, comma_unnamed_rule, more_unnamed_rule, rest_unnamed_rule, comma_rest_unnamed_rule, no_params_rule, named_params_rule, unnamed_params_rule, no_results_rule, params_results_rule, type_result_rule, sig_rule}
use Rattle.run_rules.specs.Sites.{named_in, named_in_fields}
use Rattle.splice_laws.specs.Swaps.{Swap, a_type, a_literal_type, OtherFirst, OtherField, OtherBefore, FieldsAlike, no_more_alike, one_more_alike, ParamsAlike, no_more_params, one_more_param, TypeIn, this_type, inside_type, PartOfType, in_pointer, in_slice_type, in_map_key, in_map_value, in_struct, FieldsIn, in_field, in_later_fields, ParamsIn, in_unnamed, in_later_params, NamedIn, in_named, in_named_rest, in_later_named, SigIn, in_named_params, in_named_results, in_params, in_results}
use Rattle.splice_laws.proofs.Apart.{Differ, fields_other, params_other}
use Rattle.splice_laws.proofs.Grafts.{Within, drop}
use Rattle.splice_laws.proofs.Pasts.{type_past, entries_past, params_past}
use Rattle.put_nodes.specs.TypeNodes.Names.{Written, as_types, names_of_params, names_of_sig, names_of_literal}

-- ---- what is shown

module _ {S : Type 0} (W : Swap S → Type 0) where
  abbrev mutual
    -- each name of a type in a written type may be swapped for each type
    pub NamesSwapped : TypeExpr S → Type 0
    NamesSwapped (named s q n) = (u : TypeExpr S) → W (a_type (named s q n) u)
    NamesSwapped (pointer s t) = NamesSwapped t
    NamesSwapped (slice_type s t) = NamesSwapped t
    NamesSwapped (map_type s k t) = NamesSwapped k × NamesSwapped t
    NamesSwapped (struct_type s fs) = FieldsSwapped fs

    pub FieldsSwapped : Fields S → Type 0
    FieldsSwapped no_fields = Unit {0}
    FieldsSwapped (field s n t fs) = NamesSwapped t × FieldsSwapped fs

  abbrev pub ParamsSwapped : List (Param S) → Type 0
  ParamsSwapped [] = Unit {0}
  ParamsSwapped (p ∷ ps) = NamesSwapped p.of × ParamsSwapped ps

-- ---- lists in which names share a type

module _ {S : Type 0} where
  -- the first of the fields has another type than the one before, if there is one
  abbrev NextField : Option (TypeExpr S) → Fields S → Type 0
  NextField None fs = Unit {0}
  NextField (Some b) fs = OtherField b fs

  abbrev NextParam : Option (TypeExpr S) → List (Param S) → Type 0
  NextParam None ps = Unit {0}
  NextParam (Some b) ps = OtherFirst b ps

  other-before : (before : Option (TypeExpr S)) (s : S) (n : NameAt S) (t : TypeExpr S) (fs : Fields S) → NextField before (field s n t fs) → OtherBefore before t
  other-before None s n t fs o = tt
  other-before (Some b) s n t fs o = λ q. o (sym q)

  other-param : (before : Option (TypeExpr S)) (p : Param S) (ps : List (Param S)) → NextParam before (p ∷ ps) → OtherBefore before p.of
  other-param None p ps o = tt
  other-param (Some b) p ps o = λ q. o (sym q)

  fields-alike : (es : List (S × NameAt S)) (t u : TypeExpr S) (more : Fields S) → OtherField t more → FieldsAlike t u (fields_of es t more) (fields_of es u more)
  fields-alike [] t u more o = no_more_alike o
  fields-alike (e ∷ es) t u more o = one_more_alike (fields-alike es t u more o)

  params-alike : (es : List (S × NameAt S)) (t u : TypeExpr S) (more : List (Param S)) → OtherFirst t more → ParamsAlike t u (params_of es t more) (params_of es u more)
  params-alike [] t u more o = no_more_params o
  params-alike (e ∷ es) t u more o = one_more_param (params-alike es t u more o)

  module _ (W : Swap S → Type 0) where
    same-fields : (es : List (S × NameAt S)) (t : TypeExpr S) (more : Fields S) → NamesSwapped W t → FieldsSwapped W more → FieldsSwapped W (fields_of es t more)
    same-fields [] t more h m = m
    same-fields (e ∷ es) t more h m = (h, same-fields es t more h m)

    same-params : (es : List (S × NameAt S)) (t : TypeExpr S) (more : List (Param S)) → NamesSwapped W t → ParamsSwapped W more → ParamsSwapped W (params_of es t more)
    same-params [] t more h m = m
    same-params (e ∷ es) t more h m = (h, same-params es t more h m)

  module _ (mark : Lexemes → Lexemes → S) where
    -- the type that names share is swapped for each of them
    shared-field : {t : TypeExpr S} {es : List (S × NameAt S)} {ts r : Lexemes} (before : Option (TypeExpr S)) (more : Fields S) (w : Swap S) (u : TypeExpr S) → SpellsEntries mark t es ts r → NextField before (fields_of es t more) → OtherField t more → TypeIn w t u → FieldsIn w before (fields_of es t more) (fields_of es u more)
    shared-field {t = t} before more w u (last_entry_rule d) o other x = in_field (other-before before _ _ t more o) x (no_more_alike other)
    shared-field {t = t} before more w u (more_entries_rule {es = es} d) o other x = in_field (other-before before _ _ t (fields_of es t more) o) x (fields-alike es t u more other)

    later-field : {t : TypeExpr S} {es : List (S × NameAt S)} {ts r : Lexemes} (before : Option (TypeExpr S)) (more gs : Fields S) (w : Swap S) → SpellsEntries mark t es ts r → FieldsIn w (Some t) more gs → FieldsIn w before (fields_of es t more) (fields_of es t gs)
    later-field before more gs w (last_entry_rule d) x = in_later_fields x
    later-field {t = t} before more gs w (more_entries_rule d) x = in_later_fields (later-field (Some t) more gs w d x)

    shared-param : {t : TypeExpr S} {es : List (S × NameAt S)} {ts r : Lexemes} (before : Option (TypeExpr S)) (more : List (Param S)) (w : Swap S) (u : TypeExpr S) → SpellsEntries mark t es ts r → NextParam before (params_of es t more) → OtherFirst t more → TypeIn w t u → NamedIn w before (params_of es t more) (params_of es u more)
    shared-param before more w u (last_entry_rule d) o other x = in_named (other-param before _ more o) x (no_more_params other)
    shared-param {t = t} before more w u (more_entries_rule {es = es} d) o other x = in_named (other-param before _ (params_of es t more) o) x (params-alike es t u more other)

    later-param : {t : TypeExpr S} {es : List (S × NameAt S)} {ts r : Lexemes} (before : Option (TypeExpr S)) (more qs : List (Param S)) (w : Swap S) → SpellsEntries mark t es ts r → NamedIn w (Some t) more qs → NamedIn w before (params_of es t more) (params_of es t qs)
    later-param before more qs w (last_entry_rule d) x = in_later_named x
    later-param {t = t} before more qs w (more_entries_rule d) x = in_later_named (later-param (Some t) more qs w d x)

-- ---- the walk

module _ {S : Type 0} (mark : Lexemes → Lexemes → S) (whole : Lexemes) (differ : Differ mark whole) (W : Swap S → Type 0) where
  mutual
    pub type-nodes : {t : TypeExpr S} {ts r : Lexemes} → SpellsType mark t ts r → Within ts whole → ((w : Swap S) (u : TypeExpr S) → TypeIn w t u → W w) → NamesSwapped W t
    type-nodes named_rule a k = λ u. k (a_type _ u) u (this_type refl)
    type-nodes qualified_rule a k = λ u. k (a_type _ u) u (this_type refl)
    type-nodes (pointer_rule d) a k = type-nodes d (drop a) (λ w u x. k w _ (inside_type (in_pointer x)))
    type-nodes (slice_type_rule d) a k = type-nodes d (drop (drop a)) (λ w u x. k w _ (inside_type (in_slice_type x)))
    type-nodes (map_type_rule d1 d2) a k = (
      type-nodes d1 (drop (drop a)) (λ w u x. k w _ (inside_type (in_map_key x))),
      type-nodes d2 (drop (type_past mark whole d1 (drop (drop a)))) (λ w u x. k w _ (inside_type (in_map_value x))),
    )
    type-nodes (struct_type_rule d) a k = fields-nodes d (drop (drop a)) None tt (λ w gs x. k w _ (inside_type (in_struct x)))
    type-nodes (type_parens_rule d) a k = type-nodes d (drop a) k

    entry-nodes : {t : TypeExpr S} {es : List (S × NameAt S)} {ts r : Lexemes} → SpellsEntries mark t es ts r → Within ts whole → ((w : Swap S) (u : TypeExpr S) → TypeIn w t u → W w) → NamesSwapped W t
    entry-nodes (last_entry_rule d) a k = type-nodes d (drop a) k
    entry-nodes (more_entries_rule d) a k = entry-nodes d (drop (drop a)) k

    fields-nodes : {fs : Fields S} {ts r : Lexemes} → SpellsFields mark fs ts r → Within ts whole → (before : Option (TypeExpr S)) → NextField before fs → ((w : Swap S) (gs : Fields S) → FieldsIn w before fs gs → W w) → FieldsSwapped W fs
    fields-nodes no_fields_rule a before o k = tt
    fields-nodes (last_field_rule {t = t} {es = es} d) a before o k =
        same-fields W es t no_fields (entry-nodes d a (λ w u x. k w (fields_of es u no_fields) (shared-field mark before no_fields w u d o tt x))) tt
    fields-nodes (more_fields_rule {t = t} {es = es} {fs = fs} d1 d2) a before o k =
        let other : OtherField t fs = fields_other mark whole differ d1 d2 a in
        same-fields W es t fs (entry-nodes d1 a (λ w u x. k w (fields_of es u fs) (shared-field mark before fs w u d1 o other x)))
        (fields-nodes d2 (drop (entries_past mark whole d1 a)) (Some t) other (λ w gs x. k w (fields_of es t gs) (later-field mark before fs gs w d1 x)))

  rest-nodes : {p : Param S} {ts r : Lexemes} → SpellsRest mark true p ts r → Within ts whole → (before : Option (TypeExpr S)) → ((w : Swap S) (qs : List (Param S)) → NamedIn w before (p ∷ []) qs → W w) → NamesSwapped W p.of
  rest-nodes (named_rest_rule d) a before k = type-nodes d (drop (drop a)) (λ w u x. k w _ (in_named_rest x))

  pub named-nodes : {v : Bool} {ps : List (Param S)} {ts r : Lexemes} → SpellsNamed mark v ps ts r → Within ts whole → (before : Option (TypeExpr S)) → NextParam before ps → ((w : Swap S) (qs : List (Param S)) → NamedIn w before ps qs → W w) → ParamsSwapped W ps
  named-nodes (last_named_rule {t = t} {es = es} d) a before o k =
      same-params W es t [] (entry-nodes d a (λ w u x. k w (params_of es u []) (shared-param mark before [] w u d o tt x))) tt
  named-nodes (comma_named_rule {t = t} {es = es} d) a before o k =
      same-params W es t [] (entry-nodes d a (λ w u x. k w (params_of es u []) (shared-param mark before [] w u d o tt x))) tt
  named-nodes (more_named_rule {t = t} {es = es} {ps = ps} d1 d2) a before o k =
      let other : OtherFirst t ps = params_other mark whole differ d1 d2 a in
      same-params W es t ps (entry-nodes d1 a (λ w u x. k w (params_of es u ps) (shared-param mark before ps w u d1 o other x)))
      (named-nodes d2 (drop (entries_past mark whole d1 a)) (Some t) other (λ w qs x. k w (params_of es t qs) (later-param mark before ps qs w d1 x)))
  named-nodes (rest_named_rule d) a before o k = (rest-nodes d a before k, tt)
  named-nodes (comma_rest_named_rule d) a before o k = (rest-nodes d a before k, tt)

  rest-alone : {p : Param S} {ts r : Lexemes} → SpellsRest mark false p ts r → Within ts whole → ((w : Swap S) (qs : List (Param S)) → ParamsIn w (p ∷ []) qs → W w) → NamesSwapped W p.of
  rest-alone (rest_rule d) a k = type-nodes d (drop a) (λ w u x. k w _ (in_unnamed x))

  pub unnamed-nodes : {v : Bool} {ps : List (Param S)} {ts r : Lexemes} → SpellsUnnamed mark v ps ts r → Within ts whole → ((w : Swap S) (qs : List (Param S)) → ParamsIn w ps qs → W w) → ParamsSwapped W ps
  unnamed-nodes (last_unnamed_rule d) a k = (type-nodes d a (λ w u x. k w _ (in_unnamed x)), tt)
  unnamed-nodes (comma_unnamed_rule d) a k = (type-nodes d a (λ w u x. k w _ (in_unnamed x)), tt)
  unnamed-nodes (more_unnamed_rule d1 d2) a k =
      (type-nodes d1 a (λ w u x. k w _ (in_unnamed x)), unnamed-nodes d2 (drop (type_past mark whole d1 a)) (λ w qs x. k w _ (in_later_params x)))
  unnamed-nodes (rest_unnamed_rule d) a k = (rest-alone d a k, tt)
  unnamed-nodes (comma_rest_unnamed_rule d) a k = (rest-alone d a k, tt)

  params-nodes : {v : Bool} {ps : List (Param S)} {ts r : Lexemes} → SpellsParams mark v ps ts r → Within ts whole → ((w : Swap S) (qs : List (Param S)) → NamedIn w None ps qs → W w) → ((w : Swap S) (qs : List (Param S)) → ParamsIn w ps qs → W w) → ParamsSwapped W ps
  params-nodes no_params_rule a k h = tt
  params-nodes (named_params_rule d) a k h = named-nodes d (drop a) None tt k
  params-nodes (unnamed_params_rule d) a k h = unnamed-nodes d (drop a) h

  results-nodes : {ps : List (Param S)} {ts r : Lexemes} → SpellsResults mark ps ts r → Within ts whole → ((w : Swap S) (qs : List (Param S)) → NamedIn w None ps qs → W w) → ((w : Swap S) (qs : List (Param S)) → ParamsIn w ps qs → W w) → ParamsSwapped W ps
  results-nodes no_results_rule a k h = tt
  results-nodes (params_results_rule d) a k h = params-nodes d a k h
  results-nodes (type_result_rule d) a k h = (type-nodes d a (λ w u x. h w _ (in_unnamed x)), tt)

  pub sig-nodes : {v : Bool} {g : Sig S} {ts r : Lexemes} → SpellsSig mark v g ts r → Within ts whole → ((w : Swap S) (h : Sig S) → SigIn w g h → W w) → ParamsSwapped W g.params × ParamsSwapped W g.results
  sig-nodes (sig_rule d1 d2) a k = (
    params-nodes d1 a (λ w qs x. k w _ (in_named_params x)) (λ w qs x. k w _ (in_params x)),
    results-nodes d2 (params_past mark whole d1 a) (λ w qs x. k w _ (in_named_results x)) (λ w qs x. k w _ (in_results x)),
  )

  -- the parts of a type that begins with `[`, `map` or `struct`
  pub part-nodes : {t : TypeExpr S} {ts r : Lexemes} → SpellsType mark t ts r → starts_type ts ≡ true → Within ts whole → ((w : Swap S) (u : TypeExpr S) → PartOfType w t u → W w) → NamesSwapped W t
  part-nodes named_rule b a k = absurd cc
  part-nodes qualified_rule b a k = absurd cc
  part-nodes (pointer_rule d) b a k = absurd cc
  part-nodes (slice_type_rule d) b a k = type-nodes d (drop (drop a)) (λ w u x. k w _ (in_slice_type x))
  part-nodes (map_type_rule d1 d2) b a k = (
    type-nodes d1 (drop (drop a)) (λ w u x. k w _ (in_map_key x)),
    type-nodes d2 (drop (type_past mark whole d1 (drop (drop a)))) (λ w u x. k w _ (in_map_value x)),
  )
  part-nodes (struct_type_rule d) b a k = fields-nodes d (drop (drop a)) None tt (λ w gs x. k w _ (in_struct x))
  part-nodes (type_parens_rule d) b a k = absurd cc

-- ---- as they are listed

module _ {S : Type 0} (W : Swap S → Type 0) where
  -- each of these types may be swapped for each type
  abbrev TypesGood : List (TypeExpr S) → Type 0
  TypesGood [] = Unit {0}
  TypesGood (t ∷ ts) = ((u : TypeExpr S) → W (a_type t u)) × TypesGood ts

  both-types : (xs ys : List (TypeExpr S)) → TypesGood xs → TypesGood ys → TypesGood (xs ++ ys)
  both-types [] ys h k = k
  both-types (x ∷ xs) ys h k = (h.0, both-types xs ys h.1 k)

  mutual
    types-good : (t : TypeExpr S) → NamesSwapped W t → TypesGood (named_in t)
    types-good (named s q n) h = (h, tt)
    types-good (pointer s t) h = types-good t h
    types-good (slice_type s t) h = types-good t h
    types-good (map_type s k t) h = both-types (named_in k) (named_in t) (types-good k h.0) (types-good t h.1)
    types-good (struct_type s fs) h = fields-good fs h

    fields-good : (fs : Fields S) → FieldsSwapped W fs → TypesGood (named_in_fields fs)
    fields-good no_fields h = tt
    fields-good (field s n t fs) h = both-types (named_in t) (named_in_fields fs) (types-good t h.0) (fields-good fs h.1)

  -- so with what says whether it is the type of a literal
  abbrev pub PlaceGood : Bool → TypeExpr S → Type 0
  PlaceGood false t = (u : TypeExpr S) → W (a_type t u)
  PlaceGood true t = (u : TypeExpr S) → W (a_literal_type false t u)

  abbrev pub Good : Written S → Type 0
  Good [] = Unit {0}
  Good (x ∷ xs) = PlaceGood x.0 x.1 × Good xs

  pub both : (xs ys : Written S) → Good xs → Good ys → Good (xs ++ ys)
  both [] ys h k = k
  both (x ∷ xs) ys h k = (h.0, both xs ys h.1 k)

  as-good : (ts : List (TypeExpr S)) → TypesGood ts → Good (as_types ts)
  as-good [] h = tt
  as-good (t ∷ ts) h = (h.0, as-good ts h.1)

  pub type-good : (t : TypeExpr S) → NamesSwapped W t → Good (as_types (named_in t))
  type-good t h = as-good (named_in t) (types-good t h)

  params-good : (ps : List (Param S)) → ParamsSwapped W ps → Good (names_of_params ps)
  params-good [] h = tt
  params-good (p ∷ ps) h = both (as_types (named_in p.of)) (names_of_params ps) (type-good p.of h.0) (params-good ps h.1)

  pub sig-good : (g : Sig S) → ParamsSwapped W g.params × ParamsSwapped W g.results → Good (names_of_sig g)
  sig-good g h = both (names_of_params g.params) (names_of_params g.results) (params-good g.params h.0) (params-good g.results h.1)

  -- where the type of a literal may be swapped, and the parts of it
  pub literal-good : (h : Bool) (t : TypeExpr S) → ((u : TypeExpr S) → h ≡ false → W (a_literal_type false t u)) → NamesSwapped W t → Good (names_of_literal h t)
  literal-good true (named s q n) f k = tt
  literal-good false (named s q n) f k = ((λ u. f u refl), tt)
  literal-good h (pointer s t) f k = type-good (pointer s t) k
  literal-good h (slice_type s t) f k = type-good (slice_type s t) k
  literal-good h (map_type s a t) f k = type-good (map_type s a t) k
  literal-good h (struct_type s fs) f k = type-good (struct_type s fs) k

  pub name-good : (h : Bool) (s : S) (q : Option (NameAt S)) (n : NameAt S) → ((u : TypeExpr S) → h ≡ false → W (a_literal_type false (named s q n) u)) → Good (names_of_literal h (named s q n))
  name-good true s q n f = tt
  name-good false s q n f = ((λ u. f u refl), tt)

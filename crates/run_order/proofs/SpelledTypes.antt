-- The types, signatures and names that tokens spell: where what may be a use ends.
use Rattle.std.proofs.Common.{refl, ℕ, Bool, inl, inr, List}
use Rattle.go_tree.specs.declared.spans.Span.{Span}
use Rattle.go_tree.specs.Tree.{NameAt, TypeExpr, Fields, Param, Sig}
use Rattle.go_read.specs.SpellsTypes.{Lexemes, fields_of, params_of, SpellsType, SpellsFields, SpellsEntries, SpellsRest, SpellsNamed, SpellsUnnamed, SpellsParams, SpellsResults, SpellsSig, SpellsNames, named_rule, qualified_rule, pointer_rule, slice_type_rule, map_type_rule, struct_type_rule, type_parens_rule, no_fields_rule, last_field_rule, more_fields_rule, last_entry_rule, more_entries_rule, rest_rule, named_rest_rule, last_named_rule, comma_named_rule, more_named_rule, rest_named_rule, comma_rest_named_rule, last_unnamed_rule, comma_unnamed_rule, more_unnamed_rule, rest_unnamed_rule, comma_rest_unnamed_rule, no_params_rule, named_params_rule, unnamed_params_rule, no_results_rule, params_results_rule, type_result_rule, sig_rule, last_name_rule, more_names_rule}
use Rattle.go_read.specs.SpellsSpans.{start_of, span_to}
use Rattle.go_read.specs.Spells.{SpellsLiteralType, named_literal_rule, qualified_literal_rule, type_literal_rule}
use Rattle.splice_laws.proofs.Grafts.{here, later, drop}
use Rattle.splice_laws.proofs.Pasts.{type_past, fields_past, entries_past, rest_past, named_past, unnamed_past, params_past, results_past, names_past}
use Rattle.order_runs.proofs.RunSteps.TokenPlaces.{Full, full, full-within}
use Rattle.order_runs.proofs.RunSteps.SpanPlaces.{One, Two}
use Rattle.run_order.proofs.EndPlaces.{FieldRepeats, FieldsIn, OneType, ParamRepeats, ParamsIn, SigIn, NamesIn}
use Rattle.run_order.proofs.TokenEnds.{Stands, rest-of, stands-within, ends-at, exact, two, next, behind-one, before-one}

-- ---- types

-- names that share a type: the last stands where it does
entries-again : {t : TypeExpr Span} {es : List (Span × NameAt Span)} {ts r : Lexemes} (fs : Fields Span)
    → SpellsEntries span_to t es ts r → FieldRepeats t (fields_of es t fs)
entries-again fs (last_entry_rule d) = refl
entries-again fs (more_entries_rule d) = refl

entries-fields : {lo hi : ℕ} {t : TypeExpr Span} {es : List (Span × NameAt Span)} {ts r : Lexemes} (fs : Fields Span)
    → SpellsEntries span_to t es ts r → Two lo hi (λ a b. OneType a b t) (λ a b. FieldsIn a b fs)
    → FieldsIn lo hi (fields_of es t fs)
entries-fields fs (last_entry_rule d) q = inr q
entries-fields fs (more_entries_rule d) q = inl (entries-again fs d, entries-fields fs d q)

entries-share : {t : TypeExpr Span} {es : List (Span × NameAt Span)} {ts r : Lexemes} (ps : List (Param Span))
    → SpellsEntries span_to t es ts r → ParamRepeats t (params_of es t ps)
entries-share ps (last_entry_rule d) = refl
entries-share ps (more_entries_rule d) = refl

entries-params : {lo hi : ℕ} {t : TypeExpr Span} {es : List (Span × NameAt Span)} {ts r : Lexemes} (ps : List (Param Span))
    → SpellsEntries span_to t es ts r → Two lo hi (λ a b. OneType a b t) (λ a b. ParamsIn a b ps)
    → ParamsIn lo hi (params_of es t ps)
entries-params ps (last_entry_rule d) q = inr q
entries-params ps (more_entries_rule d) q = inl (entries-share ps d, entries-params ps d q)

mutual
  pub type_in : {t : TypeExpr Span} {ts r : Lexemes} → SpellsType span_to t ts r → Stands ts → Full r
      → OneType (start_of ts) (start_of r) t
  type_in named_rule g f = exact (ends-at here g f (λ e. cc))
  type_in qualified_rule g f = exact (ends-at (later (later here)) g f (λ e. cc))
  type_in (pointer_rule d) g f = exact (behind-one g (full-within (type_past span_to _ d here) f) (type_in d (rest-of g) f))
  type_in (slice_type_rule d) g f =
      let w = full-within (type_past span_to _ d here) f in
      exact (behind-one g full (behind-one (rest-of g) w (type_in d (rest-of (rest-of g)) f)))
  type_in (map_type_rule d k) g f =
      let a = type_past span_to _ d here in
      let c = type_past span_to _ k here in
      let ga = rest-of (rest-of g) in
      behind-one g full (behind-one (rest-of g) (full-within a full) (exact (two a c ga f (type_in d ga full) (type_in k (stands-within (drop a) ga) f))))
  type_in (struct_type_rule d) g f =
      let a = fields_past span_to _ d here in
      let ga = rest-of (rest-of g) in
      exact (behind-one g full (behind-one (rest-of g) (full-within a full) (before-one a ga f (exact (fields_in d ga full)))))
  type_in (type_parens_rule d) g f =
      let a = type_past span_to _ d here in
      behind-one g (full-within a full) (before-one a (rest-of g) f (type_in d (rest-of g) full))

  fields_in : {fs : Fields Span} {ts r : Lexemes} → SpellsFields span_to fs ts r → Stands ts → Full r
      → FieldsIn (start_of ts) (start_of r) fs
  fields_in no_fields_rule g f = tt
  fields_in (last_field_rule d) g f = entries-fields _ d (next (entries_past span_to _ d here) here g f (entries_in d g f) tt)
  fields_in (more_fields_rule d k) g f =
      let a = entries_past span_to _ d here in
      entries-fields _ d (two a (fields_past span_to _ k here) g f (entries_in d g full) (fields_in k (stands-within (drop a) g) f))

  entries_in : {t : TypeExpr Span} {es : List (Span × NameAt Span)} {ts r : Lexemes} → SpellsEntries span_to t es ts r
      → Stands ts → Full r → OneType (start_of ts) (start_of r) t
  entries_in (last_entry_rule d) g f = behind-one g (full-within (type_past span_to _ d here) f) (type_in d (rest-of g) f)
  entries_in (more_entries_rule d) g f = behind-one g full (behind-one (rest-of g) (full-within (entries_past span_to _ d here) f) (entries_in d (rest-of (rest-of g)) f))

-- ---- signatures

rest_in : {v : Bool} {p : Param Span} {ts r : Lexemes} → SpellsRest span_to v p ts r → Stands ts → Full r
    → OneType (start_of ts) (start_of r) p.of
rest_in (rest_rule d) g f = behind-one g (full-within (type_past span_to _ d here) f) (type_in d (rest-of g) f)
rest_in (named_rest_rule d) g f = behind-one g full (behind-one (rest-of g) (full-within (type_past span_to _ d here) f) (type_in d (rest-of (rest-of g)) f))

named_in : {v : Bool} {ps : List (Param Span)} {ts r : Lexemes} → SpellsNamed span_to v ps ts r → Stands ts → Full r
    → ParamsIn (start_of ts) (start_of r) ps
named_in (last_named_rule d) g f = let w = entries_past span_to _ d here in entries-params _ d (two w here g f (entries_in d g full) tt)
named_in (comma_named_rule d) g f = let w = entries_past span_to _ d here in entries-params _ d (two w (later here) g f (entries_in d g full) tt)
named_in (more_named_rule d k) g f =
    let w = entries_past span_to _ d here in
    entries-params _ d (two w (named_past span_to _ k here) g f (entries_in d g full) (named_in k (stands-within (drop w) g) f))
named_in (rest_named_rule {p = p} d) g f = let w = rest_past span_to _ d here in inr (two w here g f (rest_in d g full) tt)
named_in (comma_rest_named_rule {p = p} d) g f = let w = rest_past span_to _ d here in inr (two w (later here) g f (rest_in d g full) tt)

unnamed_in : {v : Bool} {ps : List (Param Span)} {ts r : Lexemes} → SpellsUnnamed span_to v ps ts r → Stands ts
    → Full r → ParamsIn (start_of ts) (start_of r) ps
unnamed_in (last_unnamed_rule d) g f = let w = type_past span_to _ d here in inr (two w here g f (type_in d g full) tt)
unnamed_in (comma_unnamed_rule d) g f = let w = type_past span_to _ d here in inr (two w (later here) g f (type_in d g full) tt)
unnamed_in (more_unnamed_rule d k) g f =
    let w = type_past span_to _ d here in
    inr (two w (unnamed_past span_to _ k here) g f (type_in d g full) (unnamed_in k (stands-within (drop w) g) f))
unnamed_in (rest_unnamed_rule d) g f = let w = rest_past span_to _ d here in inr (two w here g f (rest_in d g full) tt)
unnamed_in (comma_rest_unnamed_rule d) g f = let w = rest_past span_to _ d here in inr (two w (later here) g f (rest_in d g full) tt)

params_in : {v : Bool} {ps : List (Param Span)} {ts r : Lexemes} → SpellsParams span_to v ps ts r → Stands ts → Full r
    → One (start_of ts) (start_of r) (λ a b. ParamsIn a b ps)
params_in no_params_rule g f = exact tt
params_in (named_params_rule d) g f = behind-one g (full-within (named_past span_to _ d here) f) (exact (named_in d (rest-of g) f))
params_in (unnamed_params_rule d) g f = behind-one g (full-within (unnamed_past span_to _ d here) f) (exact (unnamed_in d (rest-of g) f))

results_in : {ps : List (Param Span)} {ts r : Lexemes} → SpellsResults span_to ps ts r → Stands ts → Full r
    → One (start_of ts) (start_of r) (λ a b. ParamsIn a b ps)
results_in no_results_rule g f = exact tt
results_in (params_results_rule d) g f = params_in d g f
results_in (type_result_rule d) g f = exact (inr (next (type_past span_to _ d here) here g f (type_in d g f) tt))

pub sig_in : {v : Bool} {x : Sig Span} {ts r : Lexemes} → SpellsSig span_to v x ts r → Stands ts → Full r
    → SigIn (start_of ts) (start_of r) x
sig_in (sig_rule d k) g f =
    let a = params_past span_to _ d here in
    let c = results_past span_to _ k here in
    next a c g f (params_in d g (full-within c f)) (results_in k (stands-within a g) f)

pub literal_in : {h : Bool} {t : TypeExpr Span} {ts r : Lexemes} → SpellsLiteralType span_to h t ts r → Stands ts → Full r
    → OneType (start_of ts) (start_of r) t
literal_in named_literal_rule g f = exact (ends-at here g f (λ e. cc))
literal_in qualified_literal_rule g f = exact (ends-at (later (later here)) g f (λ e. cc))
literal_in (type_literal_rule p d) g f = type_in d g f

-- ---- names

pub names_in : {ns : List (NameAt Span)} {ts r : Lexemes} → SpellsNames span_to ns ts r → Stands ts → Full r
    → NamesIn (start_of ts) (start_of r) ns
names_in last_name_rule g f = next (later here) here g f (ends-at here g f (λ e. cc)) tt
names_in (more_names_rule {c = c} {ts = us} d) g f = two (later here) (names_past span_to _ d here) g f (ends-at here g full (λ e. cc)) (names_in d (stands-within (later (later here)) g) f)

-- The names in types that tokens spell stand in their order.
use Rattle.std.proofs.Common.{◌≤◌, inl, inr, refl, ℕ, Bool, List, [], ◌∷◌, arith}
use Rattle.go_tree.specs.declared.spans.Span.{Span}
use Rattle.go_tree.specs.Tree.{NameAt, TypeExpr, Fields, no_fields, Param, Sig}
use Rattle.go_read.specs.SpellsTypes.{Lexemes, fields_of, params_of, SpellsType, SpellsFields, SpellsEntries, SpellsRest, SpellsNamed, SpellsUnnamed, SpellsParams, SpellsResults, SpellsSig, SpellsNames, named_rule, qualified_rule, pointer_rule, slice_type_rule, map_type_rule, struct_type_rule, type_parens_rule, no_fields_rule, last_field_rule, more_fields_rule, last_entry_rule, more_entries_rule, rest_rule, named_rest_rule, last_named_rule, comma_named_rule, more_named_rule, rest_named_rule, comma_rest_named_rule, last_unnamed_rule, comma_unnamed_rule, more_unnamed_rule, rest_unnamed_rule, comma_rest_unnamed_rule, no_params_rule, named_params_rule, unnamed_params_rule, no_results_rule, params_results_rule, type_result_rule, sig_rule, last_name_rule, more_names_rule}
use Rattle.go_read.specs.SpellsSpans.{span_to}
use Rattle.go_read.specs.Spells.{SpellsLiteralType, named_literal_rule, qualified_literal_rule, type_literal_rule}
use Rattle.splice_laws.proofs.Grafts.{here, later, drop}
use Rattle.constant_steps.proofs.PlaceMeanings.Behinds.{type_by, fields_by, entries_by, rest_by, named_by, unnamed_by, params_by, results_by, names_by}
use Rattle.constant_steps.proofs.PlaceMeanings.Rooms.{Room, cut, before, skip, high, begins, raise}
use Rattle.name_places.proofs.Ordered.{Shares, SharesNext, TypeIn, FieldsIn, ParamsIn, SigIn, NamesIn}

-- names that share a type
shares : {t : TypeExpr Span} {es : List (Span × NameAt Span)} {ts r : Lexemes} → SpellsEntries span_to t es ts r → (fs : Fields Span) → Shares t (fields_of es t fs)
shares (last_entry_rule d) fs = refl
shares (more_entries_rule d) fs = refl

shares_next : {t : TypeExpr Span} {es : List (Span × NameAt Span)} {ts r : Lexemes} → SpellsEntries span_to t es ts r → (ps : List (Param Span)) → SharesNext t (params_of es t ps)
shares_next (last_entry_rule d) ps = refl
shares_next (more_entries_rule d) ps = refl

fields_by_entries : {t : TypeExpr Span} {es : List (Span × NameAt Span)} {ts r : Lexemes} → SpellsEntries span_to t es ts r → (lo mid hi : ℕ) (fs : Fields Span) → lo ≤ mid → mid ≤ hi → TypeIn t lo mid → FieldsIn fs mid hi → FieldsIn (fields_of es t fs) lo hi
fields_by_entries (last_entry_rule d) lo mid hi fs a b h k = inl (record { mid = mid; from = a; to = b; first = h; second = k })
fields_by_entries (more_entries_rule d) lo mid hi fs a b h k = inr (shares d fs, fields_by_entries d lo mid hi fs a b h k)

params_by_entries : {t : TypeExpr Span} {es : List (Span × NameAt Span)} {ts r : Lexemes} → SpellsEntries span_to t es ts r → (lo mid hi : ℕ) (ps : List (Param Span)) → lo ≤ mid → mid ≤ hi → TypeIn t lo mid → ParamsIn ps mid hi → ParamsIn (params_of es t ps) lo hi
params_by_entries (last_entry_rule d) lo mid hi ps a b h k = inl (record { mid = mid; from = a; to = b; first = h; second = k })
params_by_entries (more_entries_rule d) lo mid hi ps a b h k = inr (shares_next d ps, params_by_entries d lo mid hi ps a b h k)

mutual
  pub type_in : {a0 : TypeExpr Span} {ts r : Lexemes} → SpellsType span_to a0 ts r → (lo hi : ℕ) → Room lo hi ts r → TypeIn a0 lo hi
  type_in named_rule lo hi a = let n = raise a (begins (λ e. cc) here) in n.lies
  type_in qualified_rule lo hi a = let n = raise a (begins (λ e. cc) (drop (drop here))) in n.lies
  type_in (pointer_rule d1) lo hi a = type_in d1 _ _ (skip a (type_by d1 here))
  type_in (slice_type_rule d1) lo hi a = type_in d1 _ _ (skip (skip a (type_by d1 (drop here))) (type_by d1 here))
  type_in (map_type_rule d1 d2) lo hi a =
      let c = cut (skip (skip a (type_by d2 (drop (type_by d1 (drop here))))) (type_by d2 (drop (type_by d1 here)))) (type_by d1 here) (type_by d2 (drop here)) in
      record { mid = c.at; from = c.from; to = c.to; first = type_in d1 _ _ c.left; second = type_in d2 _ _ (skip c.right (type_by d2 here)) }
  type_in (struct_type_rule d1) lo hi a = fields_in d1 _ _ (before (skip (skip a (drop (fields_by d1 (drop here)))) (drop (fields_by d1 here))) (fields_by d1 here) (drop here))
  type_in (type_parens_rule d1) lo hi a = type_in d1 _ _ (before (skip a (drop (type_by d1 here))) (type_by d1 here) (drop here))

  fields_in : {a0 : Fields Span} {ts r : Lexemes} → SpellsFields span_to a0 ts r → (lo hi : ℕ) → Room lo hi ts r → FieldsIn a0 lo hi
  fields_in no_fields_rule lo hi a = high a
  fields_in (last_field_rule d1) lo hi a = fields_by_entries d1 lo hi hi no_fields (high a) (omega arith) (entries_in d1 _ _ a) (omega arith)
  fields_in (more_fields_rule {fs = fs} d1 d2) lo hi a =
      let c = cut a (entries_by d1 here) (fields_by d2 (drop here)) in
      fields_by_entries d1 lo c.at hi fs c.from c.to (entries_in d1 _ _ c.left) (fields_in d2 _ _ (skip c.right (fields_by d2 here)))

  entries_in : {a0 : TypeExpr Span} {a1 : List (Span × NameAt Span)} {ts r : Lexemes} → SpellsEntries span_to a0 a1 ts r → (lo hi : ℕ) → Room lo hi ts r → TypeIn a0 lo hi
  entries_in (last_entry_rule d1) lo hi a = type_in d1 _ _ (skip a (type_by d1 here))
  entries_in (more_entries_rule d1) lo hi a = entries_in d1 _ _ (skip (skip a (entries_by d1 (drop here))) (entries_by d1 here))

rest_in : {a0 : Bool} {a1 : Param Span} {ts r : Lexemes} → SpellsRest span_to a0 a1 ts r → (lo hi : ℕ) → Room lo hi ts r → TypeIn a1.of lo hi
rest_in (rest_rule d1) lo hi a = type_in d1 _ _ (skip a (type_by d1 here))
rest_in (named_rest_rule d1) lo hi a = type_in d1 _ _ (skip (skip a (type_by d1 (drop here))) (type_by d1 here))

-- one parameter alone
one_param : (p : Param Span) (lo hi : ℕ) → lo ≤ hi → TypeIn p.of lo hi → ParamsIn (p ∷ []) lo hi
one_param p lo hi a h = inl (record { mid = hi; from = a; to = omega arith; first = h; second = omega arith })

named_in : {a0 : Bool} {a1 : List (Param Span)} {ts r : Lexemes} → SpellsNamed span_to a0 a1 ts r → (lo hi : ℕ) → Room lo hi ts r → ParamsIn a1 lo hi
named_in (last_named_rule d1) lo hi a = params_by_entries d1 lo hi hi [] (high a) (omega arith) (entries_in d1 _ _ (before a (entries_by d1 here) (drop here))) (omega arith)
named_in (comma_named_rule d1) lo hi a = params_by_entries d1 lo hi hi [] (high a) (omega arith) (entries_in d1 _ _ (before a (entries_by d1 here) (drop (drop here)))) (omega arith)
named_in (more_named_rule {ps = ps} d1 d2) lo hi a =
    let c = cut a (entries_by d1 here) (named_by d2 (drop here)) in
    params_by_entries d1 lo c.at hi ps c.from c.to (entries_in d1 _ _ c.left) (named_in d2 _ _ (skip c.right (named_by d2 here)))
named_in (rest_named_rule {p = p} d1) lo hi a = one_param p lo hi (high a) (rest_in d1 _ _ (before a (rest_by d1 here) (drop here)))
named_in (comma_rest_named_rule {p = p} d1) lo hi a = one_param p lo hi (high a) (rest_in d1 _ _ (before a (rest_by d1 here) (drop (drop here))))

unnamed_in : {a0 : Bool} {a1 : List (Param Span)} {ts r : Lexemes} → SpellsUnnamed span_to a0 a1 ts r → (lo hi : ℕ) → Room lo hi ts r → ParamsIn a1 lo hi
unnamed_in (last_unnamed_rule d1) lo hi a = inl (record { mid = hi; from = high a; to = omega arith; first = type_in d1 _ _ (before a (type_by d1 here) (drop here)); second = omega arith })
unnamed_in (comma_unnamed_rule d1) lo hi a = inl (record { mid = hi; from = high a; to = omega arith; first = type_in d1 _ _ (before a (type_by d1 here) (drop (drop here))); second = omega arith })
unnamed_in (more_unnamed_rule d1 d2) lo hi a =
    let c = cut a (type_by d1 here) (unnamed_by d2 (drop here)) in
    inl (record { mid = c.at; from = c.from; to = c.to; first = type_in d1 _ _ c.left; second = unnamed_in d2 _ _ (skip c.right (unnamed_by d2 here)) })
unnamed_in (rest_unnamed_rule {p = p} d1) lo hi a = one_param p lo hi (high a) (rest_in d1 _ _ (before a (rest_by d1 here) (drop here)))
unnamed_in (comma_rest_unnamed_rule {p = p} d1) lo hi a = one_param p lo hi (high a) (rest_in d1 _ _ (before a (rest_by d1 here) (drop (drop here))))

params_in : {a0 : Bool} {a1 : List (Param Span)} {ts r : Lexemes} → SpellsParams span_to a0 a1 ts r → (lo hi : ℕ) → Room lo hi ts r → ParamsIn a1 lo hi
params_in no_params_rule lo hi a = high a
params_in (named_params_rule d1) lo hi a = named_in d1 _ _ (skip a (named_by d1 here))
params_in (unnamed_params_rule d1) lo hi a = unnamed_in d1 _ _ (skip a (unnamed_by d1 here))

results_in : {a0 : List (Param Span)} {ts r : Lexemes} → SpellsResults span_to a0 ts r → (lo hi : ℕ) → Room lo hi ts r → ParamsIn a0 lo hi
results_in no_results_rule lo hi a = high a
results_in (params_results_rule d1) lo hi a = params_in d1 _ _ a
results_in (type_result_rule d1) lo hi a = inl (record { mid = hi; from = high a; to = omega arith; first = type_in d1 _ _ a; second = omega arith })

pub sig_in : {a0 : Bool} {a1 : Sig Span} {ts r : Lexemes} → SpellsSig span_to a0 a1 ts r → (lo hi : ℕ) → Room lo hi ts r → SigIn a1 lo hi
sig_in (sig_rule d1 d2) lo hi a = let c = cut a (params_by d1 here) (results_by d2 here) in record { mid = c.at; from = c.from; to = c.to; first = params_in d1 _ _ c.left; second = results_in d2 _ _ c.right }

pub names_in : {a0 : List (NameAt Span)} {ts r : Lexemes} → SpellsNames span_to a0 ts r → (lo hi : ℕ) → Room lo hi ts r → NamesIn a0 lo hi
names_in last_name_rule lo hi a = record { mid = hi; from = high a; to = omega arith; first = let n = raise a (begins (λ e. cc) here) in n.lies; second = omega arith }
names_in (more_names_rule d1) lo hi a =
    let c = cut a (later here) (names_by d1 (drop here)) in
    record { mid = c.at; from = c.from; to = c.to; first = let n = raise c.left (begins (λ e. cc) here) in n.lies; second = names_in d1 _ _ (skip c.right (names_by d1 here)) }

pub literal_in : {a0 : Bool} {a1 : TypeExpr Span} {ts r : Lexemes} → SpellsLiteralType span_to a0 a1 ts r → (lo hi : ℕ) → Room lo hi ts r → TypeIn a1 lo hi
literal_in named_literal_rule lo hi a = let n = raise a (begins (λ e. cc) here) in n.lies
literal_in qualified_literal_rule lo hi a = let n = raise a (begins (λ e. cc) (drop (drop here))) in n.lies
literal_in (type_literal_rule d1 d2) lo hi a = type_in d2 _ _ a

-- The types of a part lie where its tokens stand.
use Rattle.std.proofs.Common.{ℕ, Bool, List, [], ◌∷◌}
use Rattle.go_tree.specs.declared.spans.Span.{Span}
use Rattle.go_tree.specs.Tree.{NameAt, TypeExpr, Fields, no_fields, Param, Sig}
use Rattle.go_read.specs.SpellsTypes.{Lexemes, fields_of, params_of, SpellsType, SpellsFields, SpellsEntries, SpellsRest, SpellsNamed, SpellsUnnamed, SpellsParams, SpellsResults, SpellsSig, SpellsNames, named_rule, qualified_rule, pointer_rule, slice_type_rule, map_type_rule, struct_type_rule, type_parens_rule, no_fields_rule, last_field_rule, more_fields_rule, last_entry_rule, more_entries_rule, rest_rule, named_rest_rule, last_named_rule, comma_named_rule, more_named_rule, rest_named_rule, comma_rest_named_rule, last_unnamed_rule, comma_unnamed_rule, more_unnamed_rule, rest_unnamed_rule, comma_rest_unnamed_rule, no_params_rule, named_params_rule, unnamed_params_rule, no_results_rule, params_results_rule, type_result_rule, sig_rule, last_name_rule, more_names_rule}
use Rattle.go_read.specs.SpellsSpans.{span_to}
use Rattle.go_read.specs.Spells.{SpellsLiteralType, named_literal_rule, qualified_literal_rule, type_literal_rule}
use Rattle.splice_laws.proofs.Grafts.{here, later, drop}
use Rattle.splice_laws.proofs.RunLaws.NodeSpans.{AllType, AllFields, AllParams, AllSig, AllNames}
use Rattle.constant_steps.proofs.PlaceMeanings.Behinds.{type_by, fields_by, entries_by, rest_by, named_by, unnamed_by, params_by, results_by, names_by}
use Rattle.constant_steps.proofs.PlaceMeanings.Nested.{Lies}
use Rattle.constant_steps.proofs.PlaceMeanings.Rooms.{Room, before, behind, skip, begins, raise}

entry_fields : (lo hi : ℕ) (es : List (Span × NameAt Span)) (t : TypeExpr Span) (fs : Fields Span) → AllType (Lies lo hi) t → AllFields (Lies lo hi) fs → AllFields (Lies lo hi) (fields_of es t fs)
entry_fields lo hi [] t fs h k = k
entry_fields lo hi (e ∷ es) t fs h k = (h, entry_fields lo hi es t fs h k)

entry_params : (lo hi : ℕ) (es : List (Span × NameAt Span)) (t : TypeExpr Span) (ps : List (Param Span)) → AllType (Lies lo hi) t → AllParams (Lies lo hi) ps → AllParams (Lies lo hi) (params_of es t ps)
entry_params lo hi [] t ps h k = k
entry_params lo hi (e ∷ es) t ps h k = (h, entry_params lo hi es t ps h k)

mutual
  pub type_lies : {a0 : TypeExpr Span} {ts r : Lexemes} → SpellsType span_to a0 ts r → (lo hi : ℕ) → Room lo hi ts r → AllType (Lies lo hi) a0
  type_lies named_rule lo hi a = let n = raise a (begins (λ e. cc) here) in n.lies
  type_lies qualified_rule lo hi a = let n = raise a (begins (λ e. cc) (drop (drop here))) in n.lies
  type_lies (pointer_rule d1) lo hi a = type_lies d1 _ _ (skip a (type_by d1 here))
  type_lies (slice_type_rule d1) lo hi a = type_lies d1 _ _ (skip (skip a (type_by d1 (drop here))) (type_by d1 here))
  type_lies (map_type_rule d1 d2) lo hi a = (type_lies d1 _ _ (before (skip (skip a (type_by d2 (drop (type_by d1 (drop here))))) (type_by d2 (drop (type_by d1 here)))) (type_by d1 here) (type_by d2 (drop here))), type_lies d2 _ _ (skip (behind (skip (skip a (type_by d2 (drop (type_by d1 (drop here))))) (type_by d2 (drop (type_by d1 here)))) (type_by d1 here) (type_by d2 (drop here))) (type_by d2 here)))
  type_lies (struct_type_rule d1) lo hi a = fields_lies d1 _ _ (before (skip (skip a (drop (fields_by d1 (drop here)))) (drop (fields_by d1 here))) (fields_by d1 here) (drop here))
  type_lies (type_parens_rule d1) lo hi a = type_lies d1 _ _ (before (skip a (drop (type_by d1 here))) (type_by d1 here) (drop here))

  fields_lies : {a0 : Fields Span} {ts r : Lexemes} → SpellsFields span_to a0 ts r → (lo hi : ℕ) → Room lo hi ts r → AllFields (Lies lo hi) a0
  fields_lies no_fields_rule lo hi a = tt
  fields_lies (last_field_rule {t = t} {es = es} d1) lo hi a = entry_fields lo hi es t no_fields (entries_lies d1 _ _ a) tt
  fields_lies (more_fields_rule {t = t} {es = es} {fs = fs} d1 d2) lo hi a = entry_fields lo hi es t fs (entries_lies d1 _ _ (before a (entries_by d1 here) (fields_by d2 (drop here)))) (fields_lies d2 _ _ (skip (behind a (entries_by d1 here) (fields_by d2 (drop here))) (fields_by d2 here)))

  entries_lies : {a0 : TypeExpr Span} {a1 : List (Span × NameAt Span)} {ts r : Lexemes} → SpellsEntries span_to a0 a1 ts r → (lo hi : ℕ) → Room lo hi ts r → AllType (Lies lo hi) a0
  entries_lies (last_entry_rule d1) lo hi a = type_lies d1 _ _ (skip a (type_by d1 here))
  entries_lies (more_entries_rule d1) lo hi a = entries_lies d1 _ _ (skip (skip a (entries_by d1 (drop here))) (entries_by d1 here))

rest_lies : {a0 : Bool} {a1 : Param Span} {ts r : Lexemes} → SpellsRest span_to a0 a1 ts r → (lo hi : ℕ) → Room lo hi ts r → AllType (Lies lo hi) a1.of
rest_lies (rest_rule d1) lo hi a = type_lies d1 _ _ (skip a (type_by d1 here))
rest_lies (named_rest_rule d1) lo hi a = type_lies d1 _ _ (skip (skip a (type_by d1 (drop here))) (type_by d1 here))

named_lies : {a0 : Bool} {a1 : List (Param Span)} {ts r : Lexemes} → SpellsNamed span_to a0 a1 ts r → (lo hi : ℕ) → Room lo hi ts r → AllParams (Lies lo hi) a1
named_lies (last_named_rule {t = t} {es = es} d1) lo hi a = entry_params lo hi es t [] (entries_lies d1 _ _ (before a (entries_by d1 here) (drop here))) tt
named_lies (comma_named_rule {t = t} {es = es} d1) lo hi a = entry_params lo hi es t [] (entries_lies d1 _ _ (before a (entries_by d1 here) (drop (drop here)))) tt
named_lies (more_named_rule {t = t} {es = es} {ps = ps} d1 d2) lo hi a = entry_params lo hi es t ps (entries_lies d1 _ _ (before a (entries_by d1 here) (named_by d2 (drop here)))) (named_lies d2 _ _ (skip (behind a (entries_by d1 here) (named_by d2 (drop here))) (named_by d2 here)))
named_lies (rest_named_rule d1) lo hi a = (rest_lies d1 _ _ (before a (rest_by d1 here) (drop here)), tt)
named_lies (comma_rest_named_rule d1) lo hi a = (rest_lies d1 _ _ (before a (rest_by d1 here) (drop (drop here))), tt)

unnamed_lies : {a0 : Bool} {a1 : List (Param Span)} {ts r : Lexemes} → SpellsUnnamed span_to a0 a1 ts r → (lo hi : ℕ) → Room lo hi ts r → AllParams (Lies lo hi) a1
unnamed_lies (last_unnamed_rule d1) lo hi a = (type_lies d1 _ _ (before a (type_by d1 here) (drop here)), tt)
unnamed_lies (comma_unnamed_rule d1) lo hi a = (type_lies d1 _ _ (before a (type_by d1 here) (drop (drop here))), tt)
unnamed_lies (more_unnamed_rule d1 d2) lo hi a = (type_lies d1 _ _ (before a (type_by d1 here) (unnamed_by d2 (drop here))), unnamed_lies d2 _ _ (skip (behind a (type_by d1 here) (unnamed_by d2 (drop here))) (unnamed_by d2 here)))
unnamed_lies (rest_unnamed_rule d1) lo hi a = (rest_lies d1 _ _ (before a (rest_by d1 here) (drop here)), tt)
unnamed_lies (comma_rest_unnamed_rule d1) lo hi a = (rest_lies d1 _ _ (before a (rest_by d1 here) (drop (drop here))), tt)

params_lies : {a0 : Bool} {a1 : List (Param Span)} {ts r : Lexemes} → SpellsParams span_to a0 a1 ts r → (lo hi : ℕ) → Room lo hi ts r → AllParams (Lies lo hi) a1
params_lies no_params_rule lo hi a = tt
params_lies (named_params_rule d1) lo hi a = named_lies d1 _ _ (skip a (named_by d1 here))
params_lies (unnamed_params_rule d1) lo hi a = unnamed_lies d1 _ _ (skip a (unnamed_by d1 here))

results_lies : {a0 : List (Param Span)} {ts r : Lexemes} → SpellsResults span_to a0 ts r → (lo hi : ℕ) → Room lo hi ts r → AllParams (Lies lo hi) a0
results_lies no_results_rule lo hi a = tt
results_lies (params_results_rule d1) lo hi a = params_lies d1 _ _ a
results_lies (type_result_rule d1) lo hi a = (type_lies d1 _ _ a, tt)

pub sig_lies : {a0 : Bool} {a1 : Sig Span} {ts r : Lexemes} → SpellsSig span_to a0 a1 ts r → (lo hi : ℕ) → Room lo hi ts r → AllSig (Lies lo hi) a1
sig_lies (sig_rule d1 d2) lo hi a = (params_lies d1 _ _ (before a (params_by d1 here) (results_by d2 here)), results_lies d2 _ _ (behind a (params_by d1 here) (results_by d2 here)))

pub names_lies : {a0 : List (NameAt Span)} {ts r : Lexemes} → SpellsNames span_to a0 ts r → (lo hi : ℕ) → Room lo hi ts r → AllNames (Lies lo hi) a0
names_lies last_name_rule lo hi a = (let n = raise a (begins (λ e. cc) here) in n.lies, tt)
names_lies (more_names_rule d1) lo hi a = (let n = raise (before a (later here) (names_by d1 (drop here))) (begins (λ e. cc) here) in n.lies, names_lies d1 _ _ (skip (skip a (names_by d1 (drop here))) (names_by d1 here)))

pub literal_lies : {a0 : Bool} {a1 : TypeExpr Span} {ts r : Lexemes} → SpellsLiteralType span_to a0 a1 ts r → (lo hi : ℕ) → Room lo hi ts r → AllType (Lies lo hi) a1
literal_lies named_literal_rule lo hi a = let n = raise a (begins (λ e. cc) here) in n.lies
literal_lies qualified_literal_rule lo hi a = let n = raise a (begins (λ e. cc) (drop (drop here))) in n.lies
literal_lies (type_literal_rule d1 d2) lo hi a = type_lies d2 _ _ a

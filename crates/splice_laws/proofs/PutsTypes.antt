-- Tokens that spell a type or a signature, with those of one node replaced, spell it with that node replaced.
use Rattle.std.proofs.Common.{◌≡◌, Bool, true, false, List, [], ◌∷◌, map, Option, Some, None, refl, sym, ap, subst, ◌∙◌}
use Rattle.go_tree.specs.declared.spans.Span.{Span}
use Rattle.go_tree.specs.declared.operators.BinOp.TheVariants.{Mul}
use Rattle.go_tree.specs.Tree.{NameAt, TypeExpr, Fields, no_fields, field, Param, Sig}
use Rattle.go_tree.specs.Bare.{bare_name, bare_type, bare_fields, bare_param, bare_sig}
use Rattle.go_tree.specs.GoWords.Terminals.{lex, ident, binary_op, comma, semicolon, ellipsis, paren, end_paren, bracket, end_bracket, brace, end_brace, key_map, key_struct}
use Rattle.go_read.specs.SpellsTypes.{Lexemes, params_of, fields_of, SpellsFields, no_fields_rule, last_field_rule, more_fields_rule, SpellsType, SpellsEntries, last_entry_rule, more_entries_rule, SpellsRest, rest_rule, named_rest_rule, SpellsNamed, rest_named_rule, comma_rest_named_rule, SpellsUnnamed, rest_unnamed_rule, comma_rest_unnamed_rule, SpellsParams, SpellsResults, SpellsSig, last_named_rule, comma_named_rule, more_named_rule, last_unnamed_rule, comma_unnamed_rule, more_unnamed_rule, no_params_rule, named_params_rule, unnamed_params_rule, no_results_rule, params_results_rule, type_result_rule, sig_rule, named_rule, qualified_rule, pointer_rule, slice_type_rule, map_type_rule, struct_type_rule, type_parens_rule}
use Rattle.go_read.specs.Spells.{SpellsLiteralType, named_literal_rule, qualified_literal_rule, type_literal_rule}
use Rattle.go_read.specs.Bareness.{nowhere}
use Rattle.go_read.proofs.SpansAside as aside
use Rattle.splice_laws.specs.Swaps.{Swap, TypeIn, this_type, inside_type, PartOfType, in_pointer, in_slice_type, in_map_key, in_map_value, in_struct, OtherField, FieldsIn, in_field, in_later_fields, ParamsIn, in_unnamed, in_later_params, SigIn, in_params, in_results, OtherFirst, OtherBefore, FieldsAlike, no_more_alike, one_more_alike, ParamsAlike, no_more_params, one_more_param, NamedIn, in_named, in_named_rest, in_later_named, in_named_params, in_named_results, LiteralTypeIn, this_literal_type, inside_literal_type}
use Rattle.splice_laws.specs.Ends.{ends_node}
use Rattle.splice_laws.proofs.Grafts.{Within, drop, U, Like, step, joined, starts_alike}
use Rattle.splice_laws.proofs.Frames.{type_frame, params_frame, entries_frame}
use Rattle.splice_laws.proofs.PutsAt.{PutIn, never, forget, bracket_mark, type_now, literal_now}
use Rattle.splice_laws.proofs.Apart.{Differ, fields_other, params_other}
use Rattle.splice_laws.proofs.Pasts.{entries_past, params_past, type_past}

module _ {S : Type 0} (mark : Lexemes → Lexemes → S) (whole : Lexemes) (differ : Differ mark whole) (w : Swap S) where
  abbrev Put : (Lexemes → Lexemes → Type 0) → Lexemes → Lexemes → Type 0
  Put A ts r = PutIn mark w A ts r

  -- ---- fields

  abbrev bare_entries : List (S × NameAt S) → List (U × NameAt U)
  bare_entries [] = []
  bare_entries (e ∷ es) = (tt, bare_name e.1) ∷ bare_entries es

  bare_fields_of : (es : List (S × NameAt S)) (t : TypeExpr S) (fs : Fields S) → bare_fields (fields_of es t fs) ≡ fields_of (bare_entries es) (bare_type t) (bare_fields fs)
  bare_fields_of [] t fs = refl
  bare_fields_of (e ∷ es) t fs = ap (λ (gs : Fields U). field tt (bare_name e.1) (bare_type t) gs) (bare_fields_of es t fs)

  -- the type that the first group of names shares is swapped, or the swap is behind it
  data FieldSplit (before : Option (TypeExpr S)) (t : TypeExpr S) (fs : Fields S) (es : List (S × NameAt S)) : Fields S → Type 0 where
    field_here : {u : TypeExpr S} → OtherBefore before t → TypeIn w t u → FieldSplit before t fs es (fields_of es u fs)
    field_later : {gs : Fields S} → FieldsIn w (Some t) fs gs → FieldSplit before t fs es (fields_of es t gs)

  fields_same : {before : Option (TypeExpr S)} {t u : TypeExpr S} {fs gs : Fields S} (es : List (S × NameAt S)) → gs ≡ fields_of es u fs → OtherBefore before t → TypeIn w t u → FieldSplit before t fs es gs
  fields_same {before} {t} {u} {fs} {gs} es e q p = subst (λ (v : Fields S). FieldSplit before t fs es v) (sym e) (field_here q p)

  run_none : {t u : TypeExpr S} {fs gs : Fields S} → OtherField t fs → FieldsAlike t u fs gs → gs ≡ fs
  run_none o (no_more_alike q) = refl
  run_none o (one_more_alike r) = absurd (o refl)

  run_over : {t t2 u : TypeExpr S} {es : List (S × NameAt S)} {ts r : Lexemes} (fs : Fields S) → SpellsEntries mark t es ts r → t ≡ t2 → OtherField t2 fs → (gs : Fields S) → FieldsAlike t2 u (fields_of es t fs) gs → gs ≡ fields_of es u fs
  run_over fs (last_entry_rule d1) e o _ (no_more_alike q) = absurd (q e)
  run_over {u = u} fs (last_entry_rule d1) e o _ (one_more_alike {s = y} {n = m} r) = ap (field y m u) (run_none o r)
  run_over fs (more_entries_rule d1) e o _ (no_more_alike q) = absurd (q e)
  run_over {u = u} fs (more_entries_rule d1) e o _ (one_more_alike {s = y} {n = m} {gs = gs} r) = ap (field y m u) (run_over fs d1 e o gs r)

  field_again : {before : Option (TypeExpr S)} {t : TypeExpr S} {fs : Fields S} {es : List (S × NameAt S)} {gs : Fields S} (e : S × NameAt S) → FieldSplit (Some t) t fs es gs → FieldSplit before t fs (e ∷ es) (field e.0 e.1 t gs)
  field_again e (field_here q p) = absurd (q refl)
  field_again e (field_later p) = field_later p

  field_split : {t : TypeExpr S} {es : List (S × NameAt S)} {ts r : Lexemes} (fs : Fields S) → SpellsEntries mark t es ts r → OtherField t fs → (before : Option (TypeExpr S)) (gs : Fields S) → FieldsIn w before (fields_of es t fs) gs → FieldSplit before t fs es gs
  field_split fs (last_entry_rule d1) o before _ (in_field {s = y} {n = m} {u = u} q p run) = fields_same ((y, m) ∷ []) (ap (field y m u) (run_none o run)) q p
  field_split fs (last_entry_rule d1) o before _ (in_later_fields p) = field_later p
  field_split fs (more_entries_rule {es = es} d1) o before _ (in_field {s = y} {n = m} {u = u} {gs = gs} q p run) = fields_same ((y, m) ∷ es) (ap (field y m u) (run_over fs d1 refl o gs run)) q p
  field_split {t = t} fs (more_entries_rule d1) o before _ (in_later_fields {gs = gs} p) = field_again _ (field_split fs d1 o (Some t) gs p)

  last_field_put : {before : Option (TypeExpr S)} {t : TypeExpr S} {es : List (S × NameAt S)} {gs : Fields S} {b : Span} {ts r : Lexemes} → FieldSplit before t no_fields es gs → ((u : TypeExpr S) → TypeIn w t u → Put (SpellsEntries nowhere (bare_type u) (bare_entries es)) ts (lex b end_brace ∷ r)) → Put (SpellsFields nowhere (bare_fields gs)) ts (lex b end_brace ∷ r)
  last_field_put {es = es} {b = b} {r = r} (field_here {u = u} q p) one = let x = one u p in record { node = x.node; rest = x.rest; old = x.old; marked = x.marked; follows = x.follows; ends = let z = x.ends in (z.0, z.1); new = λ n2 f2. let z = x.new n2 f2 in (z.0, z.1, subst (λ (v : Fields U). SpellsFields nowhere v z.0 (lex b end_brace ∷ r)) (sym (bare_fields_of es u no_fields)) (last_field_rule z.2)) }
  last_field_put (field_later p) one = elim p [ ]

  more_field_put : {before : Option (TypeExpr S)} {t : TypeExpr S} {es : List (S × NameAt S)} {fs gs : Fields S} {c : Span} {ts mid r : Lexemes} → FieldSplit before t fs es gs → SpellsEntries mark t es ts (lex c semicolon ∷ mid) → SpellsFields mark fs mid r
      → ((u : TypeExpr S) → TypeIn w t u → Put (SpellsEntries nowhere (bare_type u) (bare_entries es)) ts (lex c semicolon ∷ mid))
      → ((gs2 : Fields S) → FieldsIn w (Some t) fs gs2 → Put (SpellsFields nowhere (bare_fields gs2)) mid r) → Put (SpellsFields nowhere (bare_fields gs)) ts r
  more_field_put {es = es} {fs = fs} {r = r} (field_here {u = u} q p) d1 d2 one f = let x = one u p in record { node = x.node; rest = x.rest; old = x.old; marked = x.marked; follows = x.follows; ends = let z = x.ends in (z.0, z.1); new = λ n2 f2. let z = x.new n2 f2 in (z.0, z.1, subst (λ (v : Fields U). SpellsFields nowhere v z.0 r) (sym (bare_fields_of es u fs)) (more_fields_rule z.2 (aside.fields_bare mark d2))) }
  more_field_put {t = t} {es = es} {c = c} {r = r} (field_later {gs = gs} p) d1 d2 one f = let x = f gs p in record { node = x.node; rest = x.rest; old = x.old; marked = x.marked; follows = x.follows; ends = let z = x.ends in let y0 = entries_frame (aside.entries_bare mark d1) (lex c semicolon ∷ z.0) in (y0.0, (joined y0.1 (step z.1))); new = λ n2 f2. let z = x.new n2 f2 in let y0 = entries_frame (aside.entries_bare mark d1) (lex c semicolon ∷ z.0) in (y0.0, (joined y0.1 (step z.1)), subst (λ (v : Fields U). SpellsFields nowhere v y0.0 r) (sym (bare_fields_of es t gs)) (more_fields_rule y0.2 z.2)) }

  mutual
    pub type_put : {t u : TypeExpr S} {ts r : Lexemes} → SpellsType mark t ts r → Within ts whole → TypeIn w t u → ends_node r ≡ true → Put (SpellsType nowhere (bare_type u)) ts r
    type_put (type_parens_rule {s = s} d1) a p k = let x = type_put d1 (drop a) p refl in record { node = x.node; rest = x.rest; old = x.old; marked = x.marked; follows = x.follows; ends = let z = x.ends in ((lex s paren ∷ z.0), (step z.1)); new = λ n2 f2. let z = x.new n2 f2 in ((lex s paren ∷ z.0), (step z.1), type_parens_rule z.2) }
    type_put named_rule a (this_type e) k = type_now mark w e refl named_rule k
    type_put named_rule a (inside_type p) k = elim p [ ]
    type_put qualified_rule a (this_type e) k = type_now mark w e refl qualified_rule k
    type_put qualified_rule a (inside_type p) k = elim p [ ]
    type_put (pointer_rule d1) a (this_type e) k = type_now mark w e refl (pointer_rule d1) k
    type_put (pointer_rule {s = s} d1) a (inside_type (in_pointer p)) k = forget mark w (let x = type_put d1 (drop a) p k in record { node = x.node; rest = x.rest; old = x.old; marked = x.marked; follows = x.follows; ends = let z = x.ends in ((lex s (binary_op Mul) ∷ z.0), (step z.1)); new = λ n2 f2. let z = x.new n2 f2 in ((lex s (binary_op Mul) ∷ z.0), (step z.1), (refl, pointer_rule z.2)) })
    type_put (slice_type_rule d1) a (this_type e) k = type_now mark w e refl (slice_type_rule d1) k
    type_put (slice_type_rule {s = s} {e = e} d1) a (inside_type (in_slice_type p)) k = forget mark w (let x = type_put d1 (drop (drop a)) p k in record { node = x.node; rest = x.rest; old = x.old; marked = x.marked; follows = x.follows; ends = let z = x.ends in ((lex s bracket ∷ lex e end_bracket ∷ z.0), (step (step z.1))); new = λ n2 f2. let z = x.new n2 f2 in ((lex s bracket ∷ lex e end_bracket ∷ z.0), (step (step z.1)), (refl, slice_type_rule z.2)) })
    type_put (map_type_rule d1 d2) a (this_type e) k = type_now mark w e refl (map_type_rule d1 d2) k
    type_put (map_type_rule {s = s} {b = b} d1 d2) a (inside_type (in_map_key p)) k = forget mark w (let x = type_put d1 (drop (drop a)) p refl in record { node = x.node; rest = x.rest; old = x.old; marked = x.marked; follows = x.follows; ends = let z = x.ends in ((lex s key_map ∷ lex b bracket ∷ z.0), (step (step z.1))); new = λ n2 f2. let z = x.new n2 f2 in ((lex s key_map ∷ lex b bracket ∷ z.0), (step (step z.1)), (refl, map_type_rule z.2 (aside.type_bare mark d2))) })
    type_put (map_type_rule {s = s} {b = b} {e = e} d1 d2) a (inside_type (in_map_value p)) k = forget mark w (let x = type_put d2 (drop (type_past mark whole d1 (drop (drop a)))) p k in record { node = x.node; rest = x.rest; old = x.old; marked = x.marked; follows = x.follows; ends = let z = x.ends in let y0 = type_frame (aside.type_bare mark d1) (lex e end_bracket ∷ z.0) in ((lex s key_map ∷ lex b bracket ∷ y0.0), (step (step (joined y0.1 (step z.1))))); new = λ n2 f2. let z = x.new n2 f2 in let y0 = type_frame (aside.type_bare mark d1) (lex e end_bracket ∷ z.0) in ((lex s key_map ∷ lex b bracket ∷ y0.0), (step (step (joined y0.1 (step z.1)))), (refl, map_type_rule y0.2 z.2)) })
    type_put (struct_type_rule d1) a (this_type e) k = type_now mark w e refl (struct_type_rule d1) k
    type_put (struct_type_rule {s = s} {b = b} d1) a (inside_type (in_struct p)) k = forget mark w (let x = fields_put d1 (drop (drop a)) None _ p in record { node = x.node; rest = x.rest; old = x.old; marked = x.marked; follows = x.follows; ends = let z = x.ends in ((lex s key_struct ∷ lex b brace ∷ z.0), (step (step z.1))); new = λ n2 f2. let z = x.new n2 f2 in ((lex s key_struct ∷ lex b brace ∷ z.0), (step (step z.1)), (refl, struct_type_rule z.2)) })

    pub type_part_put : {t u : TypeExpr S} {ts r : Lexemes} → SpellsType mark t ts r → Within ts whole → PartOfType w t u → ends_node r ≡ true → Put (λ us q. Like ts us × SpellsType nowhere (bare_type u) us q) ts r
    type_part_put (type_parens_rule {s = s} d1) a p k = let x = type_part_put d1 (drop a) p refl in record { node = x.node; rest = x.rest; old = x.old; marked = x.marked; follows = x.follows; ends = let z = x.ends in ((lex s paren ∷ z.0), (step z.1)); new = λ n2 f2. let z = x.new n2 f2 in ((lex s paren ∷ z.0), (step z.1), (refl, type_parens_rule z.2.1)) }
    type_part_put (pointer_rule {s = s} d1) a (in_pointer p) k = let x = type_put d1 (drop a) p k in record { node = x.node; rest = x.rest; old = x.old; marked = x.marked; follows = x.follows; ends = let z = x.ends in ((lex s (binary_op Mul) ∷ z.0), (step z.1)); new = λ n2 f2. let z = x.new n2 f2 in ((lex s (binary_op Mul) ∷ z.0), (step z.1), (refl, pointer_rule z.2)) }
    type_part_put (slice_type_rule {s = s} {e = e} d1) a (in_slice_type p) k = let x = type_put d1 (drop (drop a)) p k in record { node = x.node; rest = x.rest; old = x.old; marked = x.marked; follows = x.follows; ends = let z = x.ends in ((lex s bracket ∷ lex e end_bracket ∷ z.0), (step (step z.1))); new = λ n2 f2. let z = x.new n2 f2 in ((lex s bracket ∷ lex e end_bracket ∷ z.0), (step (step z.1)), (refl, slice_type_rule z.2)) }
    type_part_put (map_type_rule {s = s} {b = b} d1 d2) a (in_map_key p) k = let x = type_put d1 (drop (drop a)) p refl in record { node = x.node; rest = x.rest; old = x.old; marked = x.marked; follows = x.follows; ends = let z = x.ends in ((lex s key_map ∷ lex b bracket ∷ z.0), (step (step z.1))); new = λ n2 f2. let z = x.new n2 f2 in ((lex s key_map ∷ lex b bracket ∷ z.0), (step (step z.1)), (refl, map_type_rule z.2 (aside.type_bare mark d2))) }
    type_part_put (map_type_rule {s = s} {b = b} {e = e} d1 d2) a (in_map_value p) k = let x = type_put d2 (drop (type_past mark whole d1 (drop (drop a)))) p k in record { node = x.node; rest = x.rest; old = x.old; marked = x.marked; follows = x.follows; ends = let z = x.ends in let y0 = type_frame (aside.type_bare mark d1) (lex e end_bracket ∷ z.0) in ((lex s key_map ∷ lex b bracket ∷ y0.0), (step (step (joined y0.1 (step z.1))))); new = λ n2 f2. let z = x.new n2 f2 in let y0 = type_frame (aside.type_bare mark d1) (lex e end_bracket ∷ z.0) in ((lex s key_map ∷ lex b bracket ∷ y0.0), (step (step (joined y0.1 (step z.1)))), (refl, map_type_rule y0.2 z.2)) }
    type_part_put named_rule a p k = elim p [ ]
    type_part_put qualified_rule a p k = elim p [ ]
    type_part_put (struct_type_rule {s = s} {b = b} d1) a (in_struct p) k = let x = fields_put d1 (drop (drop a)) None _ p in record { node = x.node; rest = x.rest; old = x.old; marked = x.marked; follows = x.follows; ends = let z = x.ends in ((lex s key_struct ∷ lex b brace ∷ z.0), (step (step z.1))); new = λ n2 f2. let z = x.new n2 f2 in ((lex s key_struct ∷ lex b brace ∷ z.0), (step (step z.1)), (refl, struct_type_rule z.2)) }

    pub fields_put : {fs : Fields S} {ts r : Lexemes} → SpellsFields mark fs ts r → Within ts whole → (before : Option (TypeExpr S)) (gs : Fields S) → FieldsIn w before fs gs → Put (SpellsFields nowhere (bare_fields gs)) ts r
    fields_put no_fields_rule a before gs p = elim p [ ]
    fields_put (last_field_rule d1) a before gs p = last_field_put (field_split no_fields d1 tt before gs p) (λ u m. entries_put d1 a m refl)
    fields_put (more_fields_rule {t = t} {fs = fs} d1 d2) a before gs p = more_field_put (field_split fs d1 (fields_other mark whole differ d1 d2 a) before gs p) d1 d2 (λ u m. entries_put d1 a m refl) (λ gs2 m. fields_put d2 (drop (entries_past mark whole d1 a)) (Some t) gs2 m)

    pub entries_put : {t u : TypeExpr S} {es : List (S × NameAt S)} {ts r : Lexemes} → SpellsEntries mark t es ts r → Within ts whole → TypeIn w t u → ends_node r ≡ true → Put (SpellsEntries nowhere (bare_type u) (bare_entries es)) ts r
    entries_put (last_entry_rule {s = s} {n = n} d1) a p k = let x = type_put d1 (drop a) p k in record { node = x.node; rest = x.rest; old = x.old; marked = x.marked; follows = x.follows; ends = let z = x.ends in ((lex s (ident n) ∷ z.0), (step z.1)); new = λ n2 f2. let z = x.new n2 f2 in ((lex s (ident n) ∷ z.0), (step z.1), last_entry_rule z.2) }
    entries_put (more_entries_rule {s = s} {c = c} {n = n} d1) a p k = let x = entries_put d1 (drop (drop a)) p k in record { node = x.node; rest = x.rest; old = x.old; marked = x.marked; follows = x.follows; ends = let z = x.ends in ((lex s (ident n) ∷ lex c comma ∷ z.0), (step (step z.1))); new = λ n2 f2. let z = x.new n2 f2 in ((lex s (ident n) ∷ lex c comma ∷ z.0), (step (step z.1)), more_entries_rule z.2) }

  pub literal_put : {h j : Bool} {t u : TypeExpr S} {ts r : Lexemes} → SpellsLiteralType mark j t ts r → Within ts whole → LiteralTypeIn w h t u → (j ≡ true → h ≡ true) → ends_node r ≡ true → Put (SpellsLiteralType nowhere j (bare_type u)) ts r
  literal_put named_literal_rule a (this_literal_type e) q k = literal_now mark w e q refl named_literal_rule k
  literal_put named_literal_rule a (inside_literal_type p) q k = elim p [ ]
  literal_put qualified_literal_rule a (this_literal_type e) q k = literal_now mark w e q refl qualified_literal_rule k
  literal_put qualified_literal_rule a (inside_literal_type p) q k = elim p [ ]
  literal_put (type_literal_rule d1 d2) a (this_literal_type e) q k = literal_now mark w e q (bracket_mark mark w d2 d1) (type_literal_rule d1 d2) k
  literal_put (type_literal_rule {ts = ts} d1 d2) a (inside_literal_type p) q k = let x = type_part_put d2 a p k in record { node = x.node; rest = x.rest; old = x.old; marked = x.marked; follows = x.follows; ends = x.ends; new = λ n2 f2. let z = x.new n2 f2 in (z.0, z.1, type_literal_rule (starts_alike ts z.0 z.2.0 ∙ d1) z.2.1) }

  -- ---- parameters and results without names

  abbrev has_name : Option (NameAt S) → Bool
  has_name None = false
  has_name (Some n) = true

  abbrev AllNamed : List (Param S) → Type 0
  AllNamed [] = Unit {0}
  AllNamed (p ∷ ps) = (has_name p.name ≡ true) × AllNamed ps

  params_named : (es : List (S × NameAt S)) (t : TypeExpr S) (ps : List (Param S)) → AllNamed ps → AllNamed (params_of es t ps)
  params_named [] t ps h = h
  params_named (e ∷ es) t ps h = (refl, params_named es t ps h)

  rest_named : {named : Bool} {p : Param S} {ts r : Lexemes} → SpellsRest mark named p ts r → has_name p.name ≡ named
  rest_named (rest_rule d1) = refl
  rest_named (named_rest_rule d1) = refl

  named_named : {v : Bool} {ps : List (Param S)} {ts r : Lexemes} → SpellsNamed mark v ps ts r → AllNamed ps
  named_named (last_named_rule {t = t} {es = es} d1) = params_named es t [] tt
  named_named (comma_named_rule {t = t} {es = es} d1) = params_named es t [] tt
  named_named (more_named_rule {t = t} {es = es} {ps = ps} d1 d2) = params_named es t ps (named_named d2)
  named_named (rest_named_rule d1) = (rest_named d1, tt)
  named_named (comma_rest_named_rule d1) = (rest_named d1, tt)

  none_unnamed : {ps qs : List (Param S)} → ParamsIn w ps qs → AllNamed ps → ⊥
  none_unnamed (in_unnamed p) h = never h.0
  none_unnamed (in_later_params p) h = none_unnamed p h.1

  rest_put : {s : S} {t u : TypeExpr S} {ts r : Lexemes} → SpellsRest mark false (record { span = s; name = None; rest = true; of = t }) ts r → Within ts whole → TypeIn w t u → ends_node r ≡ true → Put (SpellsRest nowhere false (record { span = tt; name = None; rest = true; of = bare_type u })) ts r
  rest_put (rest_rule {d = d} d1) a p k = let x = type_put d1 (drop a) p k in record { node = x.node; rest = x.rest; old = x.old; marked = x.marked; follows = x.follows; ends = let z = x.ends in ((lex d ellipsis ∷ z.0), (step z.1)); new = λ n2 f2. let z = x.new n2 f2 in ((lex d ellipsis ∷ z.0), (step z.1), rest_rule z.2) }

  named_rest_put : {s : S} {n : NameAt S} {t u : TypeExpr S} {ts r : Lexemes} → SpellsRest mark true (record { span = s; name = Some n; rest = true; of = t }) ts r → Within ts whole → TypeIn w t u → ends_node r ≡ true → Put (SpellsRest nowhere true (record { span = tt; name = Some (bare_name n); rest = true; of = bare_type u })) ts r
  named_rest_put (named_rest_rule {s = s} {d = d} {n = n} d1) a p k = let x = type_put d1 (drop (drop a)) p k in record { node = x.node; rest = x.rest; old = x.old; marked = x.marked; follows = x.follows; ends = let z = x.ends in ((lex s (ident n) ∷ lex d ellipsis ∷ z.0), (step (step z.1))); new = λ n2 f2. let z = x.new n2 f2 in ((lex s (ident n) ∷ lex d ellipsis ∷ z.0), (step (step z.1)), named_rest_rule z.2) }

  last_rest_put : {p : Param S} {qs : List (Param S)} {e : Span} {ts r : Lexemes} → SpellsRest mark false p ts (lex e end_paren ∷ r) → Within ts whole → ParamsIn w (p ∷ []) qs → Put (SpellsUnnamed nowhere true (map bare_param qs)) ts r
  last_rest_put (rest_rule d1) a (in_unnamed p) = let x = rest_put (rest_rule d1) a p refl in record { node = x.node; rest = x.rest; old = x.old; marked = x.marked; follows = x.follows; ends = let z = x.ends in (z.0, z.1); new = λ n2 f2. let z = x.new n2 f2 in (z.0, z.1, rest_unnamed_rule z.2) }
  last_rest_put (rest_rule d1) a (in_later_params p) = elim p [ ]

  comma_rest_put : {p : Param S} {qs : List (Param S)} {c e : Span} {ts r : Lexemes} → SpellsRest mark false p ts (lex c comma ∷ lex e end_paren ∷ r) → Within ts whole → ParamsIn w (p ∷ []) qs → Put (SpellsUnnamed nowhere true (map bare_param qs)) ts r
  comma_rest_put (rest_rule d1) a (in_unnamed p) = let x = rest_put (rest_rule d1) a p refl in record { node = x.node; rest = x.rest; old = x.old; marked = x.marked; follows = x.follows; ends = let z = x.ends in (z.0, z.1); new = λ n2 f2. let z = x.new n2 f2 in (z.0, z.1, comma_rest_unnamed_rule z.2) }
  comma_rest_put (rest_rule d1) a (in_later_params p) = elim p [ ]

  unnamed_put : {v : Bool} {ps qs : List (Param S)} {ts r : Lexemes} → SpellsUnnamed mark v ps ts r → Within ts whole → ParamsIn w ps qs → Put (SpellsUnnamed nowhere v (map bare_param qs)) ts r
  unnamed_put (last_unnamed_rule d1) a (in_unnamed p) = let x = type_put d1 a p refl in record { node = x.node; rest = x.rest; old = x.old; marked = x.marked; follows = x.follows; ends = let z = x.ends in (z.0, z.1); new = λ n2 f2. let z = x.new n2 f2 in (z.0, z.1, last_unnamed_rule z.2) }
  unnamed_put (last_unnamed_rule d1) a (in_later_params p) = elim p [ ]
  unnamed_put (comma_unnamed_rule d1) a (in_unnamed p) = let x = type_put d1 a p refl in record { node = x.node; rest = x.rest; old = x.old; marked = x.marked; follows = x.follows; ends = let z = x.ends in (z.0, z.1); new = λ n2 f2. let z = x.new n2 f2 in (z.0, z.1, comma_unnamed_rule z.2) }
  unnamed_put (comma_unnamed_rule d1) a (in_later_params p) = elim p [ ]
  unnamed_put (more_unnamed_rule d1 d2) a (in_unnamed p) = let x = type_put d1 a p refl in record { node = x.node; rest = x.rest; old = x.old; marked = x.marked; follows = x.follows; ends = let z = x.ends in (z.0, z.1); new = λ n2 f2. let z = x.new n2 f2 in (z.0, z.1, more_unnamed_rule z.2 (aside.unnamed_bare mark d2)) }
  unnamed_put (more_unnamed_rule {c = c} d1 d2) a (in_later_params p) = let x = unnamed_put d2 (drop (type_past mark whole d1 a)) p in record { node = x.node; rest = x.rest; old = x.old; marked = x.marked; follows = x.follows; ends = let z = x.ends in let y0 = type_frame (aside.type_bare mark d1) (lex c comma ∷ z.0) in (y0.0, (joined y0.1 (step z.1))); new = λ n2 f2. let z = x.new n2 f2 in let y0 = type_frame (aside.type_bare mark d1) (lex c comma ∷ z.0) in (y0.0, (joined y0.1 (step z.1)), more_unnamed_rule y0.2 z.2) }
  unnamed_put (rest_unnamed_rule d1) a p = last_rest_put d1 a p
  unnamed_put (comma_rest_unnamed_rule d1) a p = comma_rest_put d1 a p

  params_put : {v : Bool} {ps qs : List (Param S)} {ts r : Lexemes} → SpellsParams mark v ps ts r → Within ts whole → ParamsIn w ps qs → Put (SpellsParams nowhere v (map bare_param qs)) ts r
  params_put no_params_rule a p = elim p [ ]
  params_put (named_params_rule d1) a p = absurd (none_unnamed p (named_named d1))
  params_put (unnamed_params_rule {s = s} d1) a p = let x = unnamed_put d1 (drop a) p in record { node = x.node; rest = x.rest; old = x.old; marked = x.marked; follows = x.follows; ends = let z = x.ends in ((lex s paren ∷ z.0), (step z.1)); new = λ n2 f2. let z = x.new n2 f2 in ((lex s paren ∷ z.0), (step z.1), unnamed_params_rule z.2) }

  results_put : {ps qs : List (Param S)} {ts r : Lexemes} → SpellsResults mark ps ts r → Within ts whole → ParamsIn w ps qs → ends_node r ≡ true → Put (SpellsResults nowhere (map bare_param qs)) ts r
  results_put no_results_rule a p k = elim p [ ]
  results_put (params_results_rule d1) a p k = let x = params_put d1 a p in record { node = x.node; rest = x.rest; old = x.old; marked = x.marked; follows = x.follows; ends = let z = x.ends in (z.0, z.1); new = λ n2 f2. let z = x.new n2 f2 in (z.0, z.1, params_results_rule z.2) }
  results_put (type_result_rule d1) a (in_unnamed p) k = let x = type_put d1 a p k in record { node = x.node; rest = x.rest; old = x.old; marked = x.marked; follows = x.follows; ends = let z = x.ends in (z.0, z.1); new = λ n2 f2. let z = x.new n2 f2 in (z.0, z.1, type_result_rule z.2) }
  results_put (type_result_rule d1) a (in_later_params p) k = elim p [ ]

  -- ---- parameters and results with names

  abbrev AllUnnamed : List (Param S) → Type 0
  AllUnnamed [] = Unit {0}
  AllUnnamed (p ∷ ps) = (has_name p.name ≡ false) × AllUnnamed ps

  unnamed_unnamed : {v : Bool} {ps : List (Param S)} {ts r : Lexemes} → SpellsUnnamed mark v ps ts r → AllUnnamed ps
  unnamed_unnamed (last_unnamed_rule d1) = (refl, tt)
  unnamed_unnamed (comma_unnamed_rule d1) = (refl, tt)
  unnamed_unnamed (more_unnamed_rule d1 d2) = (refl, unnamed_unnamed d2)
  unnamed_unnamed (rest_unnamed_rule d1) = (rest_named d1, tt)
  unnamed_unnamed (comma_rest_unnamed_rule d1) = (rest_named d1, tt)

  none_named : {before : Option (TypeExpr S)} {ps qs : List (Param S)} → NamedIn w before ps qs → AllUnnamed ps → ⊥
  none_named (in_named a b p) h = never (sym h.0)
  none_named (in_named_rest p) h = never (sym h.0)
  none_named (in_later_named p) h = none_named p h.1

  bare_params_of : (es : List (S × NameAt S)) (t : TypeExpr S) (ps : List (Param S)) → map bare_param (params_of es t ps) ≡ params_of (bare_entries es) (bare_type t) (map bare_param ps)
  bare_params_of [] t ps = refl
  bare_params_of (e ∷ es) t ps = ap (λ (qs : List (Param U)). record { span = tt; name = Some (bare_name e.1); rest = false; of = bare_type t } ∷ qs) (bare_params_of es t ps)

  -- the type that the first group of names shares is swapped, or the swap is behind it
  data Split (before : Option (TypeExpr S)) (t : TypeExpr S) (ps : List (Param S)) (es : List (S × NameAt S)) : List (Param S) → Type 0 where
    here : {u : TypeExpr S} → OtherBefore before t → TypeIn w t u → Split before t ps es (params_of es u ps)
    later : {qs : List (Param S)} → NamedIn w (Some t) ps qs → Split before t ps es (params_of es t qs)

  params_same : {before : Option (TypeExpr S)} {t u : TypeExpr S} {ps qs : List (Param S)} (es : List (S × NameAt S)) → qs ≡ params_of es u ps → OtherBefore before t → TypeIn w t u → Split before t ps es qs
  params_same {before} {t} {u} {ps} {qs} es e q p = subst (λ (v : List (Param S)). Split before t ps es v) (sym e) (here q p)

  abbrev with_type : S → NameAt S → TypeExpr S → List (Param S) → List (Param S)
  with_type s n u ps = record { span = s; name = Some n; rest = false; of = u } ∷ ps

  none_alike : {t u : TypeExpr S} {ps qs : List (Param S)} → OtherFirst t ps → ParamsAlike t u ps qs → qs ≡ ps
  none_alike o (no_more_params q) = refl
  none_alike o (one_more_param r) = absurd (o refl)

  all_alike : {t t2 u : TypeExpr S} {es : List (S × NameAt S)} {ts r : Lexemes} (ps : List (Param S)) → SpellsEntries mark t es ts r → t ≡ t2 → OtherFirst t2 ps → (qs : List (Param S)) → ParamsAlike t2 u (params_of es t ps) qs → qs ≡ params_of es u ps
  all_alike ps (last_entry_rule d1) e o _ (no_more_params q) = absurd (q e)
  all_alike {u = u} ps (last_entry_rule d1) e o _ (one_more_param {s = y} {n = m} r) = ap (with_type y m u) (none_alike o r)
  all_alike ps (more_entries_rule d1) e o _ (no_more_params q) = absurd (q e)
  all_alike {u = u} ps (more_entries_rule d1) e o _ (one_more_param {s = y} {n = m} {qs = qs} r) = ap (with_type y m u) (all_alike ps d1 e o qs r)

  again : {before : Option (TypeExpr S)} {t : TypeExpr S} {ps : List (Param S)} {es : List (S × NameAt S)} {qs : List (Param S)} (e : S × NameAt S) → Split (Some t) t ps es qs → Split before t ps (e ∷ es) (record { span = e.0; name = Some e.1; rest = false; of = t } ∷ qs)
  again e (here q p) = absurd (q refl)
  again e (later p) = later p

  split : {t : TypeExpr S} {es : List (S × NameAt S)} {ts r : Lexemes} (ps : List (Param S)) → SpellsEntries mark t es ts r → OtherFirst t ps → (before : Option (TypeExpr S)) (qs : List (Param S)) → NamedIn w before (params_of es t ps) qs → Split before t ps es qs
  split ps (last_entry_rule d1) o before _ (in_named {s = y} {n = m} {u = u} q p run) = params_same ((y, m) ∷ []) (ap (with_type y m u) (none_alike o run)) q p
  split ps (last_entry_rule d1) o before _ (in_later_named p) = later p
  split ps (more_entries_rule {es = es} d1) o before _ (in_named {s = y} {n = m} {u = u} {qs = qs} q p run) = params_same ((y, m) ∷ es) (ap (with_type y m u) (all_alike ps d1 refl o qs run)) q p
  split {t = t} ps (more_entries_rule d1) o before _ (in_later_named {qs = qs} p) = again _ (split ps d1 o (Some t) qs p)

  last_put : {v : Bool} {before : Option (TypeExpr S)} {t : TypeExpr S} {es : List (S × NameAt S)} {qs : List (Param S)} {e : Span} {ts r : Lexemes} → Split before t [] es qs → SpellsEntries mark t es ts (lex e end_paren ∷ r) → Within ts whole → Put (SpellsNamed nowhere v (map bare_param qs)) ts r
  last_put {v = v} {es = es} {r = r} (here {u = u} q p) d1 a = let x = entries_put d1 a p refl in record { node = x.node; rest = x.rest; old = x.old; marked = x.marked; follows = x.follows; ends = let z = x.ends in (z.0, z.1); new = λ n2 f2. let z = x.new n2 f2 in (z.0, z.1, subst (λ (l : List (Param U)). SpellsNamed nowhere v l z.0 r) (sym (bare_params_of es u [])) (last_named_rule z.2)) }
  last_put (later p) d1 a = elim p [ ]

  comma_put : {v : Bool} {before : Option (TypeExpr S)} {t : TypeExpr S} {es : List (S × NameAt S)} {qs : List (Param S)} {c e : Span} {ts r : Lexemes} → Split before t [] es qs → SpellsEntries mark t es ts (lex c comma ∷ lex e end_paren ∷ r) → Within ts whole → Put (SpellsNamed nowhere v (map bare_param qs)) ts r
  comma_put {v = v} {es = es} {r = r} (here {u = u} q p) d1 a = let x = entries_put d1 a p refl in record { node = x.node; rest = x.rest; old = x.old; marked = x.marked; follows = x.follows; ends = let z = x.ends in (z.0, z.1); new = λ n2 f2. let z = x.new n2 f2 in (z.0, z.1, subst (λ (l : List (Param U)). SpellsNamed nowhere v l z.0 r) (sym (bare_params_of es u [])) (comma_named_rule z.2)) }
  comma_put (later p) d1 a = elim p [ ]

  more_put : {v : Bool} {before : Option (TypeExpr S)} {t : TypeExpr S} {es : List (S × NameAt S)} {ps qs : List (Param S)} {c : Span} {ts mid r : Lexemes} → Split before t ps es qs → SpellsEntries mark t es ts (lex c comma ∷ mid) → Within ts whole → SpellsNamed mark v ps mid r
      → ((qs2 : List (Param S)) → NamedIn w (Some t) ps qs2 → Put (SpellsNamed nowhere v (map bare_param qs2)) mid r) → Put (SpellsNamed nowhere v (map bare_param qs)) ts r
  more_put {v = v} {es = es} {ps = ps} {r = r} (here {u = u} q p) d1 a d2 f = let x = entries_put d1 a p refl in record { node = x.node; rest = x.rest; old = x.old; marked = x.marked; follows = x.follows; ends = let z = x.ends in (z.0, z.1); new = λ n2 f2. let z = x.new n2 f2 in (z.0, z.1, subst (λ (l : List (Param U)). SpellsNamed nowhere v l z.0 r) (sym (bare_params_of es u ps)) (more_named_rule z.2 (aside.named_bare mark d2))) }
  more_put {v = v} {t = t} {es = es} {c = c} {r = r} (later {qs = qs} p) d1 a d2 f = let x = f qs p in record { node = x.node; rest = x.rest; old = x.old; marked = x.marked; follows = x.follows; ends = let z = x.ends in let y0 = entries_frame (aside.entries_bare mark d1) (lex c comma ∷ z.0) in (y0.0, (joined y0.1 (step z.1))); new = λ n2 f2. let z = x.new n2 f2 in let y0 = entries_frame (aside.entries_bare mark d1) (lex c comma ∷ z.0) in (y0.0, (joined y0.1 (step z.1)), subst (λ (l : List (Param U)). SpellsNamed nowhere v l y0.0 r) (sym (bare_params_of es t qs)) (more_named_rule y0.2 z.2)) }

  last_named_rest_put : {p : Param S} {before : Option (TypeExpr S)} {qs : List (Param S)} {e : Span} {ts r : Lexemes} → SpellsRest mark true p ts (lex e end_paren ∷ r) → Within ts whole → NamedIn w before (p ∷ []) qs → Put (SpellsNamed nowhere true (map bare_param qs)) ts r
  last_named_rest_put (named_rest_rule d1) a (in_named_rest p) = let x = named_rest_put (named_rest_rule d1) a p refl in record { node = x.node; rest = x.rest; old = x.old; marked = x.marked; follows = x.follows; ends = let z = x.ends in (z.0, z.1); new = λ n2 f2. let z = x.new n2 f2 in (z.0, z.1, rest_named_rule z.2) }
  last_named_rest_put (named_rest_rule d1) a (in_later_named p) = elim p [ ]

  comma_named_rest_put : {p : Param S} {before : Option (TypeExpr S)} {qs : List (Param S)} {c e : Span} {ts r : Lexemes} → SpellsRest mark true p ts (lex c comma ∷ lex e end_paren ∷ r) → Within ts whole → NamedIn w before (p ∷ []) qs → Put (SpellsNamed nowhere true (map bare_param qs)) ts r
  comma_named_rest_put (named_rest_rule d1) a (in_named_rest p) = let x = named_rest_put (named_rest_rule d1) a p refl in record { node = x.node; rest = x.rest; old = x.old; marked = x.marked; follows = x.follows; ends = let z = x.ends in (z.0, z.1); new = λ n2 f2. let z = x.new n2 f2 in (z.0, z.1, comma_rest_named_rule z.2) }
  comma_named_rest_put (named_rest_rule d1) a (in_later_named p) = elim p [ ]

  named_put : {v : Bool} {ps : List (Param S)} {ts r : Lexemes} → SpellsNamed mark v ps ts r → Within ts whole → (before : Option (TypeExpr S)) (qs : List (Param S)) → NamedIn w before ps qs → Put (SpellsNamed nowhere v (map bare_param qs)) ts r
  named_put (last_named_rule d1) a before qs p = last_put (split [] d1 tt before qs p) d1 a
  named_put (comma_named_rule d1) a before qs p = comma_put (split [] d1 tt before qs p) d1 a
  named_put (more_named_rule {t = t} {ps = ps} d1 d2) a before qs p = more_put (split ps d1 (params_other mark whole differ d1 d2 a) before qs p) d1 a d2 (λ qs2 q. named_put d2 (drop (entries_past mark whole d1 a)) (Some t) qs2 q)
  named_put (rest_named_rule d1) a before qs p = last_named_rest_put d1 a p
  named_put (comma_rest_named_rule d1) a before qs p = comma_named_rest_put d1 a p

  params_named_put : {v : Bool} {ps qs : List (Param S)} {ts r : Lexemes} → SpellsParams mark v ps ts r → Within ts whole → NamedIn w None ps qs → Put (SpellsParams nowhere v (map bare_param qs)) ts r
  params_named_put no_params_rule a p = elim p [ ]
  params_named_put (unnamed_params_rule d1) a p = absurd (none_named p (unnamed_unnamed d1))
  params_named_put (named_params_rule {s = s} d1) a p = let x = named_put d1 (drop a) _ _ p in record { node = x.node; rest = x.rest; old = x.old; marked = x.marked; follows = x.follows; ends = let z = x.ends in ((lex s paren ∷ z.0), (step z.1)); new = λ n2 f2. let z = x.new n2 f2 in ((lex s paren ∷ z.0), (step z.1), named_params_rule z.2) }

  results_named_put : {ps qs : List (Param S)} {ts r : Lexemes} → SpellsResults mark ps ts r → Within ts whole → NamedIn w None ps qs → Put (SpellsResults nowhere (map bare_param qs)) ts r
  results_named_put no_results_rule a p = elim p [ ]
  results_named_put (params_results_rule d1) a p = let x = params_named_put d1 a p in record { node = x.node; rest = x.rest; old = x.old; marked = x.marked; follows = x.follows; ends = let z = x.ends in (z.0, z.1); new = λ n2 f2. let z = x.new n2 f2 in (z.0, z.1, params_results_rule z.2) }
  results_named_put (type_result_rule d1) a p = absurd (none_named p (refl, tt))

  pub sig_put : {v : Bool} {g h : Sig S} {ts r : Lexemes} → SpellsSig mark v g ts r → Within ts whole → SigIn w g h → ends_node r ≡ true → Put (SpellsSig nowhere v (bare_sig h)) ts r
  sig_put (sig_rule d1 d2) a (in_named_params p) k = let x = params_named_put d1 a p in record { node = x.node; rest = x.rest; old = x.old; marked = x.marked; follows = x.follows; ends = let z = x.ends in (z.0, z.1); new = λ n2 f2. let z = x.new n2 f2 in (z.0, z.1, sig_rule z.2 (aside.results_bare mark d2)) }
  sig_put (sig_rule d1 d2) a (in_named_results p) k = let x = results_named_put d2 (params_past mark whole d1 a) p in record { node = x.node; rest = x.rest; old = x.old; marked = x.marked; follows = x.follows; ends = let z = x.ends in let y0 = params_frame (aside.params_bare mark d1) z.0 in (y0.0, (joined y0.1 z.1)); new = λ n2 f2. let z = x.new n2 f2 in let y0 = params_frame (aside.params_bare mark d1) z.0 in (y0.0, (joined y0.1 z.1), sig_rule y0.2 z.2) }
  sig_put (sig_rule d1 d2) a (in_params p) k = let x = params_put d1 a p in record { node = x.node; rest = x.rest; old = x.old; marked = x.marked; follows = x.follows; ends = let z = x.ends in (z.0, z.1); new = λ n2 f2. let z = x.new n2 f2 in (z.0, z.1, sig_rule z.2 (aside.results_bare mark d2)) }
  sig_put (sig_rule d1 d2) a (in_results p) k = let x = results_put d2 (params_past mark whole d1 a) p k in record { node = x.node; rest = x.rest; old = x.old; marked = x.marked; follows = x.follows; ends = let z = x.ends in let y0 = params_frame (aside.params_bare mark d1) z.0 in (y0.0, (joined y0.1 z.1)); new = λ n2 f2. let z = x.new n2 f2 in let y0 = params_frame (aside.params_bare mark d1) z.0 in (y0.0, (joined y0.1 z.1), sig_rule y0.2 z.2) }

-- Types that stand at different places are different trees, each with its span.
use Rattle.std.proofs.Common.{◌≡◌, Bool, List, ◌∷◌, refl, sym, ap, ◌∙◌}
use Rattle.go_tree.specs.declared.spans.Span.{Span}
use Rattle.go_tree.specs.Tree.{NameAt, TypeExpr, Fields, Param}
use Rattle.go_tree.specs.GoWords.Terminals.{Lexeme, lex, comma, semicolon}
use Rattle.go_read.specs.SpellsTypes.{Lexemes, type_mark, fields_of, params_of, SpellsType, SpellsFields, SpellsEntries, SpellsRest, SpellsNamed, named_rule, qualified_rule, pointer_rule, slice_type_rule, map_type_rule, struct_type_rule, type_parens_rule, no_fields_rule, last_field_rule, more_fields_rule, last_entry_rule, more_entries_rule, rest_rule, named_rest_rule, last_named_rule, comma_named_rule, more_named_rule, rest_named_rule, comma_rest_named_rule}
use Rattle.splice_laws.specs.Swaps.{OtherFirst, OtherField}
use Rattle.splice_laws.proofs.Grafts.{Within, here, later, drop, both_within}
use Rattle.splice_laws.proofs.Pasts.{type_past, fields_past}

-- two parts that begin at different places have different spans
abbrev pub Differ : {S : Type 0} → (Lexemes → Lexemes → S) → Lexemes → Type 0
Differ mark whole = (t v : Lexeme) (us vs q r : Lexemes) → Within (t ∷ us) whole → Within (v ∷ vs) us → mark (t ∷ us) q ≡ mark (v ∷ vs) r → ⊥

-- where a type that is spelled by the tokens before `r` begins
record TypeAt {S : Type 0} (mark : Lexemes → Lexemes → S) (t : TypeExpr S) (ts r : Lexemes) : Type 0 where
  first : Lexeme
  more : Lexemes
  end : Lexemes
  starts : Within (first ∷ more) ts
  ends : Within r more
  marked : type_mark t ≡ mark (first ∷ more) end

module _ {S : Type 0} (mark : Lexemes → Lexemes → S) where
  type_within : {t : TypeExpr S} {ts r : Lexemes} → SpellsType mark t ts r → Within r ts
  type_within {ts = ts} d = type_past mark ts d here

  fields_within : {fs : Fields S} {ts r : Lexemes} → SpellsFields mark fs ts r → Within r ts
  fields_within {ts = ts} d = fields_past mark ts d here

  later_at : {t : TypeExpr S} {x : Lexeme} {ts r : Lexemes} → TypeAt mark t ts r → TypeAt mark t (x ∷ ts) r
  later_at y = record { first = y.first; more = y.more; end = y.end; starts = later y.starts; ends = y.ends; marked = y.marked }

  type_at : {t : TypeExpr S} {ts r : Lexemes} → SpellsType mark t ts r → TypeAt mark t ts r
  type_at (named_rule {s = s} {r = r}) = record { first = _; more = r; end = r; starts = here; ends = here; marked = refl }
  type_at (qualified_rule {r = r}) = record { first = _; more = _; end = r; starts = here; ends = later (later here); marked = refl }
  type_at (pointer_rule {r = r} d1) = record { first = _; more = _; end = r; starts = here; ends = type_within d1; marked = refl }
  type_at (slice_type_rule {r = r} d1) = record { first = _; more = _; end = r; starts = here; ends = later (type_within d1); marked = refl }
  type_at (map_type_rule {r = r} d1 d2) = record { first = _; more = _; end = r; starts = here; ends = later (both_within (type_within d2) (drop (type_within d1))); marked = refl }
  type_at (struct_type_rule {r = r} d1) = record { first = _; more = _; end = r; starts = here; ends = later (drop (fields_within d1)); marked = refl }
  type_at (type_parens_rule d1) = let y = type_at d1 in record { first = y.first; more = y.more; end = y.end; starts = later y.starts; ends = drop y.ends; marked = y.marked }

  entry_at : {t : TypeExpr S} {es : List (S × NameAt S)} {ts r : Lexemes} → SpellsEntries mark t es ts r → TypeAt mark t ts r
  entry_at (last_entry_rule d1) = later_at (type_at d1)
  entry_at (more_entries_rule d1) = later_at (later_at (entry_at d1))

  rest_at : {named : Bool} {p : Param S} {ts r : Lexemes} → SpellsRest mark named p ts r → TypeAt mark p.of ts r
  rest_at (rest_rule d1) = later_at (type_at d1)
  rest_at (named_rest_rule d1) = later_at (later_at (type_at d1))

module _ {S : Type 0} (mark : Lexemes → Lexemes → S) (whole : Lexemes) (differ : Differ mark whole) where
  types_differ : {t u : TypeExpr S} {c : Lexeme} {ts mid r : Lexemes} → TypeAt mark t ts (c ∷ mid) → Within ts whole → TypeAt mark u mid r → u ≡ t → ⊥
  types_differ x a y e =
      differ x.first y.first x.more y.more x.end y.end (both_within x.starts a) (both_within y.starts (drop x.ends)) (sym x.marked ∙ sym (ap type_mark e) ∙ y.marked)

  entries_field : {t u : TypeExpr S} {es : List (S × NameAt S)} {ts r : Lexemes} (fs : Fields S) → SpellsEntries mark u es ts r → (u ≡ t → ⊥) → OtherField t (fields_of es u fs)
  entries_field fs (last_entry_rule d1) o = o
  entries_field fs (more_entries_rule d1) o = o

  entries_param : {t u : TypeExpr S} {es : List (S × NameAt S)} {ts r : Lexemes} (ps : List (Param S)) → SpellsEntries mark u es ts r → (u ≡ t → ⊥) → OtherFirst t (params_of es u ps)
  entries_param ps (last_entry_rule d1) o = o
  entries_param ps (more_entries_rule d1) o = o

  -- the fields behind a group have another type
  pub fields_other : {t : TypeExpr S} {es : List (S × NameAt S)} {fs : Fields S} {c : Span} {ts mid r : Lexemes} → SpellsEntries mark t es ts (lex c semicolon ∷ mid) → SpellsFields mark fs mid r → Within ts whole → OtherField t fs
  fields_other d no_fields_rule a = tt
  fields_other d (last_field_rule d1) a = entries_field _ d1 (types_differ (entry_at mark d) a (entry_at mark d1))
  fields_other d (more_fields_rule d1 d2) a = entries_field _ d1 (types_differ (entry_at mark d) a (entry_at mark d1))

  -- the parameters behind a group have another type
  pub params_other : {v : Bool} {t : TypeExpr S} {es : List (S × NameAt S)} {ps : List (Param S)} {c : Span} {ts mid r : Lexemes} → SpellsEntries mark t es ts (lex c comma ∷ mid) → SpellsNamed mark v ps mid r → Within ts whole → OtherFirst t ps
  params_other d (last_named_rule d1) a = entries_param _ d1 (types_differ (entry_at mark d) a (entry_at mark d1))
  params_other d (comma_named_rule d1) a = entries_param _ d1 (types_differ (entry_at mark d) a (entry_at mark d1))
  params_other d (more_named_rule d1 d2) a = entries_param _ d1 (types_differ (entry_at mark d) a (entry_at mark d1))
  params_other d (rest_named_rule d1) a = types_differ (entry_at mark d) a (rest_at mark d1)
  params_other d (comma_rest_named_rule d1) a = types_differ (entry_at mark d) a (rest_at mark d1)

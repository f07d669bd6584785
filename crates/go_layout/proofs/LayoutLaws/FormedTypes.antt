-- A type that tokens of a text spell is well formed.
use Rattle.std.proofs.Common.{◌≡◌, Bool, true, false, List, [], ◌∷◌, Option, inl, inr, refl, sym, subst}
use Rattle.go_tree.specs.Tree.{NameAt, TypeExpr, Fields, Param, Sig, no_fields}
use Rattle.go_read.specs.SpellsTypes.{Lexemes, SpellsRest, rest_rule, named_rest_rule, rest_named_rule, comma_rest_named_rule, rest_unnamed_rule, comma_rest_unnamed_rule, fields_of, params_of, SpellsType, SpellsFields, SpellsEntries, SpellsNamed, SpellsUnnamed, SpellsParams, SpellsResults, SpellsSig, SpellsNames, named_rule, qualified_rule, pointer_rule, slice_type_rule, map_type_rule, struct_type_rule, type_parens_rule, no_fields_rule, last_field_rule, more_fields_rule, last_entry_rule, more_entries_rule, last_named_rule, comma_named_rule, more_named_rule, last_unnamed_rule, comma_unnamed_rule, more_unnamed_rule, no_params_rule, named_params_rule, unnamed_params_rule, no_results_rule, params_results_rule, type_result_rule, sig_rule, last_name_rule, more_names_rule}
use Rattle.go_layout.specs.LayoutLaws.Formed.{IsName, IsNamed, IsUnnamed, FitsRest, FormedType, FormedFields, FormedNamed, FormedUnnamed, FormedParams, FormedSig, FormedNames, HasNames}
use Rattle.go_layout.specs.LayoutLaws.Real.{AreReal}

module _ {S : Type 0} (mark : Lexemes → Lexemes → S) where
  abbrev FormedEntries : List (S × NameAt S) → Type 0
  FormedEntries [] = Unit {0}
  FormedEntries (e ∷ es) = IsName e.1.name × FormedEntries es

  fields_made : (es : List (S × NameAt S)) (t : TypeExpr S) (fs : Fields S) → FormedEntries es → FormedType t → FormedFields fs → FormedFields (fields_of es t fs)
  fields_made [] t fs x y z = z
  fields_made (e ∷ es) t fs x y z = (x.0, y, fields_made es t fs x.1 y z)

  params_made : (v : Bool) (es : List (S × NameAt S)) (t : TypeExpr S) (ps : List (Param S)) → FormedEntries es → FormedType t → FormedNamed v ps → FormedNamed v (params_of es t ps)
  params_made v [] t ps x y z = z
  params_made v (e ∷ es) t ps x y z = (x.0, y, params_made v es t ps x.1 y z, tt)

  abbrev NamedWhere : Bool → Option (NameAt S) → Type 0
  NamedWhere true o = IsNamed o
  NamedWhere false o = IsUnnamed o

  abbrev FormedRestParam : Bool → Param S → Type 0
  FormedRestParam named p = NamedWhere named p.name × FormedType p.of × (p.rest ≡ true)

  mutual
    pub type_formed : {t : TypeExpr S} {ts r : Lexemes} → SpellsType mark t ts r → AreReal ts → FormedType t × AreReal r
    type_formed named_rule g = ((tt, g.0), g.1)
    type_formed qualified_rule g = ((g.0, g.1.1.0), g.1.1.1)
    type_formed (pointer_rule d) g = type_formed d g.1
    type_formed (slice_type_rule d) g = type_formed d g.1.1
    type_formed (map_type_rule d k) g = let x = type_formed d g.1.1 in let y = type_formed k x.1.1 in ((x.0, y.0), y.1)
    type_formed (struct_type_rule d) g = let x = fields_formed d g.1.1 in (x.0, x.1.1)
    type_formed (type_parens_rule d) g = let x = type_formed d g.1 in (x.0, x.1.1)

    fields_formed : {fs : Fields S} {ts r : Lexemes} → SpellsFields mark fs ts r → AreReal ts → FormedFields fs × AreReal r
    fields_formed no_fields_rule g = (tt, g)
    fields_formed (last_field_rule {t = t} {es = es} d) g = let x = entries_formed d g in (fields_made es t no_fields x.1 x.0 tt, x.2)
    fields_formed (more_fields_rule {t = t} {es = es} {fs = fs} d k) g = let x = entries_formed d g in let y = fields_formed k x.2.1 in (fields_made es t fs x.1 x.0 y.0, y.1)

    entries_formed : {t : TypeExpr S} {es : List (S × NameAt S)} {ts r : Lexemes} → SpellsEntries mark t es ts r → AreReal ts → FormedType t × FormedEntries es × AreReal r
    entries_formed (last_entry_rule d) g = let x = type_formed d g.1 in (x.0, (g.0, tt), x.1)
    entries_formed (more_entries_rule d) g = let x = entries_formed d g.1.1 in (x.0, (g.0, x.1), x.2)

  rest_formed : {named : Bool} {p : Param S} {ts r : Lexemes} → SpellsRest mark named p ts r → AreReal ts → FormedRestParam named p × AreReal r
  rest_formed (rest_rule d) g = let x = type_formed d g.1 in ((tt, x.0, refl), x.1)
  rest_formed (named_rest_rule d) g = let x = type_formed d g.1.1 in ((g.0, x.0, refl), x.1)

  alone_named : (p : Param S) → FormedRestParam true p → FormedNamed true (p ∷ [])
  alone_named p f = (f.0, f.1, tt, subst (λ (b : Bool). FitsRest {S = S} b true []) (sym f.2) tt)

  alone_unnamed : (p : Param S) → FormedRestParam false p → FormedUnnamed true (p ∷ [])
  alone_unnamed p f = (f.0, f.1, tt, subst (λ (b : Bool). FitsRest {S = S} b true []) (sym f.2) tt)

  named_formed : {v : Bool} {ps : List (Param S)} {ts r : Lexemes} → SpellsNamed mark v ps ts r → AreReal ts → FormedNamed v ps × AreReal r
  named_formed (last_named_rule {v = v} {t = t} {es = es} d) g = let x = entries_formed d g in (params_made v es t [] x.1 x.0 tt, x.2.1)
  named_formed (comma_named_rule {v = v} {t = t} {es = es} d) g = let x = entries_formed d g in (params_made v es t [] x.1 x.0 tt, x.2.1.1)
  named_formed (more_named_rule {v = v} {t = t} {es = es} {ps = ps} d k) g = let x = entries_formed d g in let y = named_formed k x.2.1 in (params_made v es t ps x.1 x.0 y.0, y.1)
  named_formed (rest_named_rule {p = p} d) g = let x = rest_formed d g in (alone_named p x.0, x.1.1)
  named_formed (comma_rest_named_rule {p = p} d) g = let x = rest_formed d g in (alone_named p x.0, x.1.1.1)

  unnamed_formed : {v : Bool} {ps : List (Param S)} {ts r : Lexemes} → SpellsUnnamed mark v ps ts r → AreReal ts → FormedUnnamed v ps × AreReal r
  unnamed_formed (last_unnamed_rule d) g = let x = type_formed d g in ((tt, x.0, tt, tt), x.1.1)
  unnamed_formed (comma_unnamed_rule d) g = let x = type_formed d g in ((tt, x.0, tt, tt), x.1.1.1)
  unnamed_formed (more_unnamed_rule d k) g = let x = type_formed d g in let y = unnamed_formed k x.1.1 in ((tt, x.0, y.0, tt), y.1)
  unnamed_formed (rest_unnamed_rule {p = p} d) g = let x = rest_formed d g in (alone_unnamed p x.0, x.1.1)
  unnamed_formed (comma_rest_unnamed_rule {p = p} d) g = let x = rest_formed d g in (alone_unnamed p x.0, x.1.1.1)

  params_formed : {v : Bool} {ps : List (Param S)} {ts r : Lexemes} → SpellsParams mark v ps ts r → AreReal ts → FormedParams v ps × AreReal r
  params_formed no_params_rule g = (inl tt, g.1.1)
  params_formed (named_params_rule d) g = let x = named_formed d g.1 in (inl x.0, x.1)
  params_formed (unnamed_params_rule d) g = let x = unnamed_formed d g.1 in (inr x.0, x.1)

  results_formed : {ps : List (Param S)} {ts r : Lexemes} → SpellsResults mark ps ts r → AreReal ts → FormedParams false ps × AreReal r
  results_formed no_results_rule g = (inl tt, g)
  results_formed (params_results_rule d) g = params_formed d g
  results_formed (type_result_rule d) g = let x = type_formed d g in (inr (tt, x.0, tt, tt), x.1)

  pub sig_formed : {v : Bool} {s : Sig S} {ts r : Lexemes} → SpellsSig mark v s ts r → AreReal ts → FormedSig v s × AreReal r
  sig_formed (sig_rule d k) g = let x = params_formed d g in let y = results_formed k x.1 in ((x.0, y.0), y.1)

  pub names_formed : {ns : List (NameAt S)} {ts r : Lexemes} → SpellsNames mark ns ts r → AreReal ts → HasNames ns × FormedNames ns × AreReal r
  names_formed last_name_rule g = (tt, (g.0, tt), g.1)
  names_formed (more_names_rule d) g = let x = names_formed d g.1.1 in (tt, (g.0, x.1), x.2)

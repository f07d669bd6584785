-- The tokens of the layout of a type spell the type.
use Rattle.std.proofs.Common.{Bool, true, false, List, [], ◌∷◌, Option, Some, None, inl, inr}
use Rattle.go_tree.specs.declared.spans.Span.{Span}
use Rattle.go_tree.specs.Tree.{NameAt, TypeExpr, Fields, Param, Sig, named, pointer, slice_type, map_type, struct_type, no_fields, field}
use Rattle.go_tree.specs.GoWords.Terminals.{lex, end_paren, end_brace}
use Rattle.go_read.specs.SpellsTypes.{Lexemes, rest_rule, named_rest_rule, rest_named_rule, rest_unnamed_rule, SpellsType, SpellsFields, SpellsNamed, SpellsUnnamed, SpellsParams, SpellsResults, SpellsSig, SpellsNames, named_rule, qualified_rule, pointer_rule, slice_type_rule, map_type_rule, struct_type_rule, no_fields_rule, last_field_rule, more_fields_rule, last_entry_rule, last_named_rule, more_named_rule, last_unnamed_rule, more_unnamed_rule, no_params_rule, named_params_rule, unnamed_params_rule, no_results_rule, params_results_rule, type_result_rule, sig_rule, last_name_rule, more_names_rule}
use Rattle.go_read.specs.Bareness.{nowhere}
use Rattle.go_layout.specs.TypeLayout.{names_layout, type_layout, fields_layout, param_list_layout, params_layout, results_layout, sig_layout}
use Rattle.go_layout.specs.LayoutLaws.Formed.{HasNames, FitsRest, IsNamed, IsUnnamed, FormedNamed, FormedUnnamed, FormedParams, FormedSig}
use Rattle.go_layout.specs.LayoutLaws.LayoutTokens.{HasTokens, of_nothing, of_token, of_gap, of_both}

abbrev pub U : Type 0
U = Unit {0}

mutual
  pub type_spelled : (t : TypeExpr U) (ts r : Lexemes) → HasTokens (type_layout t) ts r → SpellsType nowhere t ts r
  type_spelled (named s None n) ts r (of_both of_nothing of_token) = named_rule
  type_spelled (named s (Some p) n) ts r (of_both (of_both of_token of_token) of_token) = qualified_rule
  type_spelled (pointer s t) ts r (of_both of_token w) = pointer_rule (type_spelled t _ r w)
  type_spelled (slice_type s t) ts r (of_both of_token (of_both of_token w)) = slice_type_rule (type_spelled t _ r w)
  type_spelled (map_type s k t) ts r (of_both of_token (of_both of_token (of_both w (of_both of_token v)))) = map_type_rule (type_spelled k _ _ w) (type_spelled t _ r v)
  type_spelled (struct_type s fs) ts r (of_both of_token (of_both of_token (of_both w of_token))) = struct_type_rule (fields_spelled fs _ _ _ w)

  fields_spelled : (fs : Fields U) (ts r : Lexemes) (e : Span) → HasTokens (fields_layout fs) ts (lex e end_brace ∷ r) → SpellsFields nowhere fs ts (lex e end_brace ∷ r)
  fields_spelled no_fields ts r e of_nothing = no_fields_rule
  fields_spelled (field s n t no_fields) ts r e (of_both of_token (of_both of_gap (of_both w (of_both of_nothing of_nothing)))) = last_field_rule (last_entry_rule (type_spelled t _ _ w))
  fields_spelled (field s n t (field s2 n2 t2 fs)) ts r e (of_both of_token (of_both of_gap (of_both w (of_both (of_both of_token of_gap) k)))) =
      more_fields_rule (last_entry_rule (type_spelled t _ _ w)) (fields_spelled (field s2 n2 t2 fs) _ r e k)

abbrev HasParams : List (Param U) → Type 0
HasParams [] = ⊥
HasParams (p ∷ ps) = Unit {0}

abbrev param : Option (NameAt U) → Bool → TypeExpr U → Param U
param o b t = record { span = tt; name = o; rest = b; of = t }

last_named : (v : Bool) (o : Option (NameAt U)) (b : Bool) (t : TypeExpr U) (ts r : Lexemes) (e : Span) → IsNamed o → FitsRest {S = U} b v [] → HasTokens (param_list_layout (param o b t ∷ [])) ts (lex e end_paren ∷ r) → SpellsNamed nowhere v (param o b t ∷ []) ts r
last_named v None b t ts r e n q w = absurd n
last_named v (Some n) false t ts r e f q (of_both (of_both (of_both of_token of_gap) (of_both of_nothing w)) (of_both of_nothing of_nothing)) = last_named_rule (last_entry_rule (type_spelled t _ _ w))
last_named true (Some n) true t ts r e f q (of_both (of_both (of_both of_token of_gap) (of_both of_token w)) (of_both of_nothing of_nothing)) = rest_named_rule (named_rest_rule (type_spelled t _ _ w))
last_named false (Some n) true t ts r e f q w = absurd q

more_named : (v : Bool) (o : Option (NameAt U)) (b : Bool) (t : TypeExpr U) (q : Param U) (ps : List (Param U)) (ts r : Lexemes) → IsNamed o → FitsRest b v (q ∷ ps)
    → HasTokens (param_list_layout (param o b t ∷ q ∷ ps)) ts r → (r2 : Lexemes) → ((ts2 : Lexemes) → HasTokens (param_list_layout (q ∷ ps)) ts2 r → SpellsNamed nowhere v (q ∷ ps) ts2 r2) → SpellsNamed nowhere v (param o b t ∷ q ∷ ps) ts r2
more_named v None b t q ps ts r n z w r2 k = absurd n
more_named v (Some n) false t q ps ts r f z (of_both (of_both (of_both of_token of_gap) (of_both of_nothing w)) (of_both (of_both of_token of_gap) u)) r2 k = more_named_rule (last_entry_rule (type_spelled t _ _ w)) (k _ u)
more_named true (Some n) true t q ps ts r f z w r2 k = absurd z
more_named false (Some n) true t q ps ts r f z w r2 k = absurd z

named_spelled : (v : Bool) (ps : List (Param U)) (ts r : Lexemes) (e : Span) → FormedNamed v ps → HasParams ps → HasTokens (param_list_layout ps) ts (lex e end_paren ∷ r) → SpellsNamed nowhere v ps ts r
named_spelled v [] ts r e f some w = absurd some
named_spelled v (p ∷ []) ts r e f some w = last_named v p.name p.rest p.of ts r e f.0 f.3 w
named_spelled v (p ∷ q ∷ ps) ts r e f some w = more_named v p.name p.rest p.of q ps ts (lex e end_paren ∷ r) f.0 f.3 w r (λ ts2 u. named_spelled v (q ∷ ps) ts2 r e f.2 tt u)

last_unnamed : (v : Bool) (o : Option (NameAt U)) (b : Bool) (t : TypeExpr U) (ts r : Lexemes) (e : Span) → IsUnnamed o → FitsRest {S = U} b v [] → HasTokens (param_list_layout (param o b t ∷ [])) ts (lex e end_paren ∷ r) → SpellsUnnamed nowhere v (param o b t ∷ []) ts r
last_unnamed v (Some n) b t ts r e f q w = absurd f
last_unnamed v None false t ts r e f q (of_both (of_both of_nothing (of_both of_nothing w)) (of_both of_nothing of_nothing)) = last_unnamed_rule (type_spelled t _ _ w)
last_unnamed true None true t ts r e f q (of_both (of_both of_nothing (of_both of_token w)) (of_both of_nothing of_nothing)) = rest_unnamed_rule (rest_rule (type_spelled t _ _ w))
last_unnamed false None true t ts r e f q w = absurd q

more_unnamed : (v : Bool) (o : Option (NameAt U)) (b : Bool) (t : TypeExpr U) (q : Param U) (ps : List (Param U)) (ts r : Lexemes) → IsUnnamed o → FitsRest b v (q ∷ ps)
    → HasTokens (param_list_layout (param o b t ∷ q ∷ ps)) ts r → (r2 : Lexemes) → ((ts2 : Lexemes) → HasTokens (param_list_layout (q ∷ ps)) ts2 r → SpellsUnnamed nowhere v (q ∷ ps) ts2 r2) → SpellsUnnamed nowhere v (param o b t ∷ q ∷ ps) ts r2
more_unnamed v (Some n) b t q ps ts r f z w r2 k = absurd f
more_unnamed v None false t q ps ts r f z (of_both (of_both of_nothing (of_both of_nothing w)) (of_both (of_both of_token of_gap) u)) r2 k = more_unnamed_rule (type_spelled t _ _ w) (k _ u)
more_unnamed true None true t q ps ts r f z w r2 k = absurd z
more_unnamed false None true t q ps ts r f z w r2 k = absurd z

unnamed_spelled : (v : Bool) (ps : List (Param U)) (ts r : Lexemes) (e : Span) → FormedUnnamed v ps → HasParams ps → HasTokens (param_list_layout ps) ts (lex e end_paren ∷ r) → SpellsUnnamed nowhere v ps ts r
unnamed_spelled v [] ts r e f some w = absurd some
unnamed_spelled v (p ∷ []) ts r e f some w = last_unnamed v p.name p.rest p.of ts r e f.0 f.3 w
unnamed_spelled v (p ∷ q ∷ ps) ts r e f some w = more_unnamed v p.name p.rest p.of q ps ts (lex e end_paren ∷ r) f.0 f.3 w r (λ ts2 u. unnamed_spelled v (q ∷ ps) ts2 r e f.2 tt u)

params_spelled : (v : Bool) (ps : List (Param U)) (ts r : Lexemes) → FormedParams v ps → HasTokens (params_layout ps) ts r → SpellsParams nowhere v ps ts r
params_spelled v [] ts r f (of_both of_token (of_both of_nothing of_token)) = no_params_rule
params_spelled v (p ∷ ps) ts r (inl f) (of_both of_token (of_both w of_token)) = named_params_rule (named_spelled v (p ∷ ps) _ r _ f tt w)
params_spelled v (p ∷ ps) ts r (inr f) (of_both of_token (of_both w of_token)) = unnamed_params_rule (unnamed_spelled v (p ∷ ps) _ r _ f tt w)

one_result : (o : Option (NameAt U)) (b : Bool) (t : TypeExpr U) (ts r : Lexemes) → FitsRest {S = U} b false [] → FormedParams false (param o b t ∷ []) → HasTokens (results_layout (param o b t ∷ [])) ts r → SpellsResults nowhere (param o b t ∷ []) ts r
one_result o true t ts r q f w = absurd q
one_result None false t ts r q f (of_both of_gap w) = type_result_rule (type_spelled t _ r w)
one_result (Some n) false t ts r q f (of_both of_gap w) = params_results_rule (params_spelled false (param (Some n) false t ∷ []) _ r f w)

one_plain : (p : Param U) → FormedParams false (p ∷ []) → FitsRest {S = U} p.rest false []
one_plain p (inl f) = f.3
one_plain p (inr f) = f.3

results_spelled : (ps : List (Param U)) (ts r : Lexemes) → FormedParams false ps → HasTokens (results_layout ps) ts r → SpellsResults nowhere ps ts r
results_spelled [] ts r f of_nothing = no_results_rule
results_spelled (p ∷ []) ts r f w = one_result p.name p.rest p.of ts r (one_plain p f) f w
results_spelled (p ∷ q ∷ ps) ts r f (of_both of_gap w) = params_results_rule (params_spelled false (p ∷ q ∷ ps) _ r f w)

pub sig_spelled : (v : Bool) (g : Sig U) (ts r : Lexemes) → FormedSig v g → HasTokens (sig_layout g) ts r → SpellsSig nowhere v g ts r
sig_spelled v g ts r f (of_both w u) = sig_rule (params_spelled v g.params _ _ f.0 w) (results_spelled g.results _ r f.1 u)

pub names_spelled : (ns : List (NameAt U)) (ts r : Lexemes) → HasNames ns → HasTokens (names_layout ns) ts r → SpellsNames nowhere ns ts r
names_spelled [] ts r some w = absurd some
names_spelled (n ∷ []) ts r some (of_both of_token (of_both of_nothing of_nothing)) = last_name_rule
names_spelled (n ∷ m ∷ ns) ts r some (of_both of_token (of_both (of_both of_token of_gap) w)) = more_names_rule (names_spelled (m ∷ ns) _ r tt w)

-- What is read as a type or a signature is spelled so.
use Rattle.std.proofs.Common.{◌+◌, ◌*◌, ◌≤◌, Bool, true, false, List, ◌∷◌, length, arith}
use Rattle.go_tree.specs.declared.spans.Span.{Span}
use Rattle.go_tree.specs.declared.operators.BinOp.TheVariants.{Mul}
use Rattle.go_tree.specs.Tree.{NameAt, TypeExpr, Param}
use Rattle.go_tree.specs.GoWords.Terminals.{lex, ident, binary_op, comma, semicolon, dot, ellipsis, paren, end_paren, bracket, end_bracket, brace, end_brace, key_map, key_struct}
use Rattle.go_read.specs.SpellsTypes.{Lexemes, SpellsRest, rest_rule, named_rest_rule, rest_named_rule, comma_rest_named_rule, rest_unnamed_rule, comma_rest_unnamed_rule, named_rule, qualified_rule, pointer_rule, slice_type_rule, map_type_rule, struct_type_rule, type_parens_rule, no_fields_rule, last_field_rule, more_fields_rule, last_entry_rule, more_entries_rule, last_named_rule, comma_named_rule, more_named_rule, last_unnamed_rule, comma_unnamed_rule, more_unnamed_rule, no_params_rule, named_params_rule, unnamed_params_rule, no_results_rule, params_results_rule, type_result_rule, sig_rule, last_name_rule, more_names_rule}
use Rattle.go_read.specs.Goals.{read_type, read_fields, read_entries, read_named, read_unnamed, read_params, read_sig, read_names}
use Rattle.go_read.specs.Programs.{look}
use Rattle.go_read.specs.ReadTypes.{type_step, fields_after, fields_step, entries_step, rest_after, named_after, named_step, unnamed_after, unnamed_step, params_either, params_step, results_step, sig_step, names_step}
use Rattle.go_read.proofs.Means.{Good, Step, Fine, fine_end_brace, fine_end_bracket, fine_end_paren}

module _ {S : Type 0} (mark : Lexemes → Lexemes → S) where
  pub type_fine : (ts : Lexemes) → Step mark read_type ts (type_step mark ts)
  unfolding type_step
  type_fine (lex s (ident p) ∷ lex d dot ∷ lex s2 (ident n) ∷ r) = (omega arith, qualified_rule)
  type_fine (lex s (ident n) ∷ r) = (omega arith, named_rule)
  type_fine (lex s (binary_op Mul) ∷ ts) = (omega arith, λ t r g. (omega (arith, g.0), pointer_rule g.1))
  type_fine (lex s bracket ∷ lex e end_bracket ∷ ts) = (omega arith, λ t r g. (omega (arith, g.0), slice_type_rule g.1))
  type_fine (lex s key_map ∷ lex b bracket ∷ ts) = (
    omega arith,
    λ k mid g. fine_end_bracket mark _ _ (λ z. Good mark read_type ts k z) mid _ g
        (λ e mid g. (omega (arith, g.0), λ t r h. (omega (arith, g.0, h.0), map_type_rule g.1 h.1))),
  )
  type_fine (lex s key_struct ∷ lex b brace ∷ ts) =
      (omega arith, λ fs r g. fine_end_brace mark _ _ (λ z. Good mark read_fields ts fs z) r _ g (λ e r g. (omega (arith, g.0), struct_type_rule g.1)))
  type_fine (lex s paren ∷ ts) = (omega arith, λ t r g. fine_end_paren mark _ _ (λ z. Good mark read_type ts t z) r _ g (λ e r g. (omega (arith, g.0), type_parens_rule g.1)))
  type_fine _ = tt

  fields_after_fine : (ts : Lexemes) (x : TypeExpr S × List (S × NameAt S)) (r : Lexemes) → Good mark read_entries ts x r → Fine mark (8 * length ts + 1) (Good mark read_fields ts) (fields_after mark x r)
  fields_after_fine ts x (lex c semicolon ∷ r) g = (omega (arith, g.0), λ fs r h. (omega (arith, g.0, h.0), more_fields_rule g.1 h.1))
  fields_after_fine ts x (lex c end_brace ∷ r) g = (omega (arith, g.0), last_field_rule g.1)
  fields_after_fine ts x _ g = tt

  pub fields_fine : (ts : Lexemes) → Step mark read_fields ts (fields_step mark ts)
  unfolding fields_step
  fields_fine (lex c end_brace ∷ ts) = (omega arith, no_fields_rule)
  fields_fine ts = (omega arith, λ x r g. fields_after_fine ts x r g)

  pub entries_fine : (ts : Lexemes) → Step mark read_entries ts (entries_step mark ts)
  unfolding entries_step
  entries_fine (lex s (ident n) ∷ lex c comma ∷ ts) = (omega arith, λ x r g. (omega (arith, g.0), more_entries_rule g.1))
  entries_fine (lex s (ident n) ∷ ts) = (omega arith, λ t r g. (omega (arith, g.0), last_entry_rule g.1))
  entries_fine _ = tt

  -- ---- parameters

  rest_named_fine : (ts : Lexemes) (p : Param S) (r : Lexemes) → length r + 1 ≤ length ts → SpellsRest mark true p ts r → Fine mark (8 * length ts + 1) (Good mark (read_named true) ts) (rest_after mark p r)
  rest_named_fine ts p (lex e end_paren ∷ r) le d = (omega (arith, le), rest_named_rule d)
  rest_named_fine ts p (lex c comma ∷ lex e end_paren ∷ r) le d = (omega (arith, le), comma_rest_named_rule d)
  rest_named_fine ts p _ le d = tt

  rest_unnamed_fine : (ts : Lexemes) (p : Param S) (r : Lexemes) → length r + 1 ≤ length ts → SpellsRest mark false p ts r → Fine mark (8 * length ts + 1) (Good mark (read_unnamed true) ts) (rest_after mark p r)
  rest_unnamed_fine ts p (lex e end_paren ∷ r) le d = (omega (arith, le), rest_unnamed_rule d)
  rest_unnamed_fine ts p (lex c comma ∷ lex e end_paren ∷ r) le d = (omega (arith, le), comma_rest_unnamed_rule d)
  rest_unnamed_fine ts p _ le d = tt

  named_after_fine : (v : Bool) (ts : Lexemes) (x : TypeExpr S × List (S × NameAt S)) (r : Lexemes) → Good mark read_entries ts x r → Fine mark (8 * length ts + 1) (Good mark (read_named v) ts) (named_after mark v x r)
  named_after_fine v ts x (lex e end_paren ∷ r) g = (omega (arith, g.0), last_named_rule g.1)
  named_after_fine v ts x (lex c comma ∷ lex e end_paren ∷ r) g = (omega (arith, g.0), comma_named_rule g.1)
  named_after_fine v ts x (lex c comma ∷ r) g = (omega (arith, g.0), λ ps r h. (omega (arith, g.0, h.0), more_named_rule g.1 h.1))
  named_after_fine v ts x _ g = tt

  pub named_fine : (v : Bool) (ts : Lexemes) → Step mark (read_named v) ts (named_step mark v ts)
  unfolding named_step
  named_fine true (lex s (ident n) ∷ lex d ellipsis ∷ ts) =
      (omega arith, λ t r g. rest_named_fine (lex s (ident n) ∷ lex d ellipsis ∷ ts) _ r (omega (arith, g.0)) (named_rest_rule g.1))
  named_fine v ts = (omega arith, λ x r g. named_after_fine v ts x r g)

  unnamed_after_fine : (v : Bool) (ts : Lexemes) (t : TypeExpr S) (r : Lexemes) → Good mark read_type ts t r → Fine mark (8 * length ts + 1) (Good mark (read_unnamed v) ts) (unnamed_after mark v t r)
  unnamed_after_fine v ts t (lex e end_paren ∷ r) g = (omega (arith, g.0), last_unnamed_rule g.1)
  unnamed_after_fine v ts t (lex c comma ∷ lex e end_paren ∷ r) g = (omega (arith, g.0), comma_unnamed_rule g.1)
  unnamed_after_fine v ts t (lex c comma ∷ r) g = (omega (arith, g.0), λ ps r h. (omega (arith, g.0, h.0), more_unnamed_rule g.1 h.1))
  unnamed_after_fine v ts t _ g = tt

  pub unnamed_fine : (v : Bool) (ts : Lexemes) → Step mark (read_unnamed v) ts (unnamed_step mark v ts)
  unfolding unnamed_step
  unnamed_fine true (lex d ellipsis ∷ ts) = (omega arith, λ t r g. rest_unnamed_fine (lex d ellipsis ∷ ts) _ r (omega (arith, g.0)) (rest_rule g.1))
  unnamed_fine v ts = (omega arith, λ t r g. unnamed_after_fine v ts t r g)

  params_either_fine : (v : Bool) (s : Span) (ts : Lexemes)
      → Fine mark (8 * length (lex s paren ∷ ts) + 0) (Good mark (read_params v) (lex s paren ∷ ts)) (look (read_named v) ts (λ o. params_either mark v ts o))
  params_either_fine v s ts =
      (omega arith, (omega arith, λ ps r g. (omega (arith, g.0), unnamed_params_rule g.1)), λ ps r g. (omega (arith, g.0), named_params_rule g.1))

  pub params_fine : (v : Bool) (ts : Lexemes) → Step mark (read_params v) ts (params_step mark v ts)
  unfolding params_step
  params_fine v (lex s paren ∷ lex e end_paren ∷ r) = (omega arith, no_params_rule)
  params_fine v (lex s paren ∷ ts) = params_either_fine v s ts
  params_fine v _ = tt

  results_fine : (v : Bool) (ts : Lexemes) (ps : List (Param S)) (r : Lexemes) → Good mark (read_params v) ts ps r → Fine mark (8 * length ts + 1) (Good mark (read_sig v) ts) (results_step mark ps r)
  results_fine v ts ps (lex s paren ∷ r) g = (omega (arith, g.0), λ rs r h. (omega (arith, g.0, h.0), sig_rule g.1 (params_results_rule h.1)))
  results_fine v ts ps (lex s brace ∷ r) g = (omega (arith, g.0), sig_rule g.1 no_results_rule)
  results_fine v ts ps r g = (omega (arith, g.0), λ t r h. (omega (arith, g.0, h.0), sig_rule g.1 (type_result_rule h.1)))

  pub sig_fine : (v : Bool) (ts : Lexemes) → Step mark (read_sig v) ts (sig_step mark v ts)
  unfolding sig_step
  sig_fine v ts = (omega arith, λ ps r g. results_fine v ts ps r g)

  pub names_fine : (ts : Lexemes) → Step mark read_names ts (names_step mark ts)
  unfolding names_step
  names_fine (lex s (ident n) ∷ lex c comma ∷ ts) = (omega arith, λ ns r g. (omega (arith, g.0), more_names_rule g.1))
  names_fine (lex s (ident n) ∷ r) = (omega arith, last_name_rule)
  names_fine _ = tt

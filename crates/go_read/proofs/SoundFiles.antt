-- What is read as a file's imports and declarations is spelled so.
use Rattle.std.proofs.Common.{◌+◌, ◌*◌, ◌∷◌, length, Some, None, arith}
use Rattle.go_tree.specs.declared.spans.Span.{Span}
use Rattle.go_tree.specs.declared.operators.BinOp.TheVariants.{Mul}
use Rattle.go_tree.specs.File.{ImportSpec, ImportDecl, TypeSpec, Receiver, Decl}
use Rattle.go_tree.specs.GoWords.Terminals.{lex, ident, str_lit, binary_op, assign, semicolon, paren, end_paren, key_const, key_func, key_import, key_package, key_type, key_var}
use Rattle.go_read.specs.SpellsTypes.{Lexemes}
use Rattle.go_read.specs.SpellsFiles.{is_blank, path_rule, named_path_rule, no_import_specs_rule, last_import_spec_rule, more_import_specs_rule, import_rule, import_group_rule, type_spec_rule, alias_spec_rule, no_type_specs_rule, last_type_spec_rule, more_type_specs_rule, receiver_rule, pointer_receiver_rule, named_receiver_rule, named_pointer_receiver_rule, top_const_rule, top_var_rule, top_type_rule, top_type_group_rule, top_func_rule, top_method_rule, no_imports_rule, more_imports_rule, no_tops_rule, more_tops_rule, front_rule}
use Rattle.go_read.specs.Goals.{read_import_spec, read_import_specs, read_import, read_type_spec, read_type_specs, read_receiver, read_top, read_imports, read_tops, read_front}
use Rattle.go_read.specs.ReadFiles.{import_spec_step, import_specs_after, import_specs_step, import_step, type_spec_step, type_specs_after, type_specs_step, receiver_step, func_step, top_step, imports_after, imports_step, tops_after, tops_step, front_step}
use Rattle.go_read.proofs.Means.{Good, Fine, Step, fine_unless, fine_end_paren}

module _ {S : Type 0} (mark : Lexemes → Lexemes → S) where
  pub import_spec_fine : (ts : Lexemes) → Step mark read_import_spec ts (import_spec_step mark ts)
  unfolding import_spec_step
  import_spec_fine (lex s (str_lit p) ∷ r) = (omega arith, path_rule)
  import_spec_fine (lex s (ident n) ∷ lex c (str_lit p) ∷ r) = (omega arith, named_path_rule)
  import_spec_fine _ = tt

  import_specs_after_fine : (ts : Lexemes) (x : ImportSpec S) (r : Lexemes) → Good mark read_import_spec ts x r → Fine mark (8 * length ts + 1) (Good mark read_import_specs ts) (import_specs_after mark x r)
  import_specs_after_fine ts x (lex c semicolon ∷ r) g = (omega (arith, g.0), λ xs r2 k. (omega (arith, g.0, k.0), more_import_specs_rule g.1 k.1))
  import_specs_after_fine ts x (lex c end_paren ∷ r) g = (omega (arith, g.0), last_import_spec_rule g.1)
  import_specs_after_fine ts x _ g = tt

  pub import_specs_fine : (ts : Lexemes) → Step mark read_import_specs ts (import_specs_step mark ts)
  unfolding import_specs_step
  import_specs_fine (lex c end_paren ∷ ts) = (omega arith, no_import_specs_rule)
  import_specs_fine ts = (omega arith, λ x r g. import_specs_after_fine ts x r g)

  pub import_fine : (ts : Lexemes) → Step mark read_import ts (import_step mark ts)
  unfolding import_step
  import_fine (lex s key_import ∷ lex b paren ∷ ts) =
      (omega arith, λ xs r g. fine_end_paren mark _ _ (λ z. Good mark read_import_specs ts xs z) r _ g (λ e r g. (omega (arith, g.0), import_group_rule g.1)))
  import_fine (lex s key_import ∷ ts) = (omega arith, λ x r g. (omega (arith, g.0), import_rule g.1))
  import_fine _ = tt

  pub type_spec_fine : (ts : Lexemes) → Step mark read_type_spec ts (type_spec_step mark ts)
  unfolding type_spec_step
  type_spec_fine (lex s (ident n) ∷ lex c (assign None) ∷ ts) = (omega arith, λ t r g. (omega (arith, g.0), alias_spec_rule g.1))
  type_spec_fine (lex s (ident n) ∷ ts) = (omega arith, λ t r g. (omega (arith, g.0), type_spec_rule g.1))
  type_spec_fine _ = tt

  type_specs_after_fine : (ts : Lexemes) (x : TypeSpec S) (r : Lexemes) → Good mark read_type_spec ts x r → Fine mark (8 * length ts + 1) (Good mark read_type_specs ts) (type_specs_after mark x r)
  type_specs_after_fine ts x (lex c semicolon ∷ r) g = (omega (arith, g.0), λ xs r2 k. (omega (arith, g.0, k.0), more_type_specs_rule g.1 k.1))
  type_specs_after_fine ts x (lex c end_paren ∷ r) g = (omega (arith, g.0), last_type_spec_rule g.1)
  type_specs_after_fine ts x _ g = tt

  pub type_specs_fine : (ts : Lexemes) → Step mark read_type_specs ts (type_specs_step mark ts)
  unfolding type_specs_step
  type_specs_fine (lex c end_paren ∷ ts) = (omega arith, no_type_specs_rule)
  type_specs_fine ts = (omega arith, λ x r g. type_specs_after_fine ts x r g)

  pub receiver_fine : (ts : Lexemes) → Step mark read_receiver ts (receiver_step mark ts)
  unfolding receiver_step
  receiver_fine (lex c (ident x) ∷ lex p (binary_op Mul) ∷ lex s (ident n) ∷ r) = (omega arith, named_pointer_receiver_rule)
  receiver_fine (lex c (ident x) ∷ lex s (ident n) ∷ r) = (omega arith, named_receiver_rule)
  receiver_fine (lex p (binary_op Mul) ∷ lex s (ident n) ∷ r) = (omega arith, pointer_receiver_rule)
  receiver_fine (lex s (ident n) ∷ r) = (omega arith, receiver_rule)
  receiver_fine _ = tt

  plain_func : (s : Span) (ts : Lexemes) → Fine mark (8 * length (lex s key_func ∷ ts) + 0) (Good mark read_top (lex s key_func ∷ ts)) (func_step mark (lex s key_func ∷ ts) None ts)
  plain_func s (lex c (ident n) ∷ a) = (omega arith, λ g mid d. (omega (arith, d.0), λ b r2 j. (omega (arith, d.0, j.0), top_func_rule d.1 j.1)))
  plain_func s _ = tt

  method : (s b : Span) (ts : Lexemes) (v : Receiver S) (e : Span) (r : Lexemes) → Good mark read_receiver ts v (lex e end_paren ∷ r)
      → Fine mark (8 * length (lex s key_func ∷ lex b paren ∷ ts) + 0) (Good mark read_top (lex s key_func ∷ lex b paren ∷ ts)) (func_step mark (lex s key_func ∷ lex b paren ∷ ts) (Some v) r)
  method s b ts v e (lex c (ident n) ∷ a) g = (omega (arith, g.0), λ x mid d. (omega (arith, g.0, d.0), λ y r2 j. (omega (arith, g.0, d.0, j.0), top_method_rule g.1 d.1 j.1)))
  method s b ts v e _ g = tt

  pub top_fine : (ts : Lexemes) → Step mark read_top ts (top_step mark ts)
  unfolding top_step
  top_fine (lex s key_const ∷ ts) = (omega arith, λ x r g. (omega (arith, g.0), top_const_rule g.1))
  top_fine (lex s key_var ∷ ts) = (omega arith, λ x r g. (omega (arith, g.0), top_var_rule g.1))
  top_fine (lex s key_type ∷ lex b paren ∷ ts) =
      (omega arith, λ xs r g. fine_end_paren mark _ _ (λ z. Good mark read_type_specs ts xs z) r _ g (λ e r g. (omega (arith, g.0), top_type_group_rule g.1)))
  top_fine (lex s key_type ∷ ts) = (omega arith, λ x r g. (omega (arith, g.0), top_type_rule g.1))
  top_fine (lex s key_func ∷ lex b paren ∷ ts) =
      (omega arith, λ v r g. fine_end_paren mark _ _ (λ z. Good mark read_receiver ts v z) r _ g (λ e r g. method s b ts v e r g))
  top_fine (lex s key_func ∷ ts) = plain_func s ts
  top_fine _ = tt

  imports_after_fine : (ts : Lexemes) (d : ImportDecl S) (r : Lexemes) → Good mark read_import ts d r → Fine mark (8 * length ts + 1) (Good mark read_imports ts) (imports_after mark ts (Some (d, r)))
  imports_after_fine ts d (lex c semicolon ∷ r) g = (omega (arith, g.0), λ ds r2 k. (omega (arith, g.0, k.0), more_imports_rule g.1 k.1))
  imports_after_fine ts d _ g = (omega arith, no_imports_rule)

  pub imports_fine : (ts : Lexemes) → Step mark read_imports ts (imports_step mark ts)
  unfolding imports_step
  imports_fine ts = (omega arith, (omega arith, no_imports_rule), λ d r g. imports_after_fine ts d r g)

  tops_after_fine : (ts : Lexemes) (d : Decl S) (r : Lexemes) → Good mark read_top ts d r → Fine mark (8 * length ts + 1) (Good mark read_tops ts) (tops_after mark ts (Some (d, r)))
  tops_after_fine ts d (lex c semicolon ∷ r) g = (omega (arith, g.0), λ ds r2 k. (omega (arith, g.0, k.0), more_tops_rule g.1 k.1))
  tops_after_fine ts d _ g = (omega arith, no_tops_rule)

  pub tops_fine : (ts : Lexemes) → Step mark read_tops ts (tops_step mark ts)
  unfolding tops_step
  tops_fine ts = (omega arith, (omega arith, no_tops_rule), λ d r g. tops_after_fine ts d r g)

  pub front_fine : (ts : Lexemes) → Step mark read_front ts (front_step mark ts)
  unfolding front_step
  front_fine (lex s key_package ∷ lex c (ident n) ∷ lex d semicolon ∷ ts) =
      fine_unless mark _ _ (is_blank n) _ (λ named. (omega arith, λ is mid g. (omega (arith, g.0), λ ds r k. (omega (arith, g.0, k.0), front_rule named g.1 k.1))))
  front_fine _ = tt

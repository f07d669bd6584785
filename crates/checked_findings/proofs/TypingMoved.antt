-- Typing, and what is asked, are alike over a tree with other spans in the place of its own.
use Rattle.std.specs.Prelude.{◌≡◌, refl, ℕ, List, map, length, Option}
use mathlib.Core.Path.{sym, ◌∙◌}
use Rattle.std.specs.Option.{option_map}
use Rattle.go_tree.specs.Tree.{NameAt, TypeExpr, Sig, Expr, Exprs, ExprOption, Value, ValueOption, no_value, some_value}
use Rattle.go_tree.specs.Tree.{Stmt, StmtOption, RangeLeft}
use Rattle.go_tree.specs.ScopeNames.FreeNames.{names_of, declared, declared_option, defined}
use Rattle.go_tree.specs.GoTypes.Types.{GoType}
use Rattle.go_tree.specs.GoTypes.Defined.{Defined}
use Rattle.go_tree.specs.GoTypes.Entities.{Env}
use Rattle.go_tree.specs.GoTypes.TypeNames.{type_meant, func_type, written_type}
use Rattle.go_tree.specs.GoTypes.Operands.{Operand}
use Rattle.go_tree.specs.GoTypes.Bodies.{literal_env, no_values}
use Rattle.go_tree.specs.GoTypes.Typing.{parts, all_parts, bound, element, places, targets, declares, declares_first}
use Rattle.go_tree.specs.GoTypes.Typing.{range_declares}
use Rattle.go_tree.proofs.ScopeNames.FreeNamesBare.{names_of-bare, declared-bare, declared_option-bare, defined-bare}
use Rattle.go_tree.proofs.GoTypes.TypingBare.{type_meant-bare, written_type-bare, func_type-bare, parts-bare}
use Rattle.go_tree.proofs.GoTypes.TypingBare.{all_parts-bare, bound-bare, element-bare, places-bare, targets-bare}
use Rattle.go_tree.proofs.GoTypes.TypingBare.{declares-bare, declares_first-bare, range_declares-bare}
use Rattle.run_rules.specs.Respanned.{name_with, type_with, sig_with, expr_with, exprs_with, expr_option_with}
use Rattle.run_rules.specs.Respanned.{value_with, value_option_with, stmt_with, stmt_option_with, left_with}
use Rattle.checked_findings.specs.Facts.{Asked}
use Rattle.checked_findings.specs.Asking.{each_of, behind_field, value_asked}
use Rattle.checked_findings.specs.Found.{literal_results, constants_ask, variables_ask, assigned_ask, defined_ask}
use Rattle.checked_findings.specs.Found.{ranged_asks}
use Rattle.checked_findings.proofs.FoundBare.{length-bare, no_values-bare, literal_env-bare, literal_results-bare}
use Rattle.checked_findings.proofs.FoundBare.{each_of-bare, value_asked-bare, constants_ask-bare, variables_ask-bare}
use Rattle.checked_findings.proofs.FoundBare.{assigned_ask-bare, defined_ask-bare, ranged_asks-bare}
use Rattle.checked_findings.proofs.Spanless.{names-spanless, type-spanless, type_option-spanless, sig-spanless}
use Rattle.checked_findings.proofs.Spanless.{expr-spanless, exprs-spanless, expr_option-spanless, value-spanless}
use Rattle.checked_findings.proofs.Spanless.{value_option-spanless, stmt-spanless, stmt_option-spanless, left-spanless}

module _ {S T : Type 0} (to : S → T) where
  pub type_meant-with : (a : Env) (t : TypeExpr S) → type_meant a (type_with to t) ≡ type_meant a t
  type_meant-with a t =
      sym (type_meant-bare a (type_with to t)) ∙ (λ w. type_meant a (type-spanless to t w)) ∙ type_meant-bare a t

  pub written_type-with : (a : Env) (t : Option (TypeExpr S)) → written_type a (option_map (type_with to) t) ≡
      written_type a t
  written_type-with a t =
      sym (written_type-bare a (option_map (type_with to) t)) ∙ (λ w. written_type a (type_option-spanless to t w)) ∙
      written_type-bare a t

  pub func_type-with : (a : Env) (g : Sig S) → func_type a (sig_with to g) ≡ func_type a g
  func_type-with a g =
      sym (func_type-bare a (sig_with to g)) ∙ (λ w. func_type a (sig-spanless to g w)) ∙ func_type-bare a g

  pub parts-with : (a : Env) (e : Expr S) → parts a (expr_with to e) ≡ parts a e
  parts-with a e =
      sym (parts-bare a (expr_with to e)) ∙ (λ w. parts a (expr-spanless to e w)) ∙ parts-bare a e

  pub all_parts-with : (a : Env) (e : Exprs S) → all_parts a (exprs_with to e) ≡ all_parts a e
  all_parts-with a e =
      sym (all_parts-bare a (exprs_with to e)) ∙ (λ w. all_parts a (exprs-spanless to e w)) ∙ all_parts-bare a e

  pub bound-with : (a : Env) (e : ExprOption S) → bound a (expr_option_with to e) ≡ bound a e
  bound-with a e =
      sym (bound-bare a (expr_option_with to e)) ∙ (λ w. bound a (expr_option-spanless to e w)) ∙ bound-bare a e

  pub element-with : (a : Env) (t : Option GoType) (v : Value S) → element a t (value_with to v) ≡ element a t v
  element-with a t v =
      sym (element-bare a t (value_with to v)) ∙ (λ w. element a t (value-spanless to v w)) ∙ element-bare a t v

  pub places-with : (a : Env) (e : Exprs S) → places a (exprs_with to e) ≡ places a e
  places-with a e =
      sym (places-bare a (exprs_with to e)) ∙ (λ w. places a (exprs-spanless to e w)) ∙ places-bare a e

  pub targets-with : (a : Env) (e : Exprs S) → targets a (exprs_with to e) ≡ targets a e
  targets-with a e =
      sym (targets-bare a (exprs_with to e)) ∙ (λ w. targets a (exprs-spanless to e w)) ∙ targets-bare a e

  pub declares-with : (a : Env) (s : Stmt S) → declares a (stmt_with to s) ≡ declares a s
  declares-with a s =
      sym (declares-bare a (stmt_with to s)) ∙ (λ w. declares a (stmt-spanless to s w)) ∙ declares-bare a s

  pub declares_first-with : (a : Env) (s : StmtOption S) → declares_first a (stmt_option_with to s) ≡ declares_first a s
  declares_first-with a s =
      sym (declares_first-bare a (stmt_option_with to s)) ∙ (λ w. declares_first a (stmt_option-spanless to s w)) ∙
      declares_first-bare a s

  pub range_declares-with : (a : Env) (o : Option Operand) (l : RangeLeft S) → range_declares a o (left_with to l) ≡
      range_declares a o l
  range_declares-with a o l =
      sym (range_declares-bare a o (left_with to l)) ∙ (λ w. range_declares a o (left-spanless to l w)) ∙
      range_declares-bare a o l

  pub names_of-with : (ns : List (NameAt S)) → names_of (map (name_with to) ns) ≡ names_of ns
  names_of-with ns =
      sym (names_of-bare (map (name_with to) ns)) ∙ (λ w. names_of (names-spanless to ns w)) ∙ names_of-bare ns

  pub declared-with : (s : Stmt S) → declared (stmt_with to s) ≡ declared s
  declared-with s =
      sym (declared-bare (stmt_with to s)) ∙ (λ w. declared (stmt-spanless to s w)) ∙ declared-bare s

  pub declared_option-with : (s : StmtOption S) → declared_option (stmt_option_with to s) ≡ declared_option s
  declared_option-with s =
      sym (declared_option-bare (stmt_option_with to s)) ∙ (λ w. declared_option (stmt_option-spanless to s w)) ∙
      declared_option-bare s

  pub defined-with : (l : RangeLeft S) → defined (left_with to l) ≡ defined l
  defined-with l =
      sym (defined-bare (left_with to l)) ∙ (λ w. defined (left-spanless to l w)) ∙ defined-bare l

  pub no_values-with : (e : Exprs S) → no_values (exprs_with to e) ≡ no_values e
  no_values-with e =
      sym (no_values-bare (exprs_with to e)) ∙ (λ w. no_values (exprs-spanless to e w)) ∙ no_values-bare e

  pub length-with : (ns : List (NameAt S)) → length (map (name_with to) ns) ≡ length ns
  length-with ns =
      sym (length-bare (map (name_with to) ns)) ∙ (λ w. length (names-spanless to ns w)) ∙ length-bare ns

  pub literal_results-with : (a : Env) (g : Sig S) → literal_results a (sig_with to g) ≡ literal_results a g
  literal_results-with a g =
      sym (literal_results-bare a (sig_with to g)) ∙ (λ w. literal_results a (sig-spanless to g w)) ∙
      literal_results-bare a g

  pub literal_env-with : (a : Env) (g : Sig S) → literal_env a (sig_with to g) ≡ literal_env a g
  literal_env-with a g =
      sym (literal_env-bare a (sig_with to g)) ∙ (λ w. literal_env a (sig-spanless to g w)) ∙ literal_env-bare a g

  pub each_of-with : (x : Asked) (e : Exprs S) → each_of x (exprs_with to e) ≡ each_of x e
  each_of-with x e =
      sym (each_of-bare x (exprs_with to e)) ∙ (λ w. each_of x (exprs-spanless to e w)) ∙ each_of-bare x e

  pub value_asked-with : (ds : List Defined) (home : ℕ) (k : ValueOption S) → value_asked ds home (value_option_with to
      k) ≡ value_asked ds home k
  value_asked-with ds home k =
      sym (value_asked-bare ds home (value_option_with to k)) ∙ (λ w. value_asked ds home (value_option-spanless to k
      w)) ∙ value_asked-bare ds home k

  pub constants_ask-with : (a : Env) (t : Option (TypeExpr S)) (e : Exprs S) → constants_ask a (option_map (type_with
      to) t) (exprs_with to e) ≡ constants_ask a t e
  constants_ask-with a t e =
      sym (constants_ask-bare a (option_map (type_with to) t) (exprs_with to e)) ∙ (λ w. constants_ask a
      (type_option-spanless to t w) (exprs-spanless to e w)) ∙ constants_ask-bare a t e

  pub variables_ask-with : (a : Env) (ns : List (NameAt S)) (t : Option (TypeExpr S)) (e : Exprs S) → variables_ask a
      (map (name_with to) ns) (option_map (type_with to) t) (exprs_with to e) ≡ variables_ask a ns t e
  variables_ask-with a ns t e =
      sym (variables_ask-bare a (map (name_with to) ns) (option_map (type_with to) t) (exprs_with to e)) ∙ (λ w.
      variables_ask a (names-spanless to ns w) (type_option-spanless to t w) (exprs-spanless to e w)) ∙
      variables_ask-bare a ns t e

  pub assigned_ask-with : (a : Env) (l : Exprs S) (e : Exprs S) → assigned_ask a (exprs_with to l) (exprs_with to e) ≡
      assigned_ask a l e
  assigned_ask-with a l e =
      sym (assigned_ask-bare a (exprs_with to l) (exprs_with to e)) ∙ (λ w. assigned_ask a (exprs-spanless to l w)
      (exprs-spanless to e w)) ∙ assigned_ask-bare a l e

  pub defined_ask-with : (a : Env) (ns : List (NameAt S)) (e : Exprs S) → defined_ask a (map (name_with to) ns)
      (exprs_with to e) ≡ defined_ask a ns e
  defined_ask-with a ns e =
      sym (defined_ask-bare a (map (name_with to) ns) (exprs_with to e)) ∙ (λ w. defined_ask a (names-spanless to ns w)
      (exprs-spanless to e w)) ∙ defined_ask-bare a ns e

  pub ranged_asks-with : (a : Env) (e : Expr S) (l : RangeLeft S) → ranged_asks a (expr_with to e) (left_with to l) ≡
      ranged_asks a e l
  ranged_asks-with a e l =
      sym (ranged_asks-bare a (expr_with to e) (left_with to l)) ∙ (λ w. ranged_asks a (expr-spanless to e w)
      (left-spanless to l w)) ∙ ranged_asks-bare a e l

  pub behind_field-with : (k : ValueOption S) (u : GoType) → behind_field (value_option_with to k) u ≡ behind_field k u
  behind_field-with no_value u = refl
  behind_field-with (some_value v) u = refl

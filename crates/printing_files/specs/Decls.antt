-- Declarations of constants, and of functions that print them (Go specification, Constant declarations; Function
-- declarations; Expression statements).
use Rattle.std.specs.Prelude.{ℕ, Bool, true, false, not, ◌&&◌, List, [], ◌∷◌, Option, Some, None, bytes_eq}
use Rattle.std.specs.Prelude.{codes}
use Rattle.go_tree.specs.Tree.{NameAt, TypeExpr, Exprs, no_exprs, expr_and, Stmt, const_decl, eval, Stmts, no_stmts}
use Rattle.go_tree.specs.Tree.{stmt_and, ValueSpecs, no_specs, spec}
use Rattle.go_tree.specs.File.{Func, Decl, values, func}
use Rattle.printing_files.specs.Operands.{is_operand, is_print}

-- the blank identifier
abbrev pub is_blank : List ℕ → Bool
is_blank n = bytes_eq n (codes "_")

-- nothing is listed
abbrev pub is_nothing : {A : Type 0} → List A → Bool
is_nothing [] = true
is_nothing (x ∷ xs) = false

module _ {S : Type 0} where
  -- one name, other than `_`
  abbrev pub is_one_name : List (NameAt S) → Bool
  is_one_name [] = false
  is_one_name (n ∷ ns) = is_nothing ns && not (is_blank n.name)

  -- no expressions
  abbrev pub are_none : Exprs S → Bool
  are_none no_exprs = true
  are_none (expr_and e es) = false

  -- one operand
  abbrev pub is_one_operand : Exprs S → Bool
  is_one_operand no_exprs = false
  is_one_operand (expr_and e es) = are_none es && is_operand e

  -- no type is written
  abbrev pub is_untyped : Option (TypeExpr S) → Bool
  is_untyped None = true
  is_untyped (Some t) = false

  -- one name other than `_`, no type, and an operand
  abbrev pub is_constant : (S × List (NameAt S) × Option (TypeExpr S) × Exprs S) → Bool
  is_constant (s, ns, t, es) = is_untyped t && (is_one_name ns && is_one_operand es)

  -- each spec is such
  abbrev pub are_constants : ValueSpecs S → Bool
  are_constants no_specs = true
  are_constants (spec s ns t es ss) = is_constant (s, ns, t, es) && are_constants ss

  -- a statement that prints
  abbrev pub is_printing : Stmt S → Bool
  is_printing (eval _ e) = is_print e
  is_printing _ = false

  -- each statement does
  abbrev pub are_printing : Stmts S → Bool
  are_printing no_stmts = true
  are_printing (stmt_and s ss) = is_printing s && are_printing ss

  -- no receiver
  abbrev pub is_function : Func S → Bool
  is_function f = elim f.receiver [ None ↦ true | Some r ↦ false ]

  -- a function without receiver, parameters and results that prints
  abbrev pub is_printer : Func S → Bool
  is_printer f =
      is_function f && (is_nothing f.sig.params && (is_nothing f.sig.results && are_printing f.body))

  -- constants, or such a function
  abbrev pub is_plain : Decl S → Bool
  is_plain (values (const_decl _ _ ss)) = are_constants ss
  is_plain (func f) = is_printer f
  is_plain _ = false

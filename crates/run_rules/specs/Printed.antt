-- Declarations of constants, and of functions that print them (Go specification, Constant declarations; Function
-- declarations; Expression statements; Calls; Selectors; Integer literals).
use Rattle.std.specs.Prelude.{◌≡◌, ℕ, Bool, List, [], ◌∷◌, Some, None, slice_get}
use Rattle.go_tree.specs.declared.exprs.Rest.TheVariants.{Plain}
use Rattle.go_tree.specs.Tree.{NameAt, Expr, ident, int_lit, selector, call, Exprs, no_exprs, expr_and, const_decl}
use Rattle.go_tree.specs.Tree.{eval, Stmts, no_stmts, stmt_and, ValueSpecs, no_specs, spec}
use Rattle.go_tree.specs.File.{Func, Decl, values, func}
use Rattle.pkg_graph.specs.Package.{Package}
use Rattle.run_rules.specs.Sites.{Where}

module _ {S : Type 0} where
  -- a name, an integer literal, or a name behind such an expression and a dot
  pub data IsFlat : Expr S → Type 0 where
    a_name : {s : S} {n : List ℕ} → IsFlat (ident s n)
    a_number : {s : S} {n : List ℕ} → IsFlat (int_lit s n)
    a_selection : {s : S} {b : Expr S} {n : NameAt S} → IsFlat b → IsFlat (selector s b n)

  -- all of a list are such
  pub data AllFlat : Exprs S → Type 0 where
    no_operands : AllFlat no_exprs
    and_operand : {e : Expr S} {es : Exprs S} → IsFlat e → AllFlat es → AllFlat (expr_and e es)

  -- such an expression, or a call of one with such arguments
  pub data IsPrint : Expr S → Type 0 where
    an_operand : {e : Expr S} → IsFlat e → IsPrint e
    a_call : {s : S} {f : Expr S} {xs : Exprs S} → IsFlat f → AllFlat xs → IsPrint (call s f xs Plain)

  -- each statement is one of these
  pub data PrintStmts : Stmts S → Type 0 where
    no_prints : PrintStmts no_stmts
    and_print : {s : S} {e : Expr S} {ss : Stmts S} → IsPrint e → PrintStmts ss → PrintStmts (stmt_and (eval s e) ss)

  -- each spec has one name, no type, and such an expression of its own
  pub data FlatConstants : ValueSpecs S → Type 0 where
    no_constants : FlatConstants no_specs
    and_constant : {s : S} {n : NameAt S} {e : Expr S} {ss : ValueSpecs S} → IsFlat e → FlatConstants ss
        → FlatConstants (spec s (n ∷ []) None (expr_and e no_exprs) ss)

  -- constants, or a function without receiver, parameters and results
  pub data IsPrinted : Decl S → Type 0 where
    some_constants : {s : S} {g : Bool} {ss : ValueSpecs S} → FlatConstants ss → IsPrinted (values (const_decl s g ss))
    a_function : {f : Func S} → f.receiver ≡ None → f.sig.params ≡ [] → f.sig.results ≡ [] → PrintStmts f.body
        → IsPrinted (func f)

  -- so is each declaration of each file of packages
  abbrev pub ArePrinted : List (Package S) → Type 0
  ArePrinted ps =
      (w : Where S) → slice_get ps w.number ≡ Some w.of → slice_get w.of.files w.file_number ≡ Some w.source → (i : ℕ)
      (d : Decl S) → slice_get w.source.tree.decls i ≡ Some d → IsPrinted d

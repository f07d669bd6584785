-- Declarations of files that print only.
use Rattle.std.proofs.Common.{◌≡◌, refl, subst, ℕ, zero, suc, Bool, true, false, not, ◌&&◌, List, [], ◌∷◌, Option, Some, None}
use Rattle.std.specs.Prelude.{slice_get}
use Rattle.std.specs.List.{list_all}
use Rattle.std.proofs.lemmas.Bool.{and_parts}
use Rattle.std.proofs.lemmas.Option.{same_Some}
use Rattle.go_tree.specs.declared.exprs.Rest.TheVariants.{Plain}
use Rattle.go_tree.specs.Tree.{NameAt, TypeExpr, Expr, ident, int_lit, selector, call, Exprs, no_exprs, expr_and, const_decl, eval, Stmts, no_stmts, stmt_and, ValueSpecs, no_specs, spec}
use Rattle.go_tree.specs.File.{Receiver, Func, Decl, values, func}
use Rattle.pkg_graph.specs.Package.{Package}
use Rattle.printing_files.specs.Operands.{is_name_alone, is_operand, are_operands, is_println, is_print}
use Rattle.printing_files.specs.Decls.{is_blank, is_nothing, is_constant, are_constants, are_printing, is_function, is_printer, is_plain}
use Rattle.printing_files.specs.Files.{prints_only}
use Rattle.run_rules.specs.Printed.{IsFlat, a_name, a_number, a_selection, AllFlat, no_operands, and_operand, IsPrint, a_call, PrintStmts, no_prints, and_print, FlatConstants, no_constants, and_constant, IsPrinted, some_constants, a_function, ArePrinted}
use Rattle.checked_modules.specs.RefusedBodies.PrintedPackages.Packages.{files_print_only, print_only}
use Rattle.checked_modules.specs.RefusedBodies.PrintedPackages.Laws.{PrintOnlyIsPrinted}

passes : {A : Type 0} (p : A → Bool) (xs : List A) (k : ℕ) (x : A) → list_all p xs ≡ true → slice_get xs k ≡ Some x → p x ≡ true
passes p [] k x h e = absurd cc
passes p (y ∷ ys) zero x h e = subst (λ z. p z ≡ true) (same_Some y x e) (and_parts (p y) (list_all p ys) h).0
passes p (y ∷ ys) (suc k) x h e = passes p ys k x (and_parts (p y) (list_all p ys) h).1 e

nothing_there : {A : Type 0} (xs : List A) → is_nothing xs ≡ true → xs ≡ []
nothing_there [] h = refl
nothing_there (x ∷ xs) h = absurd cc

-- where a constant has something else than one operand, it isn't such
not_one : {A : Type 0} (b : Bool) → (b && false) ≡ true → A
not_one true h = absurd cc
not_one false h = absurd cc

module _ {S : Type 0} where
  -- ---- operands

  name_flat : (e : Expr S) → is_name_alone e ≡ true → IsFlat e
  name_flat (ident s n) h = a_name
  name_flat e h = absurd cc

  operand_flat : (e : Expr S) → is_operand e ≡ true → IsFlat e
  operand_flat (ident s n) h = a_name
  operand_flat (int_lit s n) h = a_number
  operand_flat (selector s b n) h = a_selection (name_flat b h)
  operand_flat e h = absurd cc

  operands_flat : (es : Exprs S) → are_operands es ≡ true → AllFlat es
  operands_flat no_exprs h = no_operands
  operands_flat (expr_and e es) h = let b = and_parts (is_operand e) (are_operands es) h in and_operand (operand_flat e b.0) (operands_flat es b.1)

  -- ---- statements

  println_flat : (e : Expr S) → is_println e ≡ true → IsFlat e
  println_flat (ident s n) h = a_name
  println_flat e h = absurd cc

  print_printed : (e : Expr S) → is_print e ≡ true → IsPrint e
  print_printed (call s f xs Plain) h = let b = and_parts (is_println f) (are_operands xs) h in a_call (println_flat f b.0) (operands_flat xs b.1)
  print_printed e h = absurd cc

  stmts_printed : (ss : Stmts S) → are_printing ss ≡ true → PrintStmts ss
  stmts_printed no_stmts h = no_prints
  stmts_printed (stmt_and (eval s e) ss) h = let b = and_parts (is_print e) (are_printing ss) h in and_print (print_printed e b.0) (stmts_printed ss b.1)
  stmts_printed (stmt_and s ss) h = absurd cc

  -- ---- constants

  spec_flat : (s : S) (ns : List (NameAt S)) (t : Option (TypeExpr S)) (es : Exprs S) (ss : ValueSpecs S) → is_constant (s, ns, t, es) ≡ true → FlatConstants ss → FlatConstants (spec s ns t es ss)
  spec_flat s (n ∷ []) None (expr_and e no_exprs) ss h more = and_constant (operand_flat e (and_parts (not (is_blank n.name)) (is_operand e) h).1) more
  spec_flat s (n ∷ []) None (expr_and e (expr_and f es)) ss h more = not_one (not (is_blank n.name)) h
  spec_flat s (n ∷ []) None no_exprs ss h more = not_one (not (is_blank n.name)) h
  spec_flat s [] None es ss h more = absurd cc
  spec_flat s (n ∷ m ∷ ns) None es ss h more = absurd cc
  spec_flat s ns (Some t) es ss h more = absurd cc

  specs_flat : (ss : ValueSpecs S) → are_constants ss ≡ true → FlatConstants ss
  specs_flat no_specs h = no_constants
  specs_flat (spec s ns t es ss) h = let b = and_parts (is_constant (s, ns, t, es)) (are_constants ss) h in spec_flat s ns t es ss b.0 (specs_flat ss b.1)

  -- ---- declarations

  none_there : (o : Option (Receiver S)) → elim o [ None ↦ true | Some r ↦ false ] ≡ true → o ≡ None
  none_there None h = refl
  none_there (Some r) h = absurd cc

  printer_printed : (f : Func S) → is_printer f ≡ true → IsPrinted (func f)
  printer_printed f h =
      let a = and_parts (is_function f) (is_nothing f.sig.params && (is_nothing f.sig.results && are_printing f.body)) h in
      let b = and_parts (is_nothing f.sig.params) (is_nothing f.sig.results && are_printing f.body) a.1 in
      let c = and_parts (is_nothing f.sig.results) (are_printing f.body) b.1 in
      a_function (none_there f.receiver a.0) (nothing_there f.sig.params b.0) (nothing_there f.sig.results c.0) (stmts_printed f.body c.1)

  plain_printed : (d : Decl S) → is_plain d ≡ true → IsPrinted d
  plain_printed (values (const_decl s g ss)) h = some_constants (specs_flat ss h)
  plain_printed (func f) h = printer_printed f h
  plain_printed d h = absurd cc

  -- ---- packages

  its_decls : (ps : List (Package S)) → print_only ps ≡ true → ArePrinted ps
  its_decls ps h w e f i d g =
      plain_printed d
      (passes is_plain w.source.tree.decls i d
      (passes (λ x. prints_only x.tree) w.of.files w.file_number w.source (passes files_print_only ps w.number w.of h e) f) g)

pub print_only_printed : (S : Type 0) → PrintOnlyIsPrinted S
print_only_printed S ps h = its_decls ps h

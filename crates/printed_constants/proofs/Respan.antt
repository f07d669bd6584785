-- The same declarations with other spans.
use Rattle.std.proofs.Common.{◌≡◌, refl, ap, List, [], ◌∷◌, map, Option, Some, None}
use Rattle.std.specs.Option.{option_map}
use Rattle.go_tree.specs.declared.exprs.Rest.{Rest}
use Rattle.go_tree.specs.declared.exprs.Rest.TheVariants.{Plain, Whole, Packed, Empty}
use Rattle.go_tree.specs.Tree.{Param, Expr, ident, int_lit, rune_lit, str_lit, composite, selector, index, slice, call, func_lit, type_operand, unary, binary, star, Exprs, no_exprs, expr_and, const_decl, var_decl, empty, eval, step, assign, define, return_, break_, continue_, inner, if_, for_, range_, switch, defer, label, Stmts, no_stmts, stmt_and, ValueSpecs, no_specs, spec}
use Rattle.go_tree.specs.File.{Receiver, Decl, values, types, func}
use Rattle.run_rules.specs.Respanned.{expr_with, exprs_with, stmts_with, specs_with, param_with, receiver_with, decl_with}
use Rattle.run_rules.specs.Printed.{IsFlat, a_name, a_number, a_selection, AllFlat, no_operands, and_operand, IsPrint, an_operand, a_call, PrintStmts, no_prints, and_print, FlatConstants, no_constants, and_constant, IsPrinted, some_constants, a_function}

none_before : {A B : Type 0} (f : A → B) (o : Option A) → option_map f o ≡ None → o ≡ None
none_before f None e = refl
none_before f (Some x) e = absurd cc

empty_before : {A B : Type 0} (f : A → B) (xs : List A) → map f xs ≡ [] → xs ≡ []
empty_before f [] e = refl
empty_before f (x ∷ xs) e = absurd cc

module _ {S T : Type 0} (to : S → T) where
  -- ---- there

  flat_there : {e : Expr S} → IsFlat e → IsFlat (expr_with to e)
  flat_there a_name = a_name
  flat_there a_number = a_number
  flat_there (a_selection h) = a_selection (flat_there h)

  all_there : {es : Exprs S} → AllFlat es → AllFlat (exprs_with to es)
  all_there no_operands = no_operands
  all_there (and_operand h hs) = and_operand (flat_there h) (all_there hs)

  print_there : {e : Expr S} → IsPrint e → IsPrint (expr_with to e)
  print_there (an_operand h) = an_operand (flat_there h)
  print_there (a_call h hs) = a_call (flat_there h) (all_there hs)

  stmts_there : {ss : Stmts S} → PrintStmts ss → PrintStmts (stmts_with to ss)
  stmts_there no_prints = no_prints
  stmts_there (and_print h hs) = and_print (print_there h) (stmts_there hs)

  specs_there : {ss : ValueSpecs S} → FlatConstants ss → FlatConstants (specs_with to ss)
  specs_there no_constants = no_constants
  specs_there (and_constant h hs) = and_constant (flat_there h) (specs_there hs)

  pub decl_there : {d : Decl S} → IsPrinted d → IsPrinted (decl_with to d)
  decl_there (some_constants h) = some_constants (specs_there h)
  decl_there (a_function r xs ys h) = a_function (ap (λ (o : Option (Receiver S)). option_map (receiver_with to) o) r) (ap (λ (zs : List (Param S)). map (param_with to) zs) xs) (ap (λ (zs : List (Param S)). map (param_with to) zs) ys) (stmts_there h)

  -- ---- and back

  flat_back : (e : Expr S) → IsFlat (expr_with to e) → IsFlat e
  flat_back (ident s n) h = a_name
  flat_back (int_lit s n) h = a_number
  flat_back (selector s b n) (a_selection h) = a_selection (flat_back b h)
  flat_back (call s f xs r) h = elim h [ ]
  flat_back (rune_lit s n) h = elim h [ ]
  flat_back (str_lit s n) h = elim h [ ]
  flat_back (composite s t es) h = elim h [ ]
  flat_back (index s b i) h = elim h [ ]
  flat_back (slice s b i j) h = elim h [ ]
  flat_back (func_lit s g z b) h = elim h [ ]
  flat_back (type_operand s t) h = elim h [ ]
  flat_back (unary s o e) h = elim h [ ]
  flat_back (binary s o a b) h = elim h [ ]
  flat_back (star s e) h = elim h [ ]

  all_back : (es : Exprs S) → AllFlat (exprs_with to es) → AllFlat es
  all_back no_exprs h = no_operands
  all_back (expr_and e es) (and_operand h hs) = and_operand (flat_back e h) (all_back es hs)

  no_flat_call : {X : Type 0} {s : T} {f : Expr T} {xs : Exprs T} {r : Rest} → IsFlat (call s f xs r) → X
  no_flat_call h = elim h [ ]

  print_back : (e : Expr S) → IsPrint (expr_with to e) → IsPrint e
  print_back (call s f xs Plain) (a_call h hs) = a_call (flat_back f h) (all_back xs hs)
  print_back (call s f xs Plain) (an_operand h) = no_flat_call h
  print_back (call s f xs Whole) (an_operand h) = no_flat_call h
  print_back (call s f xs Packed) (an_operand h) = no_flat_call h
  print_back (call s f xs Empty) (an_operand h) = no_flat_call h
  print_back (ident s n) h = an_operand a_name
  print_back (int_lit s n) h = an_operand a_number
  print_back (selector s b n) (an_operand h) = an_operand (flat_back (selector s b n) h)
  print_back (rune_lit s n) (an_operand h) = an_operand (flat_back (rune_lit s n) h)
  print_back (str_lit s n) (an_operand h) = an_operand (flat_back (str_lit s n) h)
  print_back (composite s t es) (an_operand h) = an_operand (flat_back (composite s t es) h)
  print_back (index s b i) (an_operand h) = an_operand (flat_back (index s b i) h)
  print_back (slice s b i j) (an_operand h) = an_operand (flat_back (slice s b i j) h)
  print_back (func_lit s g z b) (an_operand h) = an_operand (flat_back (func_lit s g z b) h)
  print_back (type_operand s t) (an_operand h) = an_operand (flat_back (type_operand s t) h)
  print_back (unary s o e) (an_operand h) = an_operand (flat_back (unary s o e) h)
  print_back (binary s o a b) (an_operand h) = an_operand (flat_back (binary s o a b) h)
  print_back (star s e) (an_operand h) = an_operand (flat_back (star s e) h)

  stmts_back : (ss : Stmts S) → PrintStmts (stmts_with to ss) → PrintStmts ss
  stmts_back no_stmts h = no_prints
  stmts_back (stmt_and (eval s e) ss) (and_print h hs) = and_print (print_back e h) (stmts_back ss hs)
  stmts_back (stmt_and (const_decl s g cs) ss) h = elim h [ ]
  stmts_back (stmt_and (var_decl s g vs) ss) h = elim h [ ]
  stmts_back (stmt_and (empty s) ss) h = elim h [ ]
  stmts_back (stmt_and (step s e b) ss) h = elim h [ ]
  stmts_back (stmt_and (assign s xs o ys) ss) h = elim h [ ]
  stmts_back (stmt_and (define s ns ys) ss) h = elim h [ ]
  stmts_back (stmt_and (return_ s xs) ss) h = elim h [ ]
  stmts_back (stmt_and (break_ s n) ss) h = elim h [ ]
  stmts_back (stmt_and (continue_ s n) ss) h = elim h [ ]
  stmts_back (stmt_and (inner s b) ss) h = elim h [ ]
  stmts_back (stmt_and (if_ s bs z) ss) h = elim h [ ]
  stmts_back (stmt_and (for_ s i t q z b) ss) h = elim h [ ]
  stmts_back (stmt_and (range_ s x e z b) ss) h = elim h [ ]
  stmts_back (stmt_and (switch s i t cs) ss) h = elim h [ ]
  stmts_back (stmt_and (defer s e) ss) h = elim h [ ]
  stmts_back (stmt_and (label s n x) ss) h = elim h [ ]

  specs_back : (ss : ValueSpecs S) → FlatConstants (specs_with to ss) → FlatConstants ss
  specs_back no_specs h = no_constants
  specs_back (spec s (n ∷ []) None (expr_and e no_exprs) ss) (and_constant h hs) = and_constant (flat_back e h) (specs_back ss hs)
  specs_back (spec s [] t es ss) h = elim h [ ]
  specs_back (spec s (n ∷ m ∷ ns) t es ss) h = elim h [ ]
  specs_back (spec s (n ∷ []) (Some t) es ss) h = elim h [ ]
  specs_back (spec s (n ∷ []) None no_exprs ss) h = elim h [ ]
  specs_back (spec s (n ∷ []) None (expr_and e (expr_and f es)) ss) h = elim h [ ]

  pub decl_back : (d : Decl S) → IsPrinted (decl_with to d) → IsPrinted d
  decl_back (values (const_decl s g ss)) (some_constants h) = some_constants (specs_back ss h)
  decl_back (func f) (a_function r xs ys h) = a_function (none_before (receiver_with to) f.receiver r) (empty_before (param_with to) f.sig.params xs) (empty_before (param_with to) f.sig.results ys) (stmts_back f.body h)
  decl_back (types s g ts) h = elim h [ ]
  decl_back (values (eval s e)) h = elim h [ ]
  decl_back (values (var_decl s g ss)) h = elim h [ ]
  decl_back (values (empty s)) h = elim h [ ]
  decl_back (values (step s e b)) h = elim h [ ]
  decl_back (values (assign s xs o ys)) h = elim h [ ]
  decl_back (values (define s ns ys)) h = elim h [ ]
  decl_back (values (return_ s xs)) h = elim h [ ]
  decl_back (values (break_ s n)) h = elim h [ ]
  decl_back (values (continue_ s n)) h = elim h [ ]
  decl_back (values (inner s b)) h = elim h [ ]
  decl_back (values (if_ s bs z)) h = elim h [ ]
  decl_back (values (for_ s i t q z b)) h = elim h [ ]
  decl_back (values (range_ s x e z b)) h = elim h [ ]
  decl_back (values (switch s i t cs)) h = elim h [ ]
  decl_back (values (defer s e)) h = elim h [ ]
  decl_back (values (label s n x)) h = elim h [ ]

-- The value of a constant calls a type, and no function; a function's body calls one.
--   const C = int(1)
--   func F() { }
--   func H() { F() }
use Rattle.std.proofs.Common.{refl, ℕ, false, List, [], ◌∷◌, None, codes}
use Rattle.go_tree.specs.declared.exprs.Rest.TheVariants.{Plain}
use Rattle.go_tree.specs.Tree.{NameAt, ident, int_lit, call, no_exprs, expr_and, const_decl, eval, no_stmts, stmt_and, no_specs, spec}
use Rattle.go_tree.specs.File.{Decl, values, File}
use Rattle.pkg_graph.specs.Package.{Package}
use Rattle.run_rules.specs.Programs.{decl_seen}
use Rattle.run_rules.specs.Steps.{At}
use Rattle.run_rules.proofs.CaseTools.{from, nmf, sig, fn}
use Rattle.value_calls.specs.Calls.{CallNoFunction}

abbrev node : ℕ → ℕ → At
node a b = from a b a b

abbrev name : ℕ → ℕ → List ℕ → NameAt At
name a b n = nmf a b a b n

abbrev constant : Decl At
constant = values (const_decl (node 11 27) false (spec (node 17 27) (name 17 18 (codes "C") ∷ []) None (expr_and (call (node 21 27) (ident (node 21 24) (codes "int")) (expr_and (int_lit (node 25 26) (codes "1")) no_exprs) Plain) no_exprs) no_specs))

abbrev callee : Decl At
callee = fn (node 28 40) None (name 33 34 (codes "F")) (sig [] []) (node 37 40) no_stmts

abbrev caller : Decl At
caller = fn (node 41 57) None (name 46 47 (codes "H")) (sig [] []) (node 50 57) (stmt_and (eval (node 52 55) (call (node 52 55) (ident (node 52 53) (codes "F")) no_exprs Plain)) no_stmts)

abbrev tree : File At
tree = record { package_name = name 8 9 (codes "m"); imports = []; decls = constant ∷ callee ∷ caller ∷ [] }

abbrev package_ : Package At
package_ = record { path = codes "m"; name = codes "m"; files = record { path = codes "m.go"; tree = tree } ∷ [] }

value-calls-none : CallNoFunction (decl_seen (package_ ∷ []) 0 package_ tree constant)
value-calls-none = (tt, (tt, ((λ g e. cc), tt)))

body-calls-one : CallNoFunction (decl_seen (package_ ∷ []) 0 package_ tree caller) → ⊥
body-calls-one h = h.1.0 (record { params = []; results = [] }) refl

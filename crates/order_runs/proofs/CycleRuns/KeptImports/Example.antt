-- What the imports of a file become, one of which goes while another comes; and that a local variable with the name of
-- the import that goes has that name as an identifier, which so is the name of an import no more, though no declaration
-- looks it up.
use Rattle.std.proofs.Common.{◌≡◌, refl, ℕ, false, List, [], ◌∷◌, None, Some, codes}
use Rattle.go_tree.specs.declared.spans.Span.{Span}
use Rattle.go_tree.specs.declared.exprs.Rest.TheVariants.{Plain}
use Rattle.go_tree.specs.Tree.{NameAt, Expr, ident, int_lit, selector, call, no_exprs, expr_and, Stmt, define, eval, no_stmts, stmt_and}
use Rattle.go_tree.specs.File.{ImportSpec, ImportDecl, Decl, func}
use Rattle.run_rules.specs.declared.import_rules.new_import.NewImport.{NewImport}
use Rattle.splice_laws.specs.ImportSplices.AddedFile.{added_spec}
use Rattle.splice_laws.specs.ImportSplices.SettledFile.{settled_decls}
use Rattle.pkg_graph.specs.Package.{Package, specs_in}
use Rattle.order_runs.specs.CycleRuns.ImportCycles.LookedUp.{decl_looked_up}
use Rattle.order_runs.specs.CycleRuns.ImportCycles.OtherImports.{import_path}

abbrev at : ℕ → Span
at n = record { start = n; end = n }

abbrev spec_of : ℕ → List ℕ → ImportSpec Span
spec_of n path = record { span = at n; name = None; path = path }

-- import "m/d"; import "m/h"
abbrev old : List (ImportDecl Span)
old = record { span = at 1; grouped = false; specs = spec_of 2 (codes "m/d") ∷ [] } ∷ record { span = at 3; grouped = false; specs = spec_of 4 (codes "m/h") ∷ [] } ∷ []

-- import "m/e" comes
abbrev new : NewImport
new = record { name = codes "e"; path = codes "m/e"; spelled = false }

-- the import of h goes, and that of e comes first
become : settled_decls [] [] [] (at 4 ∷ []) (new ∷ []) old
    ≡ record { span = tt; grouped = false; specs = added_spec new ∷ [] }
    ∷ record { span = tt; grouped = false; specs = record { span = tt; name = None; path = codes "m/d" } ∷ [] } ∷ []
become = refl

-- packages d, h and e
abbrev packages : List (Package Span)
packages =
    record { path = codes "m/d"; name = codes "d"; files = [] } ∷ record { path = codes "m/h"; name = codes "h"; files = [] } ∷ record { path = codes "m/e"; name = codes "e"; files = [] } ∷ []

-- `d` is the name of the same import
same : import_path packages (spec_of 6 (codes "m/e") ∷ spec_of 2 (codes "m/d") ∷ []) (codes "d") ≡ import_path packages (specs_in old) (codes "d")
same = refl

-- `h`, also where it is a local variable, is the name of an import before, and of none afterwards
before : import_path packages (specs_in old) (codes "h") ≡ Some (codes "m/h")
before = refl

afterwards : import_path packages (spec_of 6 (codes "m/e") ∷ spec_of 2 (codes "m/d") ∷ []) (codes "h") ≡ None
afterwards = refl

-- func main() { h := 1; println(h); println(e.d) }
abbrev named : ℕ → List ℕ → NameAt Span
named n x = record { span = at n; name = x }

abbrev prints : ℕ → Expr Span → Stmt Span
prints n e = eval (at n) (call (at n) (ident (at n) (codes "println")) (expr_and e no_exprs) Plain)

abbrev main : Decl Span
main =
    func (record {
      span = at 10;
      receiver = None;
      name = named 11 (codes "main");
      sig = record { params = []; results = [] };
      body_span = at 12;
      body = stmt_and (define (at 13) (named 13 (codes "h") ∷ []) (expr_and (int_lit (at 14) (codes "1")) no_exprs)) (stmt_and (prints 15 (ident (at 16) (codes "h"))) (stmt_and (prints 17 (selector (at 18) (ident (at 18) (codes "e")) (named 19 (codes "d")))) no_stmts));
    })

-- neither the variable nor what is behind the dot is looked up
looked-up : decl_looked_up main ≡ codes "println" ∷ codes "println" ∷ codes "e" ∷ []
looked-up = refl

-- A parameter with the name of an import: the body doesn't look it up, since the function declares it around its body.
--   func f(q int) { println(q) }
use Rattle.std.proofs.Common.{◌≡◌, refl, ℕ, false, List, [], ◌∷◌, None, Some, codes}
use Rattle.go_tree.specs.declared.exprs.Rest.TheVariants.{Plain}
use Rattle.go_tree.specs.declared.spans.Span.{Span}
use Rattle.go_tree.specs.Tree.{NameAt, named, ident, call, no_exprs, expr_and, eval, no_stmts, stmt_and}
use Rattle.go_tree.specs.File.{Decl, func}
use Rattle.order_runs.specs.CycleRuns.ImportCycles.LookedUp.{decl_looked_up}

abbrev at : ℕ → Span
at n = record { start = n; end = n }

abbrev name_at : ℕ → List ℕ → NameAt Span
name_at n x = record { span = at n; name = x }

abbrev f : Decl Span
f =
    func (record {
      span = at 1;
      receiver = None;
      name = name_at 2 (codes "f");
      sig = record { params = record { span = at 3; name = Some (name_at 3 (codes "q")); rest = false; of = named (at 4) None (name_at 4 (codes "int")) } ∷ []; results = [] };
      body_span = at 5;
      body = stmt_and (eval (at 6) (call (at 6) (ident (at 7) (codes "println")) (expr_and (ident (at 8) (codes "q")) no_exprs) Plain)) no_stmts;
    })

looked : decl_looked_up f ≡ codes "int" ∷ codes "println" ∷ []
looked = refl

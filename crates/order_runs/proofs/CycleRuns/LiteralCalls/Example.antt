-- The literals that stand for two calls of a function: one calls what the function does, and one, around which a variable
-- has the name of what the function calls, calls nothing, so that it is no literal of that function there.
--   func F() int { return G() }                   (marked)
--   func G() int { return 1 }                     (marked)
--   func H() int { return F() }
--   func K() int { G := 2; return F() + G }
use Rattle.std.proofs.Common.{◌≡◌, refl, ℕ, suc, List, [], ◌∷◌, None, codes}
use Rattle.std.specs.Prelude.{slice_get}
use Rattle.go_tree.specs.declared.exprs.Rest.TheVariants.{Plain}
use Rattle.go_tree.specs.declared.operators.BinOp.TheVariants.{Add}
use Rattle.go_tree.specs.Tree.{NameAt, named, Expr, ident, int_lit, call, func_lit, binary, no_exprs, expr_and, define, return_, Stmts, no_stmts, stmt_and}
use Rattle.go_tree.specs.File.{Decl}
use Rattle.pkg_graph.specs.Package.{Package}
use Rattle.run_rules.specs.Surroundings.{other}
use Rattle.run_rules.specs.Places.{expr_seen}
use Rattle.run_rules.specs.Sites.{MarkRef, Site, sites}
use Rattle.run_rules.specs.Steps.{At}
use Rattle.run_rules.proofs.CaseTools.{mark, param, sig, fn}
use Rattle.run_rules.proofs.Instances.{the}
use Rattle.order_runs.proofs.CycleLaws.ConstantCycles.Examples.{node}
use Rattle.order_runs.specs.CycleLaws.PutCalls.{called_among}

abbrev name_of : ℕ → List ℕ → NameAt At
name_of s n = record { span = node s; name = n }

-- func n() int { b }
abbrev function : ℕ → List ℕ → Stmts At → Decl At
function s n b = fn (node s) None (name_of (suc s) n) (sig [] (param (node (suc (suc s))) None (named (node (suc (suc s))) None (name_of (suc (suc s)) (codes "int"))) ∷ [])) (node (suc (suc (suc s)))) b

abbrev returning : ℕ → Expr At → Stmts At
returning s e = stmt_and (return_ (node s) (expr_and e no_exprs)) no_stmts

abbrev calling : ℕ → List ℕ → Expr At
calling s n = call (node s) (ident (node (suc s)) n) no_exprs Plain

abbrev body : Stmts At
body = returning 15 (calling 17 (codes "G"))

abbrev packages : List (Package At)
packages =
    record {
      path = codes "m";
      name = codes "m";
      files = record {
        path = codes "m.go";
        tree = record {
          package_name = name_of 0 (codes "m");
          imports = [];
          decls = function 10 (codes "F") body ∷ function 20 (codes "G") (returning 25 (int_lit (node 27) (codes "1"))) ∷ function 30 (codes "H") (returning 35 (calling 37 (codes "F")))
              ∷ function 40 (codes "K")
              (stmt_and (define (node 45) (name_of 46 (codes "G") ∷ []) (expr_and (int_lit (node 47) (codes "2")) no_exprs)) (returning 48 (binary (node 49) Add (calling 50 (codes "F")) (ident (node 53) (codes "G"))))) ∷ [];
        };
      } ∷ [];
    } ∷ []

abbrev marks : List MarkRef
marks = mark 0 0 0 0 ∷ mark 0 0 1 0 ∷ []

-- the calls of F in H and in K
abbrev in-h : Site At
in-h = the (slice_get (sites packages marks) 1) refl

abbrev in-k : Site At
in-k = the (slice_get (sites packages marks) 2) refl

-- func() int { return G() }()
abbrev literal : Expr At
literal = call (node 60) (func_lit (node 60) (sig [] (param (node 60) None (named (node 60) None (name_of 60 (codes "int"))) ∷ [])) (node 60) body) no_exprs Plain

-- the call of F in H calls F
called : called_among packages marks in-h.at in-h.decl (expr_seen in-h.place other (calling 37 (codes "F"))) ≡ mark 0 0 0 0 ∷ []
called = refl

-- the literal in its place calls what F does
there : called_among packages marks in-h.at in-h.decl (expr_seen in-h.place other literal) ≡ mark 0 0 1 0 ∷ []
there = refl

-- in K it doesn't
apart : called_among packages marks in-k.at in-k.decl (expr_seen in-k.place other literal) ≡ []
apart = refl

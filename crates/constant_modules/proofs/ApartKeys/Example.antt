-- The keys of two literals: two fields, of which one has the name of a predeclared value, and an expression. The first
-- literal is in a body, the second within it.
--   func f() { println(T{nil: T{q: 1, C + 1: 2}}) }
use Rattle.std.proofs.Common.{◌≡◌, refl, ℕ, true, false, List, [], ◌∷◌, None, Some, codes}
use Rattle.go_tree.specs.declared.exprs.Rest.TheVariants.{Plain}
use Rattle.go_tree.specs.declared.operators.BinOp.TheVariants.{Add}
use Rattle.go_tree.specs.declared.spans.Span.{Span}
use Rattle.go_tree.specs.Tree.{NameAt, named, ident, int_lit, composite, binary, call, no_exprs, expr_and, no_elems, elem, plain, some_value, eval, no_stmts, stmt_and}
use Rattle.go_tree.specs.File.{Decl, func}
use Rattle.pkg_graph.specs.Package.{Package}
use Rattle.constant_modules.specs.ApartKeys.Files.{keys_are_apart}
use Rattle.constant_modules.specs.ApartKeys.Keys.{decl_keys}

abbrev at : ℕ → Span
at n = record { start = n; end = n }

abbrev name_at : ℕ → List ℕ → NameAt Span
name_at n s = record { span = at n; name = s }

abbrev f : Decl Span
f =
    func (record {
      span = at 1;
      receiver = None;
      name = name_at 2 (codes "f");
      sig = record { params = []; results = [] };
      body_span = at 5;
      body = stmt_and (eval (at 6) (call (at 6) (ident (at 7) (codes "println")) (expr_and
          (composite (at 8) (named (at 8) None (name_at 8 (codes "T"))) (elem (at 9) (some_value (plain (ident (at 9) (codes "nil")))) (plain
          (composite (at 10) (named (at 10) None (name_at 10 (codes "T"))) (elem (at 14) (some_value (plain (ident (at 14) (codes "q")))) (plain (int_lit (at 15) (codes "1")))
          (elem (at 11) (some_value (plain (binary (at 11) Add (ident (at 11) (codes "C")) (int_lit (at 12) (codes "1"))))) (plain (int_lit (at 13) (codes "2"))) no_elems)))) no_elems))
          no_exprs) Plain)) no_stmts;
    })

keys : decl_keys f ≡ codes "nil" ∷ codes "q" ∷ []
keys = refl

-- with an import whose name is that of the predeclared value keys aren't apart; with another they are, be it that of a key
abbrev with_import : List ℕ → List (Package Span)
with_import n =
    record {
      path = codes "m";
      name = codes "m";
      files = record { path = codes "m.go"; tree = record { package_name = name_at 0 (codes "m"); imports = record { span = at 0; grouped = false; specs = record { span = at 0; name = Some (name_at 0 n); path = codes "m/q" } ∷ [] } ∷ []; decls = f ∷ [] } } ∷ [];
    } ∷ []

not_apart : keys_are_apart (with_import (codes "nil")) ≡ false
not_apart = refl

apart : keys_are_apart (with_import (codes "q")) ≡ true
apart = refl

-- A constant that is declared as the name of one, and one that is declared as a predeclared name.
--   package p: const D = 7; const C = D; const T = true
use Rattle.std.proofs.Common.{◌≡◌, refl, sym, subst, ℕ, false, List, [], ◌∷◌, None, Some, codes}
use Rattle.go_tree.specs.declared.spans.Span.{Span}
use Rattle.go_tree.specs.Tree.{NameAt, Expr, ident, int_lit, no_exprs, expr_and, const_decl, no_specs, spec}
use Rattle.go_tree.specs.File.{Decl, values}
use Rattle.pkg_graph.specs.Package.{Package}
use Rattle.run_rules.specs.Respanned.{packages_with}
use Rattle.run_rules.specs.Run.{as_read}
use Rattle.run_rules.specs.Sites.{MarkRef, Where}
use Rattle.run_rules.specs.Steps.{At}
use Rattle.printed_constants.specs.NamedUses.Names.{IsConstantOf, IsConstantsName}

abbrev at : ℕ → Span
at n = record { start = n; end = n }

abbrev named : ℕ → List ℕ → NameAt Span
named n x = record { span = at n; name = x }

abbrev declares : ℕ → List ℕ → Expr Span → Decl Span
declares n x e = values (const_decl (at n) false (spec (at n) (named n x ∷ []) None (expr_and e no_exprs) no_specs))

abbrev packages : List (Package At)
packages =
    packages_with as_read
    (record {
      path = codes "m/p";
      name = codes "p";
      files = record {
        path = codes "p.go";
        tree = record {
          package_name = named 1 (codes "p");
          imports = [];
          decls = declares 10 (codes "D") (int_lit (at 11) (codes "7")) ∷ declares 20 (codes "C") (ident (at 21) (codes "D")) ∷ declares 30 (codes "T") (ident (at 31) (codes "true")) ∷ [];
        };
      } ∷ [];
    } ∷ [])

abbrev mark_of_d : MarkRef
mark_of_d = record { «package» = 0; file = 0; decl = 0; item = 0 }

-- `D` is the name of a constant
is_one : IsConstantOf packages 0 (codes "D")
is_one = record { mark = mark_of_d; is = refl; constant = _; text = _; declared = refl }

-- `true` is that of none of the package
is_none : IsConstantOf packages 0 (codes "true") → ⊥
is_none c = let no : None ≡ Some c.mark = c.is in absurd cc

-- so `C` is declared as one, and `T` isn't
module _ (home : Where At) (first : home.number ≡ 0) where
  declared_so : IsConstantsName packages home (ident (as_read (at 21)) (codes "D"))
  declared_so = subst (λ (k : ℕ). IsConstantOf packages k (codes "D")) (sym first) is_one

  not_declared_so : IsConstantsName packages home (ident (as_read (at 31)) (codes "true")) → ⊥
  not_declared_so h = is_none (subst (λ (k : ℕ). IsConstantOf packages k (codes "true")) first h)

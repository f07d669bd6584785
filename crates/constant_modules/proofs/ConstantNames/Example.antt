-- A constant that repeats an earlier expression declares its name: a constant that is declared as it names a constant,
-- though no mark can hold for it.
--   package p: const (D = iota; E); const C = E
use Rattle.std.proofs.Common.{◌≡◌, ◌∙◌, refl, sym, ap, subst, ℕ, true, false, List, [], ◌∷◌, None, Some, codes}
use Rattle.std.proofs.lemmas.Option.{same_Some}
use Rattle.go_tree.specs.declared.spans.Span.{Span}
use Rattle.go_tree.specs.Tree.{NameAt, ident, no_exprs, expr_and, const_decl, no_specs, spec}
use Rattle.go_tree.specs.File.{Decl, values}
use Rattle.pkg_graph.specs.Package.{Package}
use Rattle.printed_constants.specs.NamedUses.Names.{IsConstantOf}
use Rattle.run_rules.specs.Respanned.{packages_with}
use Rattle.run_rules.specs.Run.{as_read}
use Rattle.run_rules.specs.Sites.{MarkRef, Where, a_constant, inlinable}
use Rattle.run_rules.specs.Steps.{At}
use Rattle.constant_modules.specs.ConstantNames.Members.{IsConstantMember, NamesConstant}

abbrev at : ℕ → Span
at n = record { start = n; end = n }

abbrev named : ℕ → List ℕ → NameAt Span
named n x = record { span = at n; name = x }

abbrev group : Decl Span
group =
    values (const_decl (at 5) true (spec (at 10) (named 10 (codes "D") ∷ []) None (expr_and (ident (at 11) (codes "iota")) no_exprs)
    (spec (at 12) (named 12 (codes "E") ∷ []) None no_exprs no_specs)))

abbrev alone : Decl Span
alone = values (const_decl (at 20) false (spec (at 20) (named 20 (codes "C") ∷ []) None (expr_and (ident (at 21) (codes "E")) no_exprs) no_specs))

abbrev packages : List (Package At)
packages =
    packages_with as_read
    (record {
      path = codes "m/p";
      name = codes "p";
      files = record { path = codes "p.go"; tree = record { package_name = named 1 (codes "p"); imports = []; decls = group ∷ alone ∷ [] } } ∷ [];
    } ∷ [])

abbrev mark_of_e : MarkRef
mark_of_e = record { «package» = 0; file = 0; decl = 0; item = 1 }

-- `E` is the name of a constant
is_member : IsConstantMember packages 0 (codes "E")
is_member = record { mark = mark_of_e; is = refl; home = _; home_is = refl; span = _; grouped = true; specs = _; declared = refl }

-- of which nothing is told that it is declared as
is_untold : IsConstantOf packages 0 (codes "E") → ⊥
is_untold c =
    let same : mark_of_e ≡ c.mark = same_Some mark_of_e c.mark c.is in
    let no : None ≡ Some (a_constant c.constant c.text) = ap (inlinable packages) same ∙ c.declared in absurd cc

-- so `C` is declared as the name of one
module _ (home : Where At) (first : home.number ≡ 0) where
  names_one : NamesConstant packages home (ident (as_read (at 21)) (codes "E"))
  names_one = subst (λ (k : ℕ). IsConstantMember packages k (codes "E")) (sym first) is_member

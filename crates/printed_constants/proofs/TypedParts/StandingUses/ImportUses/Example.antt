-- A file that imports a package and declares a constant by a name of it:
--   package p; import "m/q"; const E = q.C
-- Its declaration is as it is asked, and the use stands once in it.
use Rattle.std.specs.Prelude.{ℕ, refl, true, false, List, [], ◌∷◌, None, codes}
use Rattle.go_tree.specs.Tree.{NameAt, Expr, ident, int_lit, selector, no_exprs, expr_and, const_decl, no_specs, spec}
use Rattle.go_tree.specs.File.{Decl, values}
use Rattle.pkg_graph.specs.Package.{SourceTree, Package}
use Rattle.run_rules.specs.Surroundings.{whole, other, in_slot, inner_slot, Place, seen, in_constant}
use Rattle.run_rules.specs.Forms.{is_at}
use Rattle.run_rules.specs.Programs.{top_place, decl_seen}
use Rattle.run_rules.specs.Sites.{Where}
use Rattle.run_rules.specs.Steps.{At, same_here}
use Rattle.run_rules.specs.Run.{as_read}
use Rattle.printed_constants.specs.TypedParts.StandingUses.ImportUses.Parts.{StandsOnce, here, later, before_a_dot, at_the_end}
use Rattle.printed_constants.specs.TypedParts.StandingUses.ImportUses.Steps.{IsStanding}

abbrev node : ℕ → ℕ → At
node i j = as_read (record { start = i; end = j })

abbrev name_at : ℕ → ℕ → List ℕ → NameAt At
name_at i j n = record { span = node i j; name = n }

abbrev constant : ℕ → List ℕ → Expr At → Decl At
constant i n e = values (const_decl (node i 60) false (spec (node i 60) (name_at i 60 n ∷ []) None (expr_and e no_exprs) no_specs))

abbrev use_of_c : Expr At
use_of_c = selector (node 40 43) (ident (node 40 41) (codes "q")) (name_at 42 43 (codes "C"))

abbrev source_of_q : SourceTree At
source_of_q = record { path = codes "q/f.go"; tree = record { package_name = name_at 8 9 (codes "q"); imports = []; decls = constant 20 (codes "C") (int_lit (node 30 31) (codes "7")) ∷ [] } }

abbrev source_of_p : SourceTree At
source_of_p =
    record {
      path = codes "f.go";
      tree = record {
        package_name = name_at 8 9 (codes "p");
        imports = record { span = node 10 20; grouped = false; specs = record { span = node 17 20; name = None; path = codes "m/q" } ∷ [] } ∷ [];
        decls = constant 36 (codes "E") use_of_c ∷ [];
      };
    }

abbrev q : Package At
q = record { path = codes "m/q"; name = codes "q"; files = source_of_q ∷ [] }

abbrev p : Package At
p = record { path = codes "m"; name = codes "p"; files = source_of_p ∷ [] }

abbrev ps : List (Package At)
ps = q ∷ p ∷ []

abbrev there : Where At
there = record { number = 1; of = p; file_number = 0; source = source_of_p }

abbrev place : Place At
place = in_constant 0 (top_place ps 1 p source_of_p.tree)

is_standing : IsStanding ps there (constant 36 (codes "E") use_of_c)
is_standing =
    record {
      scoped = (tt, (tt, tt));
      keyed = tt;
      dotted = before_a_dot place whole (node 40 43) (node 40 41) (codes "q") (name_at 42 43 (codes "C")) [] at_the_end;
    }

stands_once : StandsOnce (is_at same_here (node 40 43)) place use_of_c (decl_seen ps 1 p source_of_p.tree (constant 36 (codes "E") use_of_c))
stands_once =
    later (seen (in_slot (inner_slot place.slot use_of_c 7 false true) place) other (ident (node 40 41) (codes "q"))) (seen place whole use_of_c ∷ []) refl
    (here whole [] refl tt)

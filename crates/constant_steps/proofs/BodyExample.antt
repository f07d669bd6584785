-- A use in a function's body.
--   package main: const D = 7; const C = D; func main() { println(C) }
-- C is marked; after the step: println(D)
use Rattle.std.specs.Prelude.{◌≡◌, refl, ℕ, false, true, List, [], ◌∷◌, Some, None, codes, nat_eq}
use mathlib.Core.Path.{sym, ◌∙◌}
use Rattle.std.proofs.Common.{arith}
use Rattle.go_tree.specs.declared.exprs.Rest.TheVariants.{Plain}
use Rattle.go_tree.specs.Tree.{Expr, ident, int_lit, call, no_exprs, expr_and, Stmt, eval, no_stmts, stmt_and}
use Rattle.go_tree.specs.File.{Func, func, File}
use Rattle.pkg_graph.specs.Package.{SourceTree, Package}
use Rattle.go_translation.specs.SameMeaning.{Packages, SameMeaning}
use Rattle.run_rules.specs.Surroundings.{whole, Place, a_slot, in_slot, at_stmt}
use Rattle.run_rules.specs.Programs.{body_place}
use Rattle.run_rules.specs.Sites.{Where, Site, an_expr}
use Rattle.run_rules.specs.FormTrees.{ConstForm, as_expr}
use Rattle.run_rules.specs.Obstacles.{Shadowed}
use Rattle.run_rules.specs.Reduced.{kept, reduced}
use Rattle.constant_steps.specs.Alone.{no_constants, and_constant, constants_alone, no_decls, and_decl, this_package}
use Rattle.constant_steps.specs.Alone as alone
use Rattle.constant_steps.specs.PlainUse.{linked_at, PlainUse, UseStands}
use Rattle.constant_steps.proofs.Example.{named, declares, mark_of_c, mark_of_d, marks, no_comments}
use Rattle.constant_steps.proofs.PlainImports.{plain_step}

abbrev printing : Expr ℕ → Stmt ℕ
printing e = eval 40 (call 41 (ident 42 (codes "println")) (expr_and e no_exprs) Plain)

abbrev main_with : Expr ℕ → Func ℕ
main_with e =
    record {
      span = 30;
      receiver = None;
      name = named 32 (codes "main");
      sig = record { params = []; results = [] };
      body_span = 33;
      body = stmt_and (printing e) no_stmts;
    }

abbrev file_with : Expr ℕ → File ℕ
file_with e =
    record {
      package_name = named 1 (codes "main");
      imports = [];
      decls = declares 10 (codes "D") (int_lit 11 (codes "7")) ∷ declares 20 (codes "C") (ident 21 (codes "D")) ∷ func (main_with e) ∷ [];
    }

abbrev source : SourceTree ℕ
source = record { path = codes "main.go"; tree = file_with (ident 31 (codes "C")) }

abbrev pk : Package ℕ
pk = record { path = codes "m"; name = codes "main"; files = source ∷ [] }

abbrev rs : List (Package ℕ)
rs = pk ∷ []

abbrev here : Where ℕ
here = record { number = 0; of = pk; file_number = 0; source = source }

abbrev there : Place ℕ
there = in_slot (a_slot 1 false true) (at_stmt (body_place rs 0 pk source.tree (main_with (ident 31 (codes "C")))) (printing (ident 31 (codes "C"))))

abbrev use_of_c : Site ℕ
use_of_c = record { at = here; decl = 2; place = there; use_ = whole; part = an_expr (ident 31 (codes "C")); mark = mark_of_c }

is_plain_use : PlainUse nat_eq no_comments rs marks use_of_c
is_plain_use = record {
  span = 31;
  name = codes "C";
  part = refl;
  use_ = refl;
  home = here;
  stands = refl;
  constant = named 20 (codes "C");
  at = 21;
  new = codes "D";
  declared = refl;
  untyped = refl;
  same_package = refl;
  kind = ConstForm;
  form = as_expr (ident 31 (codes "D"));
  range = 31;
  packages = [];
  reduces = refl;
  new_mark = mark_of_d;
  new_names = refl;
  new_constant = named 10 (codes "D");
  new_expr = int_lit 11 (codes "7");
  new_declared = refl;
}

use_stands : UseStands nat_eq no_comments rs marks use_of_c is_plain_use
unfolding is_plain_use
use_stands = record {
  package_there = refl;
  file_there = refl;
  decl = func (main_with (ident 31 (codes "C")));
  decl_there = refl;
  elsewhere = refl;
  plain = alone.and_file (and_decl (constants_alone (and_constant no_constants)) (and_decl (constants_alone (and_constant no_constants)) (and_decl alone.a_function no_decls))) alone.no_files;
  simple = (tt, (tt, (tt, (tt, tt))));
  alone = (λ i. absurd (grind (arith, i)), (λ i. (refl, refl), (λ i. absurd (grind (arith, i)), (tt, tt))));
}

abbrev packages_with : Expr ℕ → Packages ℕ
packages_with e = record { members = record { path = codes "m"; source = record (linked_at rs here 1) { files = record { imports = []; decls = (file_with e).decls } ∷ [] } } ∷ []; marked = [] }

-- by the law alone
means_the_same : SameMeaning (packages_with (ident 31 (codes "C"))) (packages_with (ident 31 (codes "D")))
unfolding use_stands is_plain_use
means_the_same =
    plain_step nat_eq no_comments rs marks use_of_c is_plain_use use_stands 1 0 (packages_with (ident 31 (codes "C"))) this_package

-- ---- where D is declared around the use, as in `D := 1; println(C)`, it stays: no such use is plain

abbrev shadowed_use : Site ℕ
shadowed_use = record use_of_c { place = record there { bound = named 50 (codes "D") ∷ [] } }

stays : reduced nat_eq no_comments rs marks shadowed_use ≡ Some (kept (Shadowed (codes "D")))
stays = refl

not_plain : PlainUse nat_eq no_comments rs marks shadowed_use → ⊥
not_plain u = grind (arith, sym stays ∙ u.reduces)

-- Two steps, one after the other, by the law alone.
--   package p: const D = 7; const C = D; const B = C; const E = B
-- B and C are marked; after the first step: const E = C; after the second: const E = D
use Rattle.std.specs.Prelude.{refl, ℕ, List, [], ◌∷◌, codes, nat_eq}
use Rattle.go_tree.specs.Tree.{Expr, ident, int_lit}
use Rattle.go_tree.specs.File.{File}
use Rattle.pkg_graph.specs.Package.{SourceTree, Package}
use Rattle.go_translation.specs.SameMeaning.{Packages, SameMeaning}
use Rattle.run_rules.specs.Surroundings.{whole, in_constant}
use Rattle.run_rules.specs.Programs.{top_place}
use Rattle.run_rules.specs.Sites.{MarkRef, Where, Site, an_expr}
use Rattle.run_rules.specs.FormTrees.{ConstForm, as_expr}
use Rattle.constant_steps.specs.Alone.{no_constants, and_constant, constants_alone, no_decls, and_decl, this_package}
use Rattle.constant_steps.specs.Alone as alone
use Rattle.constant_steps.specs.PlainRuns.{PlainStep, no_step, and_step}
use Rattle.constant_steps.specs.PlainUse.{linked_at, PlainUse, UseStands}
use Rattle.constant_steps.proofs.Example.{named, declares, no_comments}
use Rattle.constant_steps.proofs.PlainRuns.{plain_run}

abbrev mark_of : ℕ → MarkRef
mark_of d = record { «package» = 0; file = 0; decl = d; item = 0 }

abbrev marks : List MarkRef
marks = mark_of 1 ∷ mark_of 2 ∷ []

abbrev file_with : List ℕ → File ℕ
file_with n =
    record {
      package_name = named 1 (codes "p");
      imports = [];
      decls = declares 10 (codes "D") (int_lit 11 (codes "7")) ∷ declares 20 (codes "C") (ident 21 (codes "D")) ∷ declares 30 (codes "B") (ident 31 (codes "C")) ∷ declares 40 (codes "E") (ident 41 n) ∷ [];
    }

abbrev source : List ℕ → SourceTree ℕ
source n = record { path = codes "p.go"; tree = file_with n }

abbrev pk : List ℕ → Package ℕ
pk n = record { path = codes "m/p"; name = codes "p"; files = source n ∷ [] }

abbrev rs : List ℕ → List (Package ℕ)
rs n = pk n ∷ []

abbrev here : List ℕ → Where ℕ
here n = record { number = 0; of = pk n; file_number = 0; source = source n }

-- the use of the constant that the d-th declaration declares, where E names it
abbrev use_in : List ℕ → ℕ → Site ℕ
use_in n d = record { at = here n; decl = 3; place = in_constant 0 (top_place (rs n) 0 (pk n) (source n).tree); use_ = whole; part = an_expr (ident 41 n); mark = mark_of d }

use_of_b : PlainUse nat_eq no_comments (rs (codes "B")) marks (use_in (codes "B") 2)
use_of_b = record {
  span = 41;
  name = codes "B";
  part = refl;
  use_ = refl;
  home = here (codes "B");
  stands = refl;
  constant = named 30 (codes "B");
  at = 31;
  new = codes "C";
  declared = refl;
  untyped = refl;
  same_package = refl;
  kind = ConstForm;
  form = as_expr (ident 41 (codes "C"));
  range = 41;
  packages = [];
  reduces = refl;
  new_mark = mark_of 1;
  new_names = refl;
  new_constant = named 20 (codes "C");
  new_expr = ident 21 (codes "D");
  new_declared = refl;
}

use_of_c : PlainUse nat_eq no_comments (rs (codes "C")) marks (use_in (codes "C") 1)
use_of_c = record {
  span = 41;
  name = codes "C";
  part = refl;
  use_ = refl;
  home = here (codes "C");
  stands = refl;
  constant = named 20 (codes "C");
  at = 21;
  new = codes "D";
  declared = refl;
  untyped = refl;
  same_package = refl;
  kind = ConstForm;
  form = as_expr (ident 41 (codes "D"));
  range = 41;
  packages = [];
  reduces = refl;
  new_mark = mark_of 0;
  new_names = refl;
  new_constant = named 10 (codes "D");
  new_expr = int_lit 11 (codes "7");
  new_declared = refl;
}

abbrev one_constant : {s : ℕ} {n : List ℕ} {e : Expr ℕ} → alone.PlainDecl (declares s n e)
one_constant = constants_alone (and_constant no_constants)

abbrev packages_with : List ℕ → Packages ℕ
packages_with n = record { members = record { path = codes "m/p"; source = linked_at (rs n) (here n) 1 } ∷ []; marked = [] }

b_stands : UseStands nat_eq no_comments (rs (codes "B")) marks (use_in (codes "B") 2) use_of_b
unfolding use_of_b
b_stands = record {
  package_there = refl;
  file_there = refl;
  decl = declares 40 (codes "E") (ident 41 (codes "B"));
  decl_there = refl;
  elsewhere = refl;
  plain = alone.and_file (and_decl one_constant (and_decl one_constant (and_decl one_constant (and_decl one_constant no_decls)))) alone.no_files;
  simple = (tt, tt);
  alone = (λ i. (refl, refl), tt);
}

c_stands : UseStands nat_eq no_comments (rs (codes "C")) marks (use_in (codes "C") 1) use_of_c
unfolding use_of_c
c_stands = record {
  package_there = refl;
  file_there = refl;
  decl = declares 40 (codes "E") (ident 41 (codes "C"));
  decl_there = refl;
  elsewhere = refl;
  plain = alone.and_file (and_decl one_constant (and_decl one_constant (and_decl one_constant (and_decl one_constant no_decls)))) alone.no_files;
  simple = (tt, tt);
  alone = (λ i. (refl, refl), tt);
}

first_step : PlainStep nat_eq (packages_with (codes "B"))
first_step = record { commented = no_comments; packages = rs (codes "B"); marks = marks; site = use_in (codes "B") 2; use_ = use_of_b; stands = b_stands; named_at = 1; nth = 0; there = this_package }

second_step : PlainStep nat_eq (packages_with (codes "C"))
second_step = record { commented = no_comments; packages = rs (codes "C"); marks = marks; site = use_in (codes "C") 1; use_ = use_of_c; stands = c_stands; named_at = 1; nth = 0; there = this_package }

means_the_same : SameMeaning (packages_with (codes "B")) (packages_with (codes "D"))
unfolding first_step second_step use_of_b use_of_c
means_the_same = plain_run nat_eq (packages_with (codes "B")) (packages_with (codes "D")) (and_step first_step (and_step second_step no_step))

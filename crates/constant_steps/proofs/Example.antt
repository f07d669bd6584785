-- One step by the law alone, from a module, a mark and a use.
--   package p: const D = 7; const C = D; const E = C
-- C is marked; after the step: const E = D
use Rattle.std.specs.Prelude.{refl, ℕ, Bool, false, List, [], ◌∷◌, None, codes, nat_eq}
use Rattle.go_tree.specs.Tree.{NameAt, Expr, ident, int_lit, no_exprs, expr_and, const_decl, no_specs, spec}
use Rattle.go_tree.specs.File.{Decl, values, File}
use Rattle.pkg_graph.specs.Package.{SourceTree, Package}
use Rattle.go_translation.specs.SameMeaning.{Packages, SameMeaning}
use Rattle.run_rules.specs.Surroundings.{whole, in_constant}
use Rattle.run_rules.specs.Programs.{top_place}
use Rattle.run_rules.specs.Sites.{MarkRef, Where, Site, an_expr}
use Rattle.run_rules.specs.FormTrees.{ConstForm, as_expr}
use Rattle.constant_steps.specs.Alone.{no_constants, and_constant, constants_alone, no_decls, and_decl, this_package}
use Rattle.constant_steps.specs.Alone as alone
use Rattle.constant_steps.specs.PlainUse.{linked_at, PlainUse, UseStands}
use Rattle.constant_steps.proofs.PlainImports.{plain_step}

abbrev pub named : ℕ → List ℕ → NameAt ℕ
named s n = record { span = s; name = n }

abbrev pub declares : ℕ → List ℕ → Expr ℕ → Decl ℕ
declares s n e = values (const_decl s false (spec s (named s n ∷ []) None (expr_and e no_exprs) no_specs))

abbrev file_with : Expr ℕ → File ℕ
file_with e =
    record {
      package_name = named 1 (codes "p");
      imports = [];
      decls = declares 10 (codes "D") (int_lit 11 (codes "7")) ∷ declares 20 (codes "C") (ident 21 (codes "D")) ∷ declares 30 (codes "E") e ∷ [];
    }

abbrev source : SourceTree ℕ
source = record { path = codes "p.go"; tree = file_with (ident 31 (codes "C")) }

abbrev pk : Package ℕ
pk = record { path = codes "m/p"; name = codes "p"; files = source ∷ [] }

abbrev rs : List (Package ℕ)
rs = pk ∷ []

abbrev here : Where ℕ
here = record { number = 0; of = pk; file_number = 0; source = source }

abbrev pub mark_of_c : MarkRef
mark_of_c = record { «package» = 0; file = 0; decl = 1; item = 0 }

abbrev pub mark_of_d : MarkRef
mark_of_d = record { «package» = 0; file = 0; decl = 0; item = 0 }

abbrev pub marks : List MarkRef
marks = mark_of_c ∷ []

abbrev pub no_comments : ℕ → ℕ → ℕ → Bool
no_comments k f s = false

abbrev use_of_c : Site ℕ
use_of_c = record { at = here; decl = 2; place = in_constant 0 (top_place rs 0 pk source.tree); use_ = whole; part = an_expr (ident 31 (codes "C")); mark = mark_of_c }

is_plain_use : PlainUse nat_eq no_comments rs marks use_of_c
is_plain_use = record {
  span = 31;
  name = codes "C";
  part = refl;
  use_ = refl;
  home = here;
  stands = refl;
  constant = named 20 (codes "C");
  at = 21;
  new = codes "D";
  declared = refl;
  untyped = refl;
  same_package = refl;
  kind = ConstForm;
  form = as_expr (ident 31 (codes "D"));
  range = 31;
  packages = [];
  reduces = refl;
  new_mark = mark_of_d;
  new_names = refl;
  new_constant = named 10 (codes "D");
  new_expr = int_lit 11 (codes "7");
  new_declared = refl;
}

use_stands : UseStands nat_eq no_comments rs marks use_of_c is_plain_use
unfolding is_plain_use
use_stands = record {
  package_there = refl;
  file_there = refl;
  decl = declares 30 (codes "E") (ident 31 (codes "C"));
  decl_there = refl;
  elsewhere = refl;
  plain = alone.and_file (and_decl (constants_alone (and_constant no_constants)) (and_decl (constants_alone (and_constant no_constants)) (and_decl (constants_alone (and_constant no_constants)) no_decls))) alone.no_files;
  simple = (tt, tt);
  alone = (λ i. (refl, refl), tt);
}

abbrev packages_with : Expr ℕ → Packages ℕ
packages_with e = record { members = record { path = codes "m/p"; source = record (linked_at rs here 1) { files = record { imports = []; decls = (file_with e).decls } ∷ [] } } ∷ []; marked = [] }

-- by the law alone
means_the_same : SameMeaning (packages_with (ident 31 (codes "C"))) (packages_with (ident 31 (codes "D")))
unfolding use_stands is_plain_use
means_the_same =
    plain_step nat_eq no_comments rs marks use_of_c is_plain_use use_stands 1 0 (packages_with (ident 31 (codes "C"))) this_package

-- A use in another package, by the law alone.
--   package p: const D = 7; const C = D      package q: import "m/p"; const E = p.C
-- C is marked; after the step: const E = p.D
use Rattle.std.specs.Prelude.{refl, ℕ, List, [], ◌∷◌, None, codes, nat_eq}
use Rattle.std.proofs.Common.{arith}
use Rattle.go_tree.specs.Tree.{Expr, ident, int_lit, selector}
use Rattle.go_tree.specs.File.{File}
use Rattle.pkg_graph.specs.ModuleFiles.Internal.{passes}
use Rattle.pkg_graph.specs.Package.{SourceTree, Package}
use Rattle.go_translation.specs.Packages.{sources}
use Rattle.go_translation.specs.SameMeaning.{Packages, SameMeaning}
use Rattle.run_rules.specs.Surroundings.{whole, in_constant}
use Rattle.run_rules.specs.Programs.{top_place}
use Rattle.run_rules.specs.Sites.{MarkRef, Where, Site, an_expr}
use Rattle.run_rules.specs.FormTrees.{ConstForm}
use Rattle.constant_steps.specs.Alone.{no_constants, and_constant, constants_alone, no_decls, and_decl, this_package, a_later_package}
use Rattle.constant_steps.specs.Alone as alone
use Rattle.constant_steps.specs.PlainUse.{linked_at}
use Rattle.constant_steps.specs.QualifiedSteps.MemberNames.{own_member, imported_member}
use Rattle.constant_steps.specs.QualifiedSteps.NamedUse.{NamedUse, NamedUseStands, PackagesStand, one_qualifier}
use Rattle.constant_steps.specs.QualifiedSteps.ImportsStay.{same_before}
use Rattle.constant_steps.proofs.QualifiedSteps.ExampleParts.{named, declares, of_p, no_comments}
use Rattle.constant_steps.proofs.QualifiedSteps.NamedImports.{named_step}

abbrev file_of_p : File ℕ
file_of_p = record { package_name = named 1 (codes "p"); imports = []; decls = declares 10 (codes "D") (int_lit 11 (codes "7")) ∷ declares 20 (codes "C") (ident 21 (codes "D")) ∷ [] }

abbrev use_before : Expr ℕ
use_before = selector 31 (ident 32 (codes "p")) (named 33 (codes "C"))

abbrev put : Expr ℕ
put = selector 31 (ident 31 (codes "p")) (named 31 (codes "D"))

abbrev file_of_q : Expr ℕ → File ℕ
file_of_q e = record { package_name = named 1 (codes "q"); imports = of_p ∷ []; decls = declares 30 (codes "E") e ∷ [] }

abbrev source_of_p : SourceTree ℕ
source_of_p = record { path = codes "p.go"; tree = file_of_p }

abbrev source_of_q : SourceTree ℕ
source_of_q = record { path = codes "q.go"; tree = file_of_q use_before }

abbrev p : Package ℕ
p = record { path = codes "m/p"; name = codes "p"; files = source_of_p ∷ [] }

abbrev q : Package ℕ
q = record { path = codes "m/q"; name = codes "q"; files = source_of_q ∷ [] }

abbrev rs : List (Package ℕ)
rs = p ∷ q ∷ []

abbrev home : Where ℕ
home = record { number = 0; of = p; file_number = 0; source = source_of_p }

abbrev here : Where ℕ
here = record { number = 1; of = q; file_number = 0; source = source_of_q }

abbrev mark_of : ℕ → MarkRef
mark_of d = record { «package» = 0; file = 0; decl = d; item = 0 }

abbrev marks : List MarkRef
marks = mark_of 1 ∷ []

abbrev use_of_c : Site ℕ
use_of_c = record { at = here; decl = 0; place = in_constant 0 (top_place rs 1 q source_of_q.tree); use_ = whole; part = an_expr use_before; mark = mark_of 1 }

is_named_use : NamedUse nat_eq no_comments rs marks use_of_c
unfolding passes
is_named_use = record {
  use_ = use_before;
  part = refl;
  names = imported_member refl refl;
  home = home;
  home_is = refl;
  constant = named 20 (codes "C");
  text = ident 21 (codes "D");
  declared = refl;
  untyped = refl;
  new_mark = mark_of 0;
  text_names = own_member refl;
  new_home = home;
  new_home_is = refl;
  new_constant = named 10 (codes "D");
  new_text = int_lit 11 (codes "7");
  new_declared = refl;
  kind = ConstForm;
  new = put;
  range = 31;
  packages = record { of = 0; name = codes "p"; added = None } ∷ [];
  reduces = refl;
  none_added = refl;
}

use_stands : NamedUseStands nat_eq no_comments rs marks use_of_c is_named_use
unfolding is_named_use
use_stands = record {
  package_there = refl;
  file_there = refl;
  decl = declares 30 (codes "E") use_before;
  decl_there = refl;
  plain = alone.and_file (and_decl (constants_alone (and_constant no_constants)) no_decls) alone.no_files;
  home_plain = alone.and_file (and_decl (constants_alone (and_constant no_constants)) (and_decl (constants_alone (and_constant no_constants)) no_decls)) alone.no_files;
  new_plain = alone.and_file (and_decl (constants_alone (and_constant no_constants)) (and_decl (constants_alone (and_constant no_constants)) no_decls)) alone.no_files;
  simple = (tt, (tt, tt));
  alone = (λ i. absurd (grind (arith, i)), (λ i. (refl, refl), tt));
}

abbrev packages_with : Expr ℕ → Packages ℕ
packages_with e =
    record {
      members =
          record { path = codes "m/p"; source = linked_at rs home 1 } ∷
          record { path = codes "m/q"; source = record (linked_at rs here 1) { files = record { imports = record { span = 3; name = codes "p"; of = 0 } ∷ []; decls = (file_of_q e).decls } ∷ [] } } ∷ [];
      marked = [];
    }

stand_there : PackagesStand nat_eq no_comments rs marks use_of_c is_named_use (sources (packages_with use_before).members)
unfolding is_named_use
stand_there = record {
  use_ = record { at = 1; nth = 1; there = a_later_package refl this_package };
  home = record { at = 1; nth = 0; there = this_package };
  new_home = record { at = 1; nth = 0; there = this_package };
}

-- by the law alone
means_the_same : SameMeaning (packages_with use_before) (packages_with put)
unfolding use_stands is_named_use stand_there
means_the_same = named_step nat_eq no_comments rs marks use_of_c is_named_use use_stands (packages_with use_before) stand_there (λ Q w. same_before one_qualifier)

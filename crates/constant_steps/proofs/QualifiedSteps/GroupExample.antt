-- A use in the declaration of its own constant, by the law alone.
--   package p: const ( D = 7; C = D; E = C )
-- C is marked; after the step: const ( D = 7; C = D; E = D )
use Rattle.std.specs.Prelude.{refl, ℕ, true, List, [], ◌∷◌, None, codes, nat_eq}
use Rattle.std.proofs.Common.{arith}
use Rattle.go_tree.specs.Tree.{Expr, ident, int_lit, no_exprs, expr_and, const_decl, ValueSpecs, no_specs, spec}
use Rattle.go_tree.specs.File.{Decl, values, File}
use Rattle.pkg_graph.specs.Package.{SourceTree, Package}
use Rattle.go_translation.specs.Packages.{sources}
use Rattle.go_translation.specs.SameMeaning.{Packages, SameMeaning}
use Rattle.run_rules.specs.Surroundings.{whole, in_constant}
use Rattle.run_rules.specs.Programs.{top_place}
use Rattle.run_rules.specs.Sites.{MarkRef, Where, Site, an_expr}
use Rattle.run_rules.specs.FormTrees.{ConstForm}
use Rattle.constant_steps.specs.Alone.{no_constants, and_constant, constants_alone, no_decls, and_decl, this_package}
use Rattle.constant_steps.specs.Alone as alone
use Rattle.constant_steps.specs.PlainUse.{linked_at}
use Rattle.constant_steps.specs.QualifiedSteps.MemberNames.{own_member}
use Rattle.constant_steps.specs.QualifiedSteps.NamedUse.{NamedUse, NamedUseStands, PackagesStand, no_qualifier}
use Rattle.constant_steps.specs.QualifiedSteps.ImportsStay.{same_before}
use Rattle.constant_steps.proofs.QualifiedSteps.ExampleParts.{named, no_comments}
use Rattle.constant_steps.proofs.QualifiedSteps.NamedImports.{named_step}

abbrev and_so : ℕ → List ℕ → Expr ℕ → ValueSpecs ℕ → ValueSpecs ℕ
and_so s n e ss = spec s (named s n ∷ []) None (expr_and e no_exprs) ss

abbrev group : Expr ℕ → Decl ℕ
group e = values (const_decl 9 true (and_so 10 (codes "D") (int_lit 11 (codes "7")) (and_so 20 (codes "C") (ident 21 (codes "D")) (and_so 30 (codes "E") e no_specs))))

abbrev file_with : Expr ℕ → File ℕ
file_with e = record { package_name = named 1 (codes "p"); imports = []; decls = group e ∷ [] }

abbrev source : SourceTree ℕ
source = record { path = codes "p.go"; tree = file_with (ident 31 (codes "C")) }

abbrev pk : Package ℕ
pk = record { path = codes "m/p"; name = codes "p"; files = source ∷ [] }

abbrev rs : List (Package ℕ)
rs = pk ∷ []

abbrev here : Where ℕ
here = record { number = 0; of = pk; file_number = 0; source = source }

abbrev mark_of : ℕ → MarkRef
mark_of i = record { «package» = 0; file = 0; decl = 0; item = i }

abbrev use_of_c : Site ℕ
use_of_c = record { at = here; decl = 0; place = in_constant 2 (top_place rs 0 pk source.tree); use_ = whole; part = an_expr (ident 31 (codes "C")); mark = mark_of 1 }

is_named_use : NamedUse nat_eq no_comments rs (mark_of 1 ∷ []) use_of_c
is_named_use = record {
  use_ = ident 31 (codes "C");
  part = refl;
  names = own_member refl;
  home = here;
  home_is = refl;
  constant = named 20 (codes "C");
  text = ident 21 (codes "D");
  declared = refl;
  untyped = refl;
  new_mark = mark_of 0;
  text_names = own_member refl;
  new_home = here;
  new_home_is = refl;
  new_constant = named 10 (codes "D");
  new_text = int_lit 11 (codes "7");
  new_declared = refl;
  kind = ConstForm;
  new = ident 31 (codes "D");
  range = 31;
  packages = [];
  reduces = refl;
  none_added = refl;
}

abbrev all_alone : (e : Expr ℕ) → alone.PlainFiles (record { imports = []; decls = group e ∷ [] } ∷ [])
all_alone e = alone.and_file (and_decl (constants_alone (and_constant (and_constant (and_constant no_constants)))) no_decls) alone.no_files

use_stands : NamedUseStands nat_eq no_comments rs (mark_of 1 ∷ []) use_of_c is_named_use
unfolding is_named_use
use_stands = record {
  package_there = refl;
  file_there = refl;
  decl = group (ident 31 (codes "C"));
  decl_there = refl;
  plain = all_alone (ident 31 (codes "C"));
  home_plain = all_alone (ident 31 (codes "C"));
  new_plain = all_alone (ident 31 (codes "C"));
  simple = (tt, (tt, (tt, tt)));
  alone = (λ i. absurd (grind (arith, i)), (λ i. absurd (grind (arith, i)), (λ i. (refl, refl), tt)));
}

abbrev packages_with : Expr ℕ → Packages ℕ
packages_with e = record { members = record { path = codes "m/p"; source = record (linked_at rs here 1) { files = record { imports = []; decls = (file_with e).decls } ∷ [] } } ∷ []; marked = [] }

stand_there : PackagesStand nat_eq no_comments rs (mark_of 1 ∷ []) use_of_c is_named_use (sources (packages_with (ident 31 (codes "C"))).members)
unfolding is_named_use
stand_there = record { use_ = record { at = 1; nth = 0; there = this_package }; home = record { at = 1; nth = 0; there = this_package }; new_home = record { at = 1; nth = 0; there = this_package } }

-- by the law alone
means_the_same : SameMeaning (packages_with (ident 31 (codes "C"))) (packages_with (ident 31 (codes "D")))
unfolding use_stands is_named_use stand_there
means_the_same = named_step nat_eq no_comments rs (mark_of 1 ∷ []) use_of_c is_named_use use_stands (packages_with (ident 31 (codes "C"))) stand_there (λ Q w. same_before no_qualifier)

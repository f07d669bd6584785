-- A constant that is declared as a name of another package, by the law alone. What it is declared as has a type, and
-- another constant of its group repeats its expression.
--   package p: const ( D Number = 7; F ); type Number int; var Total Number = 1
--   package q: import "m/p"; const C = p.D; const E = C
-- C is marked; after the step: const E = p.D
use Rattle.std.specs.Prelude.{refl, ℕ, true, false, List, [], ◌∷◌, Some, None, codes, nat_eq}
use Rattle.go_tree.specs.Tree as tree
use Rattle.go_tree.specs.Tree.{TypeExpr, Expr, ident, int_lit, selector, no_exprs, expr_and, const_decl, var_decl, no_specs, spec}
use Rattle.go_tree.specs.File.{Decl, values, types, File}
use Rattle.pkg_graph.specs.ModuleFiles.Internal.{passes}
use Rattle.pkg_graph.specs.Package.{SourceTree, Package}
use Rattle.go_translation.specs.Packages.{sources}
use Rattle.go_translation.specs.SameMeaning.{Packages, SameMeaning}
use Rattle.run_rules.specs.Surroundings.{whole, in_constant}
use Rattle.run_rules.specs.Programs.{top_place}
use Rattle.run_rules.specs.Sites.{MarkRef, Where, Site, an_expr}
use Rattle.run_rules.specs.FormTrees.{ConstForm}
use Rattle.constant_steps.specs.Alone.{no_constants, and_constant, and_typed, and_repeated, no_variables, and_variable, constants_alone, variables_alone, some_types, no_decls, and_decl, this_package, a_later_package}
use Rattle.constant_steps.specs.Alone as alone
use Rattle.constant_steps.specs.PlainUse.{linked_at}
use Rattle.constant_steps.specs.QualifiedSteps.MemberNames.{own_member, imported_member}
use Rattle.constant_steps.specs.QualifiedSteps.NamedUse.{NamedUse, NamedUseStands, PackagesStand}
use Rattle.constant_steps.proofs.QualifiedSteps.ExampleParts.{named, declares, of_p, no_comments}
use Rattle.constant_steps.proofs.QualifiedSteps.FormStillUsed.{own_stays}
use Rattle.constant_steps.proofs.QualifiedSteps.NamedImports.{named_step}

abbrev type_at : ℕ → List ℕ → TypeExpr ℕ
type_at s n = tree.named s None (named s n)

abbrev decls_of_p : List (Decl ℕ)
decls_of_p =
    values (const_decl 9 true (spec 10 (named 10 (codes "D") ∷ []) (Some (type_at 12 (codes "Number"))) (expr_and (int_lit 11 (codes "7")) no_exprs) (spec 13 (named 13 (codes "F") ∷ []) None no_exprs no_specs)))
    ∷ types 14 false (record { span = 15; name = named 15 (codes "Number"); alias = false; of = type_at 16 (codes "int") } ∷ [])
    ∷ values (var_decl 17 false (spec 18 (named 18 (codes "Total") ∷ []) (Some (type_at 19 (codes "Number"))) (expr_and (int_lit 41 (codes "1")) no_exprs) no_specs))
    ∷ []

abbrev source_of_p : SourceTree ℕ
source_of_p = record { path = codes "p.go"; tree = record { package_name = named 1 (codes "p"); imports = []; decls = decls_of_p } }

abbrev text : Expr ℕ
text = selector 21 (ident 22 (codes "p")) (named 23 (codes "D"))

abbrev put : Expr ℕ
put = selector 31 (ident 31 (codes "p")) (named 31 (codes "D"))

abbrev file_of_q : Expr ℕ → File ℕ
file_of_q e = record { package_name = named 1 (codes "q"); imports = of_p ∷ []; decls = declares 20 (codes "C") text ∷ declares 30 (codes "E") e ∷ [] }

abbrev source_of_q : SourceTree ℕ
source_of_q = record { path = codes "q.go"; tree = file_of_q (ident 31 (codes "C")) }

abbrev p : Package ℕ
p = record { path = codes "m/p"; name = codes "p"; files = source_of_p ∷ [] }

abbrev q : Package ℕ
q = record { path = codes "m/q"; name = codes "q"; files = source_of_q ∷ [] }

abbrev rs : List (Package ℕ)
rs = p ∷ q ∷ []

abbrev there : Where ℕ
there = record { number = 0; of = p; file_number = 0; source = source_of_p }

abbrev here : Where ℕ
here = record { number = 1; of = q; file_number = 0; source = source_of_q }

abbrev mark_of_c : MarkRef
mark_of_c = record { «package» = 1; file = 0; decl = 0; item = 0 }

abbrev mark_of_d : MarkRef
mark_of_d = record { «package» = 0; file = 0; decl = 0; item = 0 }

abbrev use_of_c : Site ℕ
use_of_c = record { at = here; decl = 1; place = in_constant 0 (top_place rs 1 q source_of_q.tree); use_ = whole; part = an_expr (ident 31 (codes "C")); mark = mark_of_c }

is_named_use : NamedUse nat_eq no_comments rs (mark_of_c ∷ []) use_of_c
unfolding passes
is_named_use = record {
  use_ = ident 31 (codes "C");
  part = refl;
  names = own_member refl;
  home = here;
  home_is = refl;
  constant = named 20 (codes "C");
  text = text;
  declared = refl;
  untyped = refl;
  new_mark = mark_of_d;
  text_names = imported_member refl refl;
  new_home = there;
  new_home_is = refl;
  new_constant = named 10 (codes "D");
  new_text = int_lit 11 (codes "7");
  new_declared = refl;
  kind = ConstForm;
  new = put;
  range = 31;
  packages = record { of = 0; name = codes "p"; added = None } ∷ [];
  reduces = refl;
  none_added = refl;
}

use_stands : NamedUseStands nat_eq no_comments rs (mark_of_c ∷ []) use_of_c is_named_use
unfolding is_named_use
use_stands = record {
  package_there = refl;
  file_there = refl;
  decl = declares 30 (codes "E") (ident 31 (codes "C"));
  decl_there = refl;
  plain = alone.and_file (and_decl (constants_alone (and_constant no_constants)) (and_decl (constants_alone (and_constant no_constants)) no_decls)) alone.no_files;
  home_plain = alone.and_file (and_decl (constants_alone (and_constant no_constants)) (and_decl (constants_alone (and_constant no_constants)) no_decls)) alone.no_files;
  new_plain = alone.and_file (and_decl (constants_alone (and_typed (and_repeated no_constants))) (and_decl some_types (and_decl (variables_alone (and_variable no_variables)) no_decls))) alone.no_files;
  simple = (tt, tt);
  alone = (λ i. (refl, refl), tt);
}

abbrev packages_with : Expr ℕ → Packages ℕ
packages_with e =
    record {
      members =
          record { path = codes "m/p"; source = linked_at rs there 1 } ∷
          record { path = codes "m/q"; source = record (linked_at rs here 1) { files = record { imports = record { span = 3; name = codes "p"; of = 0 } ∷ []; decls = (file_of_q e).decls } ∷ [] } } ∷ [];
      marked = [];
    }

stand_there : PackagesStand nat_eq no_comments rs (mark_of_c ∷ []) use_of_c is_named_use (sources (packages_with (ident 31 (codes "C"))).members)
unfolding is_named_use
stand_there = record {
  use_ = record { at = 1; nth = 1; there = a_later_package refl this_package };
  home = record { at = 1; nth = 1; there = a_later_package refl this_package };
  new_home = record { at = 1; nth = 0; there = this_package };
}

-- by the laws alone; the use stands in its constant's own package
means_the_same : SameMeaning (packages_with (ident 31 (codes "C"))) (packages_with put)
unfolding use_stands is_named_use stand_there
means_the_same =
    named_step nat_eq no_comments rs (mark_of_c ∷ []) use_of_c is_named_use use_stands (packages_with (ident 31 (codes "C"))) stand_there (λ Q w. own_stays nat_eq no_comments rs (mark_of_c ∷ []) use_of_c is_named_use use_stands (sources (packages_with (ident 31 (codes "C"))).members) (sources Q) stand_there 31 (codes "C") refl refl)

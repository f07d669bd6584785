-- A use in another package, in a composite literal whose type has a field that isn't exported, of a constant that is
-- declared as the name of one which repeats an expression, by the law alone.
-- Both the constant and the variable share their specs with others.
--   package p: const (A = iota; D); const B, C = 1, D
--   package q: import "m/p"; var E, F = struct{ x int }{ x: p.C }, 2
-- C is marked; after the step: var E, F = struct{ x int }{ x: p.D }, 2
use Rattle.std.specs.Prelude.{◌≡◌, refl, ℕ, true, false, List, [], ◌∷◌, Some, None, if◌then◌else◌, codes, nat_eq}
use Rattle.std.proofs.Common.{arith}
use Rattle.go_tree.specs.Tree.{Expr, ident, int_lit, selector, composite, no_exprs, expr_and, no_elems, elem, plain, some_value, named as a_type, struct_type, field, no_fields, const_decl, var_decl, ValueSpecs, no_specs, spec}
use Rattle.go_tree.specs.File.{Decl, values, File}
use Rattle.pkg_graph.specs.ModuleFiles.Internal.{passes}
use Rattle.pkg_graph.specs.Package.{SourceTree, Package}
use Rattle.go_translation.specs.Packages.{sources}
use Rattle.go_translation.specs.SameMeaning.{Packages, SameMeaning}
use Rattle.run_rules.specs.Surroundings.{whole, Place, Seen, seen}
use Rattle.run_rules.specs.Programs.{top_place, decl_seen}
use Rattle.run_rules.specs.Sites.{MarkRef, Where, Site, an_expr, qualified_mark}
use Rattle.run_rules.specs.FormTrees.{ConstForm, as_expr}
use Rattle.run_rules.specs.Reduced.{becomes, home_place, reduced}
use Rattle.constant_steps.specs.Alone.{this_package, a_later_package}
use Rattle.constant_steps.specs.PlainUse.{linked_at}
use Rattle.constant_steps.specs.QualifiedSteps.MemberNames.{NamesMember, own_member, imported_member}
use Rattle.constant_steps.specs.QualifiedSteps.NamedUse.{one_qualifier}
use Rattle.constant_steps.proofs.QualifiedSteps.ExampleParts.{named, of_p, no_comments}
use Rattle.constant_modules.specs.NamedAnywhere.Use.{NamedUseAnywhere, ConstantUse, PackagesStandAnywhere, same_before}
use Rattle.constant_modules.proofs.NamedAnywhere.StepsAnywhere.{meaning_anywhere}

abbrev members_of_group : ValueSpecs ℕ
members_of_group = spec 8 (named 8 (codes "A") ∷ []) None (expr_and (ident 9 (codes "iota")) no_exprs) (spec 10 (named 10 (codes "D") ∷ []) None no_exprs no_specs)

abbrev two_constants : ValueSpecs ℕ
two_constants = spec 18 (named 18 (codes "B") ∷ named 20 (codes "C") ∷ []) None (expr_and (int_lit 19 (codes "1")) (expr_and (ident 21 (codes "D")) no_exprs)) no_specs

abbrev file_of_p : File ℕ
file_of_p = record { package_name = named 1 (codes "p"); imports = []; decls = values (const_decl 7 true members_of_group) ∷ values (const_decl 17 false two_constants) ∷ [] }

abbrev use_before : Expr ℕ
use_before = selector 31 (ident 32 (codes "p")) (named 33 (codes "C"))

abbrev put : Expr ℕ
put = selector 31 (ident 31 (codes "p")) (named 31 (codes "D"))

abbrev variable_of : Expr ℕ → Decl ℕ
variable_of e =
    values (var_decl 30 false (spec 30 (named 34 (codes "E") ∷ named 43 (codes "F") ∷ []) None (expr_and
    (composite 35 (struct_type 36 (field 37 (named 38 (codes "x")) (a_type 39 None (named 40 (codes "int"))) no_fields))
    (elem 41 (some_value (plain (ident 42 (codes "x")))) (plain e) no_elems)) (expr_and (int_lit 44 (codes "2")) no_exprs)) no_specs))

abbrev file_of_q : Expr ℕ → File ℕ
file_of_q e = record { package_name = named 1 (codes "q"); imports = of_p ∷ []; decls = variable_of e ∷ [] }

abbrev source_of_p : SourceTree ℕ
source_of_p = record { path = codes "p.go"; tree = file_of_p }

abbrev source_of_q : SourceTree ℕ
source_of_q = record { path = codes "q.go"; tree = file_of_q use_before }

abbrev p : Package ℕ
p = record { path = codes "m/p"; name = codes "p"; files = source_of_p ∷ [] }

abbrev q : Package ℕ
q = record { path = codes "m/q"; name = codes "q"; files = source_of_q ∷ [] }

abbrev rs : List (Package ℕ)
rs = p ∷ q ∷ []

abbrev home : Where ℕ
home = record { number = 0; of = p; file_number = 0; source = source_of_p }

abbrev here : Where ℕ
here = record { number = 1; of = q; file_number = 0; source = source_of_q }

abbrev mark_of : ℕ → ℕ → MarkRef
mark_of d i = record { «package» = 0; file = 0; decl = d; item = i }

abbrev marks : List MarkRef
marks = mark_of 1 1 ∷ []

-- the place of the use
abbrev place_of_use : Place ℕ → List (Seen ℕ) → Place ℕ
place_of_use o [] = o
place_of_use o (seen r u (selector s e n) ∷ xs) = if nat_eq s 31 then r else place_of_use o xs
place_of_use o (x ∷ xs) = place_of_use o xs

abbrev use_of_c : Site ℕ
use_of_c =
    record {
      at = here;
      decl = 0;
      place = place_of_use (top_place rs 1 q source_of_q.tree) (decl_seen rs 1 q source_of_q.tree (variable_of use_before));
      use_ = whole;
      part = an_expr use_before;
      mark = mark_of 1 1;
    }

names_c : qualified_mark rs here use_of_c.place (codes "p") (codes "C") ≡ Some (mark_of 1 1)
names_c = refl

use_names : NamesMember rs here use_of_c.place use_before (mark_of 1 1)
use_names = imported_member {s = 31} {t = 32} {q = codes "p"} {n = named 33 (codes "C")} {m = mark_of 1 1} names_c refl

text_names : NamesMember rs home (home_place nat_eq no_comments rs marks home) (ident 21 (codes "D")) (mark_of 0 1)
text_names = own_member refl

use_reduces : reduced nat_eq no_comments rs marks use_of_c ≡ Some (becomes ConstForm (as_expr put) 31 (record { of = 0; name = codes "p"; added = None } ∷ []))
unfolding passes
use_reduces = refl

is_named_use : ConstantUse nat_eq no_comments rs marks use_of_c
is_named_use = record {
  use_ = use_before;
  part = refl;
  names = use_names;
  home = home;
  home_is = refl;
  constant = named 20 (codes "C");
  text = ident 21 (codes "D");
  declared = refl;
  untyped = refl;
  new_mark = mark_of 0 1;
  text_names = text_names;
  new_home = home;
  new_home_is = refl;
  new_span = 7;
  new_grouped = true;
  new_specs = members_of_group;
  new_declared = refl;
  kind = ConstForm;
  new = put;
  range = 31;
  packages = record { of = 0; name = codes "p"; added = None } ∷ [];
  reduces = use_reduces;
  none_added = refl;
}

use_stands : NamedUseAnywhere nat_eq no_comments rs marks use_of_c is_named_use
unfolding is_named_use
use_stands = record {
  package_there = refl;
  file_there = refl;
  decl = variable_of use_before;
  decl_there = refl;
  alone = (tt, (λ i. absurd (grind (arith, i)), (λ i. (refl, refl), (λ i. absurd (grind (arith, i)), (λ i. absurd (grind (arith, i)), tt)))));
}

abbrev packages_with : Expr ℕ → Packages ℕ
packages_with e =
    record {
      members =
          record { path = codes "m/p"; source = linked_at rs home 1 } ∷
          record { path = codes "m/q"; source = record (linked_at rs here 1) { files = record { imports = record { span = 3; name = codes "p"; of = 0 } ∷ []; decls = (file_of_q e).decls } ∷ [] } } ∷ [];
      marked = [];
    }

stand_there : PackagesStandAnywhere nat_eq no_comments rs marks use_of_c is_named_use (sources (packages_with use_before).members)
unfolding is_named_use
stand_there = record {
  use_ = record { at = 1; nth = 1; there = a_later_package refl this_package };
  home = record { at = 1; nth = 0; there = this_package };
  new_home = record { at = 1; nth = 0; there = this_package };
}

-- by the law alone
means_the_same : SameMeaning (packages_with use_before) (packages_with put)
unfolding use_stands is_named_use stand_there
means_the_same = meaning_anywhere nat_eq no_comments rs marks use_of_c is_named_use use_stands (packages_with use_before) stand_there refl (λ Q w. same_before one_qualifier)

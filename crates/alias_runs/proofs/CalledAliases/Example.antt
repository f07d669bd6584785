-- A use as what is called in a conversion, in another package, by the law alone.
--   package p: type T int; type A = []T      package q: import "m/p"; var E = p.A(nil)
-- A is marked; after the step: var E = []p.T(nil); where A is declared as *T: var E = (*p.T)(nil)
use Rattle.std.specs.Prelude.{refl, ℕ, Bool, true, false, List, [], ◌∷◌, Some, None, codes, nat_eq}
use Rattle.std.proofs.Common.{arith}
use Rattle.go_tree.specs.declared.exprs.Rest.TheVariants.{Plain}
use Rattle.go_tree.specs.Tree.{NameAt, TypeExpr, named, pointer, slice_type, Expr, ident, selector, call, type_operand, star, no_exprs, expr_and, var_decl, no_specs, spec}
use Rattle.go_tree.specs.File.{Decl, values, types, File, ImportDecl}
use Rattle.pkg_graph.specs.ModuleFiles.Internal.{passes}
use Rattle.pkg_graph.specs.Package.{SourceTree, Package}
use Rattle.go_translation.specs.Packages.{sources}
use Rattle.go_translation.specs.SameMeaning.{Packages, SameMeaning}
use Rattle.run_rules.specs.FormTrees.{as_expr}
use Rattle.run_rules.specs.FormTrees as forms
use Rattle.run_rules.specs.Programs.{top_place}
use Rattle.run_rules.specs.Sites.{MarkRef, Where, Site, an_expr}
use Rattle.run_rules.specs.Surroundings.{Place, called, a_slot, callee_place, comma_slot, inner_slot}
use Rattle.constant_steps.specs.Alone.{this_package, a_later_package}
use Rattle.constant_steps.specs.PlainUse.{linked_at}
use Rattle.constant_steps.specs.QualifiedSteps.MemberNames.{imported_member}
use Rattle.alias_runs.specs.AliasSteps.Retypable.{IsCalleePlace}
use Rattle.alias_runs.specs.QualifiedAliases.NamedTexts.{of_the_block}
use Rattle.alias_runs.specs.QualifiedAliases.AliasUse.{AliasUse, AliasUseStands, PackagesHold}
use Rattle.alias_runs.specs.CalledAliases.CalledUse.{IsCalledUse, as_called}
use Rattle.alias_runs.proofs.CalledAliases.PlacedSteps.{placed-step}

abbrev at : ℕ → List ℕ → NameAt ℕ
at s n = record { span = s; name = n }

abbrev type_at : ℕ → Bool → List ℕ → TypeExpr ℕ → Decl ℕ
type_at s alias n t = types s false (record { span = s; name = at s n; alias = alias; of = t } ∷ [])

-- `import "m/p"`
abbrev of_p : ImportDecl ℕ
of_p = record { span = 2; grouped = false; specs = record { span = 3; name = None; path = codes "m/p" } ∷ [] }

abbrev no_comments : ℕ → ℕ → ℕ → Bool
no_comments k f s = false

abbrev use_before : Expr ℕ
use_before = selector 32 (ident 33 (codes "p")) (at 34 (codes "A"))

abbrev conversion : Expr ℕ → Expr ℕ
conversion e = call 31 e (expr_and (ident 35 (codes "nil")) no_exprs) Plain

abbrev variable : Expr ℕ → Decl ℕ
variable e = values (var_decl 30 false (spec 30 (at 30 (codes "E") ∷ []) None (expr_and (conversion e) no_exprs) no_specs))

abbrev file_of_q : Expr ℕ → File ℕ
file_of_q e = record { package_name = at 1 (codes "q"); imports = of_p ∷ []; decls = variable e ∷ [] }

abbrev source_of_q : SourceTree ℕ
source_of_q = record { path = codes "q.go"; tree = file_of_q use_before }

abbrev q : Package ℕ
q = record { path = codes "m/q"; name = codes "q"; files = source_of_q ∷ [] }

abbrev mark_of_a : MarkRef
mark_of_a = record { «package» = 0; file = 0; decl = 1; item = 0 }

abbrev marks : List MarkRef
marks = mark_of_a ∷ []

-- the packages, where A is declared as this type
module _ (text : TypeExpr ℕ) where
  abbrev file_of_p : File ℕ
  file_of_p = record { package_name = at 1 (codes "p"); imports = []; decls = type_at 10 false (codes "T") (named 11 None (at 11 (codes "int"))) ∷ type_at 20 true (codes "A") text ∷ [] }

  abbrev source_of_p : SourceTree ℕ
  source_of_p = record { path = codes "p.go"; tree = file_of_p }

  abbrev p : Package ℕ
  p = record { path = codes "m/p"; name = codes "p"; files = source_of_p ∷ [] }

  abbrev rs : List (Package ℕ)
  rs = p ∷ q ∷ []

  abbrev home : Where ℕ
  home = record { number = 0; of = p; file_number = 0; source = source_of_p }

  abbrev here : Where ℕ
  here = record { number = 1; of = q; file_number = 0; source = source_of_q }

  -- where the value of the variable stands, and what is called in it
  abbrev value_place : Place ℕ
  value_place = let top : Place ℕ = top_place rs 1 q source_of_q.tree in record top { slot = comma_slot {S = ℕ} top.slot no_exprs }

  abbrev use_place : Place ℕ
  use_place = callee_place (inner_slot value_place.slot (conversion use_before) 7 true false) use_before value_place

  abbrev use_of_a : Site ℕ
  use_of_a = record { at = here; decl = 0; place = use_place; use_ = called; part = an_expr use_before; mark = mark_of_a }

  abbrev packages_with : Expr ℕ → Packages ℕ
  packages_with e =
      record {
        members =
            record { path = codes "m/p"; source = linked_at rs home 1 } ∷
            record { path = codes "m/q"; source = record (linked_at rs here 1) { files = record { imports = record { span = 3; name = codes "p"; of = 0 } ∷ []; decls = (file_of_q e).decls } ∷ [] } } ∷ [];
        marked = [];
      }

-- ---- type A = []T

abbrev text : TypeExpr ℕ
text = slice_type 21 (named 22 None (at 22 (codes "T")))

abbrev put : Expr ℕ
put = type_operand 32 (slice_type 32 (named 32 (Some (at 32 (codes "p"))) (at 32 (codes "T"))))

is_use : AliasUse nat_eq no_comments (rs text) marks (use_of_a text)
unfolding passes
is_use = record {
  names = imported_member refl refl;
  spelled_so = refl;
  home = home text;
  home_is = refl;
  alias = at 20 (codes "A");
  text = text;
  declared = refl;
  text_named = of_the_block;
  kind = forms.TypeForm;
  form = as_expr put;
  range = 32;
  packages = record { of = 0; name = codes "p"; added = None } ∷ [];
  reduces = refl;
  none_added = refl;
}

stands : AliasUseStands nat_eq no_comments (rs text) marks (use_of_a text) is_use
unfolding is_use
stands = record {
  package_there = refl;
  file_there = refl;
  decl = variable use_before;
  decl_there = refl;
  elsewhere = refl;
  simple = (tt, (tt, (tt, (tt, tt))));
}

is_called : IsCalledUse nat_eq no_comments (rs text) marks (use_of_a text) is_use stands
unfolding is_use stands
is_called = record {
  use_ = use_before;
  part = refl;
  called = λ e. absurd (grind (arith, e));
  alone = ((λ i. absurd (grind (arith, i))), ((λ i. (refl, refl)), ((λ i. absurd (grind (arith, i))), ((λ i. absurd (grind (arith, i))), tt))));
}

stand_there : PackagesHold nat_eq no_comments (rs text) marks (use_of_a text) is_use (sources (packages_with text use_before).members)
unfolding is_use
stand_there = record {
  use_ = record { at = 1; nth = 1; there = a_later_package refl this_package };
  home = record { at = 1; nth = 0; there = this_package };
}

-- by the law alone: the import of p is used by the variable's value
means_the_same : SameMeaning (packages_with text use_before) (packages_with text put)
unfolding is_use stands is_called stand_there
means_the_same = placed-step nat_eq no_comments (rs text) marks (use_of_a text) is_use stands (as_called is_called) (packages_with text use_before) stand_there (λ Q w. refl)

-- ---- type A = *T
-- after the step: var E = (*p.T)(nil)

abbrev to_t : TypeExpr ℕ
to_t = pointer 21 (named 22 None (at 22 (codes "T")))

abbrev called_after : Expr ℕ
called_after = star 32 (selector 32 (ident 32 (codes "p")) (at 32 (codes "T")))

is_use_of_pointer : AliasUse nat_eq no_comments (rs to_t) marks (use_of_a to_t)
unfolding passes
is_use_of_pointer = record {
  names = imported_member refl refl;
  spelled_so = refl;
  home = home to_t;
  home_is = refl;
  alias = at 20 (codes "A");
  text = to_t;
  declared = refl;
  text_named = of_the_block;
  kind = forms.TypeForm;
  form = as_expr called_after;
  range = 32;
  packages = record { of = 0; name = codes "p"; added = None } ∷ [];
  reduces = refl;
  none_added = refl;
}

pointer_stands : AliasUseStands nat_eq no_comments (rs to_t) marks (use_of_a to_t) is_use_of_pointer
unfolding is_use_of_pointer
pointer_stands = record {
  package_there = refl;
  file_there = refl;
  decl = variable use_before;
  decl_there = refl;
  elsewhere = refl;
  simple = (tt, (tt, (tt, (tt, tt))));
}

pointer_is_called : IsCalledUse nat_eq no_comments (rs to_t) marks (use_of_a to_t) is_use_of_pointer pointer_stands
unfolding is_use_of_pointer pointer_stands
pointer_is_called = record {
  use_ = use_before;
  part = refl;
  called = λ e. (refl, refl);
  alone = ((λ i. absurd (grind (arith, i))), ((λ i. (refl, refl)), ((λ i. absurd (grind (arith, i))), ((λ i. absurd (grind (arith, i))), tt))));
}

pointer_stands_there : PackagesHold nat_eq no_comments (rs to_t) marks (use_of_a to_t) is_use_of_pointer (sources (packages_with to_t use_before).members)
unfolding is_use_of_pointer
pointer_stands_there = record {
  use_ = record { at = 1; nth = 1; there = a_later_package refl this_package };
  home = record { at = 1; nth = 0; there = this_package };
}

-- by the law alone: the import of p is used by the variable's value
pointer_means_the_same : SameMeaning (packages_with to_t use_before) (packages_with to_t called_after)
unfolding is_use_of_pointer pointer_stands pointer_is_called pointer_stands_there
pointer_means_the_same = placed-step nat_eq no_comments (rs to_t) marks (use_of_a to_t) is_use_of_pointer pointer_stands (as_called pointer_is_called) (packages_with to_t use_before) pointer_stands_there (λ Q w. refl)

-- as an argument, such a type isn't what is called: nothing is said of it
no_argument : IsCalleePlace (record (use_place to_t) { slot = a_slot 1 false true }) → ⊥
no_argument q = grind (arith, q.0)

-- One step by the law alone, from a module, a mark and a use.
--   package p: type T int; type A = T; func f(y A) T { return A(y) }
-- A is marked; after the step: func f(y T) T { return A(y) }
use Rattle.std.specs.Prelude.{◌≡◌, refl, ℕ, Bool, true, false, List, [], ◌∷◌, Some, None, codes, nat_eq}
use mathlib.Core.Path.{◌∙◌, sym}
use Rattle.std.proofs.Common.{arith}
use Rattle.go_tree.specs.declared.exprs.Rest.TheVariants.{Plain}
use Rattle.go_tree.specs.Tree.{NameAt, TypeExpr, named, ident, call, no_exprs, expr_and, return_, no_stmts, stmt_and}
use Rattle.go_tree.specs.File.{Decl, types, func, File}
use Rattle.pkg_graph.specs.Members.{member}
use Rattle.pkg_graph.specs.Package.{SourceTree, Package}
use Rattle.go_translation.specs.SameMeaning.{Packages, SameMeaning}
use Rattle.run_rules.specs.FormTrees.{as_type}
use Rattle.run_rules.specs.FormTrees as forms
use Rattle.run_rules.specs.Programs.{top_place}
use Rattle.run_rules.specs.Reduced.{kept, reduced}
use Rattle.run_rules.specs.Obstacles.{Shadowed}
use Rattle.run_rules.specs.Sites.{MarkRef, Where, Site, a_type_part}
use Rattle.run_rules.specs.Surroundings.{other}
use Rattle.constant_steps.specs.Alone.{this_package}
use Rattle.constant_steps.specs.PlainUse.{linked_at}
use Rattle.alias_runs.specs.AliasSteps.PlainAlias.{PlainAliasUse}
use Rattle.alias_runs.specs.AliasSites.NamedUse.{NamedUse}
use Rattle.alias_runs.specs.AliasSites.TypeUse.{TypeUseStands}
use Rattle.alias_runs.proofs.AliasSites.TypeSteps.{type-step-means-the-same}

abbrev at : ℕ → List ℕ → NameAt ℕ
at s n = record { span = s; name = n }

abbrev name : ℕ → List ℕ → TypeExpr ℕ
name s n = named s None (at s n)

abbrev type_at : ℕ → Bool → List ℕ → List ℕ → Decl ℕ
type_at s alias n t = types s false (record { span = s; name = at s n; alias = alias; of = name 21 t } ∷ [])

abbrev function : TypeExpr ℕ → Decl ℕ
function t = func (record {
  span = 30;
  receiver = None;
  name = at 30 (codes "f");
  sig = record {
    params = record { span = 31; name = Some (at 31 (codes "y")); rest = false; of = t } ∷ [];
    results = record { span = 33; name = None; rest = false; of = name 33 (codes "T") } ∷ [];
  };
  body_span = 34;
  body = stmt_and (return_ 35 (expr_and (call 36 (ident 37 (codes "A")) (expr_and (ident 38 (codes "y")) no_exprs) Plain) no_exprs)) no_stmts;
})

abbrev file_with : TypeExpr ℕ → File ℕ
file_with t = record {
  package_name = at 1 (codes "p");
  imports = [];
  decls = type_at 10 false (codes "T") (codes "int") ∷ type_at 20 true (codes "A") (codes "T") ∷ function t ∷ [];
}

abbrev source : SourceTree ℕ
source = record { path = codes "p.go"; tree = file_with (name 32 (codes "A")) }

abbrev pk : Package ℕ
pk = record { path = codes "m/p"; name = codes "p"; files = source ∷ [] }

abbrev rs : List (Package ℕ)
rs = pk ∷ []

abbrev here : Where ℕ
here = record { number = 0; of = pk; file_number = 0; source = source }

abbrev mark_of_a : MarkRef
mark_of_a = record { «package» = 0; file = 0; decl = 1; item = 0 }

abbrev marks : List MarkRef
marks = mark_of_a ∷ []

abbrev no_comments : ℕ → ℕ → ℕ → Bool
no_comments k f s = false

abbrev use_of_a : Site ℕ
use_of_a = record { at = here; decl = 2; place = top_place rs 0 pk source.tree; use_ = other; part = a_type_part (name 32 (codes "A")); mark = mark_of_a }

is_plain_use : PlainAliasUse nat_eq no_comments rs marks use_of_a
is_plain_use = record {
  home = here;
  stands = refl;
  alias = at 20 (codes "A");
  at = 21;
  new = at 21 (codes "T");
  declared = refl;
  same_package = refl;
  kind = forms.TypeForm;
  form = as_type (name 32 (codes "T"));
  range = 32;
  packages = [];
  reduces = refl;
  target = member 0 0 0 0;
  names = refl;
  plainly = refl;
}

is_named : NamedUse rs marks use_of_a
is_named = record { name = at 32 (codes "A"); marked = refl; package_there = refl; spelled_so = refl }

stands : TypeUseStands nat_eq rs marks use_of_a is_named is_plain_use.new.name
unfolding is_named is_plain_use
stands = record {
  span = 32;
  part = refl;
  new_spelled = refl;
  file_there = refl;
  decl = function (name 32 (codes "A"));
  decl_there = refl;
  elsewhere = refl;
  receiver = refl;
  simple = (tt, (tt, (tt, (tt, (tt, (tt, tt))))));
  alone = ((λ e. (refl, refl)), ((λ e. absurd (grind (arith, e))), (tt, (tt, (tt, (tt, tt))))));
}

abbrev packages_with : TypeExpr ℕ → Packages ℕ
packages_with t = record { members = record { path = codes "m/p"; source = record (linked_at rs here 1) { files = record { imports = []; decls = (file_with t).decls } ∷ [] } } ∷ []; marked = [] }

-- by the law alone; the file has no imports
means_the_same : SameMeaning (packages_with (name 32 (codes "A"))) (packages_with (name 32 (codes "T")))
unfolding stands is_named is_plain_use
means_the_same =
    type-step-means-the-same nat_eq no_comments rs marks use_of_a is_plain_use is_named stands 1 0 (packages_with (name 32 (codes "A"))) this_package (λ Q w. refl)

-- ---- where T is declared around the use, as by `T := 1; var x A`, it stays: no such use is plain

abbrev shadowed_use : Site ℕ
shadowed_use = record use_of_a { place = record (top_place rs 0 pk source.tree) { bound = at 50 (codes "T") ∷ [] } }

stays : reduced nat_eq no_comments rs marks shadowed_use ≡ Some (kept (Shadowed (codes "T")))
stays = refl

not_plain : PlainAliasUse nat_eq no_comments rs marks shadowed_use → ⊥
not_plain u = grind (arith, sym stays ∙ u.reduces)

-- A use in another package, by the law alone.
--   package p: type T int; type A = []T      package q: import "m/p"; func f(y p.A) {}
-- A is marked; after the step: func f(y []p.T) {}
use Rattle.std.specs.Prelude.{refl, ℕ, Bool, true, false, List, [], ◌∷◌, Some, None, codes, nat_eq}
use Rattle.go_tree.specs.Tree.{NameAt, TypeExpr, named, slice_type, no_stmts}
use Rattle.go_tree.specs.File.{Decl, types, func, File, ImportDecl}
use Rattle.pkg_graph.specs.ModuleFiles.Internal.{passes}
use Rattle.pkg_graph.specs.Package.{SourceTree, Package}
use Rattle.go_translation.specs.Packages.{sources}
use Rattle.go_translation.specs.SameMeaning.{Packages, SameMeaning}
use Rattle.run_rules.specs.FormTrees.{as_type}
use Rattle.run_rules.specs.FormTrees as forms
use Rattle.run_rules.specs.Programs.{top_place}
use Rattle.run_rules.specs.Sites.{MarkRef, Where, Site, a_type_part}
use Rattle.run_rules.specs.Surroundings.{other}
use Rattle.constant_steps.specs.Alone.{this_package, a_later_package}
use Rattle.constant_steps.specs.PlainUse.{linked_at}
use Rattle.constant_steps.specs.QualifiedSteps.MemberNames.{imported_member}
use Rattle.alias_runs.specs.QualifiedAliases.NamedTexts.{of_the_block}
use Rattle.alias_runs.specs.QualifiedAliases.AliasUse.{AliasUse, AliasUseStands, IsTypeUse, PackagesHold}
use Rattle.alias_runs.proofs.QualifiedAliases.AliasSwapped.{step-means-the-same}

abbrev at : ℕ → List ℕ → NameAt ℕ
at s n = record { span = s; name = n }

-- `import "m/p"`
abbrev of_p : ImportDecl ℕ
of_p = record { span = 2; grouped = false; specs = record { span = 3; name = None; path = codes "m/p" } ∷ [] }

abbrev no_comments : ℕ → ℕ → ℕ → Bool
no_comments k f s = false

abbrev type_at : ℕ → Bool → List ℕ → TypeExpr ℕ → Decl ℕ
type_at s alias n t = types s false (record { span = s; name = at s n; alias = alias; of = t } ∷ [])

abbrev text : TypeExpr ℕ
text = slice_type 21 (named 22 None (at 22 (codes "T")))

abbrev use_before : TypeExpr ℕ
use_before = named 32 (Some (at 32 (codes "p"))) (at 33 (codes "A"))

abbrev put : TypeExpr ℕ
put = slice_type 32 (named 32 (Some (at 32 (codes "p"))) (at 32 (codes "T")))

abbrev function : TypeExpr ℕ → Decl ℕ
function t = func (record {
  span = 30;
  receiver = None;
  name = at 30 (codes "f");
  sig = record { params = record { span = 31; name = Some (at 31 (codes "y")); rest = false; of = t } ∷ []; results = [] };
  body_span = 34;
  body = no_stmts;
})

abbrev file_of_p : File ℕ
file_of_p = record { package_name = at 1 (codes "p"); imports = []; decls = type_at 10 false (codes "T") (named 11 None (at 11 (codes "int"))) ∷ type_at 20 true (codes "A") text ∷ [] }

abbrev file_of_q : TypeExpr ℕ → File ℕ
file_of_q t = record { package_name = at 1 (codes "q"); imports = of_p ∷ []; decls = function t ∷ [] }

abbrev source_of_p : SourceTree ℕ
source_of_p = record { path = codes "p.go"; tree = file_of_p }

abbrev source_of_q : SourceTree ℕ
source_of_q = record { path = codes "q.go"; tree = file_of_q use_before }

abbrev p : Package ℕ
p = record { path = codes "m/p"; name = codes "p"; files = source_of_p ∷ [] }

abbrev q : Package ℕ
q = record { path = codes "m/q"; name = codes "q"; files = source_of_q ∷ [] }

abbrev rs : List (Package ℕ)
rs = p ∷ q ∷ []

abbrev home : Where ℕ
home = record { number = 0; of = p; file_number = 0; source = source_of_p }

abbrev here : Where ℕ
here = record { number = 1; of = q; file_number = 0; source = source_of_q }

abbrev mark_of_a : MarkRef
mark_of_a = record { «package» = 0; file = 0; decl = 1; item = 0 }

abbrev marks : List MarkRef
marks = mark_of_a ∷ []

abbrev use_of_a : Site ℕ
use_of_a = record { at = here; decl = 0; place = top_place rs 1 q source_of_q.tree; use_ = other; part = a_type_part use_before; mark = mark_of_a }

is_use : AliasUse nat_eq no_comments rs marks use_of_a
unfolding passes
is_use = record {
  names = imported_member refl refl;
  spelled_so = refl;
  home = home;
  home_is = refl;
  alias = at 20 (codes "A");
  text = text;
  declared = refl;
  text_named = of_the_block;
  kind = forms.TypeForm;
  form = as_type put;
  range = 32;
  packages = record { of = 0; name = codes "p"; added = None } ∷ [];
  reduces = refl;
  none_added = refl;
}

stands : AliasUseStands nat_eq no_comments rs marks use_of_a is_use
unfolding is_use
stands = record {
  package_there = refl;
  file_there = refl;
  decl = function use_before;
  decl_there = refl;
  elsewhere = refl;
  simple = (tt, tt);
}

is_type : IsTypeUse nat_eq no_comments rs marks use_of_a is_use stands
unfolding is_use stands
is_type = record { use_ = use_before; part = refl; receiver = refl; alone = ((λ i. (refl, refl)), tt) }

abbrev packages_with : TypeExpr ℕ → Packages ℕ
packages_with t =
    record {
      members =
          record { path = codes "m/p"; source = linked_at rs home 1 } ∷
          record { path = codes "m/q"; source = record (linked_at rs here 1) { files = record { imports = record { span = 3; name = codes "p"; of = 0 } ∷ []; decls = (file_of_q t).decls } ∷ [] } } ∷ [];
      marked = [];
    }

stand_there : PackagesHold nat_eq no_comments rs marks use_of_a is_use (sources (packages_with use_before).members)
unfolding is_use
stand_there = record {
  use_ = record { at = 1; nth = 1; there = a_later_package refl this_package };
  home = record { at = 1; nth = 0; there = this_package };
}

-- by the law alone: the import of p is used by the function's signature
means_the_same : SameMeaning (packages_with use_before) (packages_with put)
unfolding is_use stands is_type stand_there
means_the_same = step-means-the-same nat_eq no_comments rs marks use_of_a is_use stands is_type (packages_with use_before) stand_there (λ Q w. refl)

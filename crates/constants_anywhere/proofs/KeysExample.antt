-- A use as the key of a map, beside a key that names a field.
--   package main: const D = 7; const C = D; type T struct { C int }; func main() { _ = map[int]T{C: {C: 1}} }
-- C is marked; after the step: _ = map[int]T{D: {C: 1}}
use Rattle.std.specs.Prelude.{refl, ℕ, false, [], ◌∷◌, None, codes, nat_eq}
use Rattle.std.proofs.Common.{arith}
use Rattle.go_tree.specs.Tree.{Expr, ident, int_lit, composite, map_type, struct_type, no_fields, field, no_exprs, expr_and, no_elems, elem, plain, braced, some_value, assign, Stmts, no_stmts, stmt_and}
use Rattle.go_tree.specs.Tree as tree
use Rattle.go_tree.specs.Tree.{NameAt}
use Rattle.go_tree.specs.File.{Decl, func, types}
use Rattle.go_translation.specs.SameMeaning.{SameMeaning}
use Rattle.run_rules.specs.FormTrees.{ConstForm, as_expr}
use Rattle.constant_steps.specs.Alone.{no_constants, and_constant, constants_alone, no_decls, and_decl, this_package}
use Rattle.constant_steps.specs.Alone as alone
use Rattle.constant_steps.specs.PlainUse.{PlainUse}
use Rattle.constants_anywhere.proofs.ExampleParts.{named, mark_of_d, marks, no_comments, main_with, home, program, use_of_c, packages_with}
use Rattle.constants_anywhere.specs.UseAnywhere.{UseAnywhere}
use Rattle.constants_anywhere.proofs.UsesAnywhere.{meaning_anywhere}

abbrev body_with : Expr ℕ → Stmts ℕ
body_with e =
    stmt_and (assign 40 (expr_and (ident 41 (codes "_")) no_exprs) None (expr_and (composite 42 (map_type 43 (tree.named 44 None (named 44 (codes "int"))) (tree.named 45 None (named 45 (codes "T"))))
    (elem 46 (some_value (plain e)) (braced 47 (elem 48 (some_value (plain (ident 49 (codes "C")))) (plain (int_lit 50 (codes "1"))) no_elems)) no_elems)) no_exprs)) no_stmts

-- the type T
abbrev type_t : Decl ℕ
type_t = types 60 false (record { span = 61; name = named 62 (codes "T"); alias = false; of = struct_type 63 (field 64 (named 65 (codes "C")) (tree.named 66 None (named 66 (codes "int"))) no_fields) } ∷ [])

is_plain_use : PlainUse nat_eq no_comments (program body_with (type_t ∷ [])) marks (use_of_c body_with (type_t ∷ []))
is_plain_use = record {
  span = 31;
  name = codes "C";
  part = refl;
  use_ = refl;
  home = home body_with (type_t ∷ []);
  stands = refl;
  constant = named 20 (codes "C");
  at = 21;
  new = codes "D";
  declared = refl;
  untyped = refl;
  same_package = refl;
  kind = ConstForm;
  form = as_expr (ident 31 (codes "D"));
  range = 31;
  packages = [];
  reduces = refl;
  new_mark = mark_of_d;
  new_names = refl;
  new_constant = named 10 (codes "D");
  new_expr = int_lit 11 (codes "7");
  new_declared = refl;
}

use_stands : UseAnywhere nat_eq no_comments (program body_with (type_t ∷ [])) marks (use_of_c body_with (type_t ∷ [])) is_plain_use
unfolding is_plain_use
use_stands = record {
  package_there = refl;
  file_there = refl;
  decl = func (main_with body_with (type_t ∷ []) (ident 31 (codes "C")));
  decl_there = refl;
  elsewhere = refl;
  plain = alone.and_file (and_decl (constants_alone (and_constant no_constants)) (and_decl (constants_alone (and_constant no_constants)) (and_decl alone.some_types (and_decl alone.a_function no_decls)))) alone.no_files;
  alone = (λ i. absurd (grind (arith, i)), (tt, (λ i. (refl, refl), (λ i. absurd (grind (arith, i)), (λ i. absurd (grind (arith, i)), (tt, tt))))));
}

-- by the law alone
means_the_same : SameMeaning (packages_with body_with (type_t ∷ []) (ident 31 (codes "C"))) (packages_with body_with (type_t ∷ []) (ident 31 (codes "D")))
unfolding use_stands is_plain_use
means_the_same = meaning_anywhere nat_eq no_comments (program body_with (type_t ∷ [])) marks (use_of_c body_with (type_t ∷ [])) is_plain_use use_stands 1 0 (tt, (tt, (tt, (tt, ((tt, tt), (tt, tt)))))) (packages_with body_with (type_t ∷ []) (ident 31 (codes "C"))) refl this_package

-- A use in a function literal.
--   package main: const D = 7; const C = D; func main() { func() { println(C) }() }
-- C is marked; after the step: println(D)
use Rattle.std.specs.Prelude.{refl, ℕ, [], codes, nat_eq}
use Rattle.std.proofs.Common.{arith}
use Rattle.go_tree.specs.declared.exprs.Rest.TheVariants.{Plain}
use Rattle.go_tree.specs.Tree.{Expr, ident, int_lit, call, func_lit, no_exprs, expr_and, eval, Stmts, no_stmts, stmt_and}
use Rattle.go_tree.specs.File.{func}
use Rattle.go_translation.specs.SameMeaning.{SameMeaning}
use Rattle.run_rules.specs.FormTrees.{ConstForm, as_expr}
use Rattle.constant_steps.specs.Alone.{no_constants, and_constant, constants_alone, no_decls, and_decl, this_package}
use Rattle.constant_steps.specs.Alone as alone
use Rattle.constant_steps.specs.PlainUse.{PlainUse}
use Rattle.constants_anywhere.proofs.ExampleParts.{named, mark_of_d, marks, no_comments, main_with, home, program, use_of_c, packages_with}
use Rattle.constants_anywhere.specs.UseAnywhere.{UseAnywhere}
use Rattle.constants_anywhere.proofs.UsesAnywhere.{meaning_anywhere}

abbrev body_with : Expr ℕ → Stmts ℕ
body_with e =
    stmt_and (eval 40 (call 41 (func_lit 42 (record { params = []; results = [] }) 43 (stmt_and (eval 44 (call 45 (ident 46 (codes "println")) (expr_and e no_exprs) Plain)) no_stmts)) no_exprs Plain)) no_stmts

is_plain_use : PlainUse nat_eq no_comments (program body_with []) marks (use_of_c body_with [])
is_plain_use = record {
  span = 31;
  name = codes "C";
  part = refl;
  use_ = refl;
  home = home body_with [];
  stands = refl;
  constant = named 20 (codes "C");
  at = 21;
  new = codes "D";
  declared = refl;
  untyped = refl;
  same_package = refl;
  kind = ConstForm;
  form = as_expr (ident 31 (codes "D"));
  range = 31;
  packages = [];
  reduces = refl;
  new_mark = mark_of_d;
  new_names = refl;
  new_constant = named 10 (codes "D");
  new_expr = int_lit 11 (codes "7");
  new_declared = refl;
}

use_stands : UseAnywhere nat_eq no_comments (program body_with []) marks (use_of_c body_with []) is_plain_use
unfolding is_plain_use
use_stands = record {
  package_there = refl;
  file_there = refl;
  decl = func (main_with body_with [] (ident 31 (codes "C")));
  decl_there = refl;
  elsewhere = refl;
  plain = alone.and_file (and_decl (constants_alone (and_constant no_constants)) (and_decl (constants_alone (and_constant no_constants)) (and_decl alone.a_function no_decls))) alone.no_files;
  alone = (λ i. absurd (grind (arith, i)), (λ i. (refl, refl), (λ i. absurd (grind (arith, i)), (tt, (λ i. absurd (grind (arith, i)), (λ i. absurd (grind (arith, i)), (tt, tt)))))));
}

-- by the law alone
means_the_same : SameMeaning (packages_with body_with [] (ident 31 (codes "C"))) (packages_with body_with [] (ident 31 (codes "D")))
unfolding use_stands is_plain_use
means_the_same = meaning_anywhere nat_eq no_comments (program body_with []) marks (use_of_c body_with []) is_plain_use use_stands 1 0 (tt, (tt, (tt, (tt, ((tt, tt), (tt, (tt, tt))))))) (packages_with body_with [] (ident 31 (codes "C"))) refl this_package

-- A block with a method's body, in the place of a call of the method: its receiver is bound first.
--   type C struct{ }
--   func (c C) F() { G(c) }   (marked)
--   func G(b C) { }           (marked)
--   func H() { v.F() }
--   var v C
use Rattle.std.proofs.Common.{◌≡◌, refl, ℕ, true, false, List, [], ◌∷◌, Option, Some, None, codes}
use Rattle.go_tree.specs.declared.exprs.Rest.TheVariants.{Plain}
use Rattle.go_tree.specs.Tree.{NameAt, TypeExpr, named, struct_type, no_fields, Param, Expr, ident, selector, call, no_exprs, expr_and, Stmt, eval, var_decl, define, inner, Stmts, no_stmts, stmt_and, no_specs, spec}
use Rattle.go_tree.specs.File.{Receiver, Func, values, types, func, File}
use Rattle.pkg_graph.specs.Package.{SourceTree, Package}
use Rattle.run_rules.specs.Surroundings.{Place, at_stmt, block, after_stmt}
use Rattle.run_rules.specs.Places.{stmt_seen}
use Rattle.run_rules.specs.Programs.{body_place}
use Rattle.run_rules.specs.Sites.{MarkRef, Where}
use Rattle.run_rules.specs.Steps.{At}
use Rattle.run_rules.proofs.CaseTools.{mark, param, sig, tspec, recv}
use Rattle.order_runs.specs.CycleLaws.PutCalls.{called_among}
use Rattle.order_runs.proofs.CycleLaws.ConstantCycles.Examples.{node}
use Rattle.literal_cycles.specs.FormCycles.Puts.{StatementCallsThrough}
use Rattle.literal_cycles.specs.FormCycles.Blocks.{to_new_names, bound_by, is_it, IsBlockOf}
use Rattle.literal_cycles.proofs.FormCycles.BlockCalls.{block-through}

abbrev name_of : ℕ → List ℕ → NameAt At
name_of s n = record { span = node s; name = n }

abbrev type_C : ℕ → TypeExpr At
type_C s = named (node s) None (name_of s (codes "C"))

abbrev calling : ℕ → List ℕ → Stmts At
calling s n = stmt_and (eval (node s) (call (node s) (ident (node s) (codes "G")) (expr_and (ident (node s) n) no_exprs) Plain)) no_stmts

abbrev function : ℕ → Option (Receiver At) → List ℕ → List (Param At) → Stmts At → Func At
function s r n ps b = record { span = node s; receiver = r; name = name_of s n; sig = sig ps []; body_span = node s; body = b }

abbrev method : Func At
method = function 10 (Some (recv (node 11) (Some (name_of 11 (codes "c"))) false (name_of 12 (codes "C")))) (codes "F") [] (calling 15 (codes "c"))

-- v.F()
abbrev call_ : Expr At
call_ = call (node 35) (selector (node 35) (ident (node 36) (codes "v")) (name_of 37 (codes "F"))) no_exprs Plain

abbrev use_ : Stmt At
use_ = eval (node 35) call_

abbrev caller : Func At
caller = function 30 None (codes "H") [] (stmt_and use_ no_stmts)

abbrev tree : File At
tree = record {
  package_name = name_of 0 (codes "m");
  imports = [];
  decls = types (node 1) false (tspec (node 1) (name_of 2 (codes "C")) false (struct_type (node 3) no_fields) ∷ []) ∷ func method
      ∷ func (function 20 None (codes "G") (param (node 21) (Some (name_of 21 (codes "b"))) (type_C 22) ∷ []) no_stmts) ∷ func caller
      ∷ values (var_decl (node 40) false (spec (node 41) (name_of 41 (codes "v") ∷ []) (Some (type_C 42)) no_exprs no_specs)) ∷ [];
}

abbrev file : SourceTree At
file = record { path = codes "m.go"; tree = tree }

abbrev package_ : Package At
package_ = record { path = codes "m"; name = codes "m"; files = file ∷ [] }

abbrev packages : List (Package At)
packages = package_ ∷ []

abbrev f : MarkRef
f = mark 0 0 1 0

abbrev marks : List MarkRef
marks = f ∷ mark 0 0 2 0 ∷ []

abbrev w : Where At
w = record { number = 0; of = package_; file_number = 0; source = file }

abbrev q : Place At
q = at_stmt (body_place packages 0 package_ tree caller) use_

-- c := v
abbrev binding : Stmt At
binding = define (node 60) (name_of 60 (codes "c") ∷ []) (expr_and (ident (node 36) (codes "v")) no_exprs)

abbrev block_ : Stmt At
block_ = inner (node 35) (stmt_and binding (calling 60 (codes "c")))

called : called_among packages marks w 3 (stmt_seen q true use_) ≡ f ∷ []
called = refl

there : called_among packages marks w 3 (stmt_seen q true block_) ≡ mark 0 0 2 0 ∷ []
there = refl

abbrev home : Place At
home = body_place packages 0 package_ tree method

is_block : IsBlockOf packages marks w f q block_ use_
is_block = record {
  called = call_;
  names = record { marked_function = refl; span = node 35; name = selector (node 35) (ident (node 36) (codes "v")) (name_of 37 (codes "F")); args = no_exprs; rest = Plain; is_call = refl; names = refl };
  holds = is_it (node 35);
  new = node 35;
  body = calling 60 (codes "c");
  inside = stmt_and binding (calling 60 (codes "c"));
  start = after_stmt (block q) binding;
  is_block = refl;
  values = expr_and (ident (node 36) (codes "v")) no_exprs;
  bound = bound_by (expr_and (ident (node 36) (codes "v")) no_exprs) binding (to_new_names (node 60) (name_of 60 (codes "c") ∷ []));
  arguments = λ at. refl;
  function = record {
    home = w;
    callee = method;
    is_home = refl;
    is_callee = refl;
    same_body = refl;
    meanings = home.env.names;
    extra = [];
    place = record { env = refl; bound = refl; agrees = record { bound = λ n e. refl; here = λ n e. refl; blank = λ n e. refl } };
    identifiers = λ n i. (refl, record { function = refl; qualifier = refl });
  };
}

through : StatementCallsThrough packages marks w 3 f q block_ use_
through = block-through packages marks w 3 f q block_ use_ is_block

-- A module of three packages.
--   package units: var One int
--   package old: import "m/units"; type Point struct { X int }; var Origin Point
--     func Add(x int) int { x = x + Origin.X; return x + units.One }
--   package main: func main() { println(old.Add(..)) }
-- Add is marked.
use Rattle.std.specs.Prelude.{ℕ, Bool, false, true, List, [], ◌∷◌, Some, None, codes}
use Rattle.go_tree.specs.declared.spans.Span.{Span}
use Rattle.go_tree.specs.declared.exprs.Rest.TheVariants.{Plain}
use Rattle.go_tree.specs.declared.operators.BinOp.TheVariants.{Add}
use Rattle.go_tree.specs.Tree.{NameAt, TypeExpr, named, struct_type, no_fields, field, Sig, Expr, ident, selector, call, func_lit, binary, no_exprs, expr_and, Stmt, var_decl, eval, assign, return_, Stmts, no_stmts, stmt_and, no_specs, spec}
use Rattle.go_tree.specs.File.{ImportSpec, Func, values, types, func, File}
use Rattle.pkg_graph.specs.Package.{Package}
use Rattle.run_rules.specs.Surroundings.{whole, Place, a_slot, in_slot, at_stmt}
use Rattle.run_rules.specs.Programs.{body_place}
use Rattle.run_rules.specs.Sites.{MarkRef, Where, Site, an_expr}

abbrev pub at : ℕ → Span
at n = record { start = n; end = n }

abbrev pub name : ℕ → List ℕ → NameAt Span
name s n = record { span = at s; name = n }

abbrev pub int_at : Span → TypeExpr Span
int_at s = named s None (record { span = s; name = codes "int" })

-- an import by its path
abbrev pub import_at : ℕ → List ℕ → ImportSpec Span
import_at s path = record { span = at s; name = None; path = path }

-- { x = x + origin.X; return x + units.One }, at these places
abbrev pub body_from : (ℕ → Span) → Expr Span → Expr Span → Stmts Span
body_from at origin one =
    stmt_and
    (assign (at 20) (expr_and (ident (at 21) (codes "x")) no_exprs) None
    (expr_and (binary (at 22) Add (ident (at 23) (codes "x"))
    (selector (at 24) origin (record { span = at 27; name = codes "X" }))) no_exprs))
    (stmt_and (return_ (at 25) (expr_and (binary (at 28) Add (ident (at 26) (codes "x")) one) no_exprs)) no_stmts)

abbrev pub sig_from : (ℕ → Span) → Sig Span
sig_from at =
    record {
      params = record {
        span = at 12;
        name = Some (record { span = at 13; name = codes "x" });
        rest = false;
        of = int_at
            (at 14);
      } ∷ [];
      results = record { span = at 15; name = None; rest = false; of = int_at (at 16) } ∷ [];
    }

-- units.One
abbrev pub one_at : Span → Expr Span
one_at s = selector s (ident s (codes "units")) (record { span = s; name = codes "One" })

abbrev pub add : Func Span
add = record {
  span = at 10;
  receiver = None;
  name = name 11 (codes "Add");
  sig = sig_from at;
  body_span = at 17;
  body = body_from at (ident (at 29) (codes "Origin")) (one_at (at 30));
}

abbrev pub units_file : File Span
units_file = record {
  package_name = name 1 (codes "units");
  imports = [];
  decls = values
      (var_decl (at 2) false (spec (at 3) (name 4 (codes "One") ∷ []) (Some (int_at (at 5))) no_exprs no_specs)) ∷ [];
}

abbrev pub units : Package Span
units = record {
  path = codes "m/units";
  name = codes "units";
  files = record
      { path = codes "units/units.go"; tree = units_file } ∷ [];
}

abbrev pub old_file : File Span
old_file =
    record {
      package_name = name 1 (codes "old");
      imports = record { span = at 2; grouped = false; specs = import_at 3 (codes "m/units") ∷ [] } ∷ [];
      decls = types (at 4) false (record {
        span = at 5;
        name = name 5 (codes "Point");
        alias = false;
        of = struct_type
            (at 6) (field (at 6) (name 6 (codes "X")) (int_at (at 7)) no_fields);
      } ∷ [])
          ∷ values (var_decl (at 8) false (spec (at 8) (name 8 (codes "Origin") ∷ [])
          (Some (named (at 9) None (name 9 (codes "Point")))) no_exprs no_specs)) ∷ func add ∷ [];
    }

abbrev pub old : Package Span
old = record {
  path = codes "m/old";
  name = codes "old";
  files = record { path = codes "old/old.go"; tree = old_file } ∷
      [];
}

-- old.Add(x)
abbrev pub adding : Expr Span → Expr Span
adding x = call (at 43) (selector (at 44) (ident (at 45) (codes "old")) (name 46 (codes "Add"))) (expr_and x no_exprs)
    Plain

abbrev pub printing : Expr Span → Stmt Span
printing x = eval (at 40) (call (at 41) (ident (at 42) (codes "println")) (expr_and (adding x) no_exprs) Plain)

abbrev pub main : Expr Span → Func Span
main x = record {
  span = at 34;
  receiver = None;
  name = name 35 (codes "main");
  sig = record
      { params = []; results = [] };
  body_span = at 36;
  body = stmt_and (printing x) no_stmts;
}

abbrev pub main_file : List (ImportSpec Span) → Expr Span → File Span
main_file is x = record {
  package_name = name 1 (codes "main");
  imports = record
      { span = at 2; grouped = true; specs = is } ∷ [];
  decls = func (main x) ∷ [];
}

abbrev pub main_package : List (ImportSpec Span) → Expr Span → Package Span
main_package is x = record {
  path = codes "m";
  name = codes "main";
  files = record
      { path = codes "main.go"; tree = main_file is x } ∷ [];
}

abbrev pub packages_with : List (ImportSpec Span) → Expr Span → List (Package Span)
packages_with is x = main_package is x ∷ old ∷ units ∷ []

abbrev pub in_old : Where Span
in_old = record {
  number = 1;
  of = old;
  file_number = 0;
  source = record { path = codes "old/old.go"; tree = old_file };
}

abbrev pub in_main_with : List (ImportSpec Span) → Expr Span → Where Span
in_main_with is x = record {
  number = 0;
  of = main_package is x;
  file_number = 0;
  source = record
      { path = codes "main.go"; tree = main_file is x };
}

abbrev pub mark_of_add : MarkRef
mark_of_add = record { «package» = 1; file = 0; decl = 2; item = 0 }

abbrev pub marks : List MarkRef
marks = mark_of_add ∷ []

abbrev pub no_comments : ℕ → ℕ → Span → Bool
no_comments k f s = false

abbrev pub place_with : List (ImportSpec Span) → Expr Span → Place Span
place_with is x = in_slot (a_slot 1 false true) (at_stmt (body_place (packages_with is x) 0 (main_package is x)
    (main_file is x) (main x)) (printing x))

abbrev pub use_with : List (ImportSpec Span) → Expr Span → Site Span
use_with is x = record {
  at = in_main_with is x;
  decl = 0;
  place = place_with is x;
  use_ = whole;
  part = an_expr
      (adding x);
  mark = mark_of_add;
}

-- func(x int) int { x = x + old.Origin.X; return x + units.One }(x)
abbrev pub new_at : ℕ → Span
new_at n = at 43

abbrev pub literal : Expr Span → Expr Span
literal x =
    call (at 43) (func_lit (at 43) (sig_from new_at) (at 43)
    (body_from new_at (selector (at 43) (ident (at 43) (codes "old")) (name 43 (codes "Origin"))) (one_at (at 43))))
    (expr_and x no_exprs) Plain

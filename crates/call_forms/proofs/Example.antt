-- A call that the code is told of.
--   package old: var Base = 1; func Keep(int) int { return Base }
--   package main: import q "m/old"; a call q.Keep(v) becomes func(_ int) int { return q.Base }(v)
use Rattle.std.specs.Prelude.{List, ◌≡◌, refl, ℕ, zero, suc, false, [], ◌∷◌, Some, None, codes}
use Rattle.std.proofs.Common.{sym, ◌∙◌}
use Rattle.go_tree.specs.declared.spans.Span.{Span}
use Rattle.go_tree.specs.declared.exprs.Rest.TheVariants.{Plain}
use Rattle.go_tree.specs.Tree.{NameAt, TypeExpr, named, ident, int_lit, selector, call, no_exprs, expr_and, var_decl}
use Rattle.go_tree.specs.Tree.{return_, Stmts, no_stmts, stmt_and, no_specs, spec}
use Rattle.go_tree.specs.File.{Func, func, values, File}
use Rattle.pkg_graph.specs.Package.{Package}
use Rattle.param_choice.specs.Chosen.{has}
use Rattle.run_rules.specs.ImportRules.Removed.{same_span}
use Rattle.run_rules.specs.Surroundings.{other}
use Rattle.run_rules.specs.Sites.{Where}
use Rattle.run_rules.specs.Naming.{Names}
use Rattle.run_rules.specs.Calls.{Call}
use Rattle.run_rules.specs.Programs.{top_place}
use Rattle.run_rules.specs.Respanned.{func_with, exprs_with}
use Rattle.call_forms.specs.declared.qualifiers.There.{There}
use Rattle.call_forms.specs.Written.{told}
use Rattle.call_forms.specs.Calls.{IsToldCall}

abbrev at : ℕ → Span
at n = record { start = n; end = n }

abbrev name : ℕ → List ℕ → NameAt Span
name s n = record { span = at s; name = n }

abbrev int_type : ℕ → TypeExpr Span
int_type s = named (at s) None (name s (codes "int"))

abbrev body : Stmts Span
body = stmt_and (return_ (at 25) (expr_and (ident (at 26) (codes "Base")) no_exprs)) no_stmts

abbrev keep : Func Span
keep =
    record {
      span = at 10;
      receiver = None;
      name = name 11 (codes "Keep");
      sig = record {
        params = record { span = at 12; name = None; rest = false; of = int_type 14 } ∷ [];
        results = record { span = at 15; name = None; rest = false; of = int_type 16 } ∷ [];
      };
      body_span = at 17;
      body = body;
    }

abbrev tree : File Span
tree =
    record {
      package_name = name 1 (codes "old");
      imports = [];
      decls =
          values (var_decl (at 2) false (spec (at 3) (name 4 (codes "Base") ∷ []) None (expr_and (int_lit (at 5) (codes
          "1")) no_exprs) no_specs))
          ∷ func keep ∷ [];
    }

abbrev old : Package Span
old = record { path = codes "m/old"; name = codes "old"; files = record { path = codes "old/a.go"; tree = tree } ∷ [] }

abbrev home : Where Span
home = record { number = 0; of = old; file_number = 0; source = record { path = codes "old/a.go"; tree = tree } }

-- the call at byte 90 of package 1, which isn't looked at further
abbrev the_call : Call Span
the_call =
    record {
      home = home;
      callee = keep;
      at_package = 1;
      around = [];
      at = top_place (old ∷ []) 0 old tree;
      use_ = other;
      tree = call (at 90) (selector (at 91) (ident (at 92) (codes "q")) (name 93 (codes "Keep"))) (expr_and (ident (at
          94) (codes "v")) no_exprs) Plain;
      new = at 90;
      written = λ t. t;
    }

abbrev names : Names
names k = codes "q"

none_kept : (i : ℕ) → has [] i ≡ false
none_kept zero = refl
none_kept (suc i) = refl

-- told that `q` stands before the name of the variable, and nothing before those of types
pub told_right : (t : There) → t.span ≡ at 90 → told t (at 26) ≡ Some (codes "q") → told t (at 14) ≡ None → told t (at
    16) ≡ None
    → IsToldCall (λ s. s) same_span (old ∷ []) the_call names [] t (func_with (λ s. s) keep) (exprs_with (λ s. s)
    (expr_and (ident (at 94) (codes "v")) no_exprs))
told_right t z base param result =
    record {
      free = refl;
      nothing_chosen = none_kept;
      span = at 90;
      called = selector (at 91) (ident (at 92) (codes "q")) (name 93 (codes "Keep"));
      given = expr_and (ident (at 94) (codes "v")) no_exprs;
      rest = Plain;
      tree_is = refl;
      counted = λ s. refl;
      typed = refl;
      stands = sym z;
      callee_is = refl;
      args_are = refl;
      sig_told = ((param, tt), ((result, tt), tt));
      body_told = (base, (tt, tt));
    }

-- told that nothing stands before the variable's name, it is told wrong
pub told_wrong : (t : There) → told t (at 26) ≡ None
    → IsToldCall (λ s. s) same_span (old ∷ []) the_call names [] t (func_with (λ s. s) keep) (exprs_with (λ s. s)
    (expr_and (ident (at 94) (codes "v")) no_exprs)) → ⊥
told_wrong t base k = clash (codes "q") (sym base ∙ k.body_told.0)
  where
    clash : {A : Type 0} (x : A) → None ≡ Some x → ⊥
    clash x e = absurd cc

-- `func f() { const c = func() int { return n }() }`: its body is walked, and its constant isn't typed.
use Rattle.std.specs.Prelude.{◌≡◌, refl, ℕ, false, List, [], ◌∷◌, None, codes}
use Rattle.go_tree.specs.declared.exprs.Rest.TheVariants.{Plain}
use Rattle.go_tree.specs.declared.spans.Span.{Span}
use Rattle.go_tree.specs.Tree.{NameAt, Sig, TypeExpr, named, Expr, ident, call, func_lit, no_exprs, expr_and, Stmt, const_decl, return_, Stmts, no_stmts, stmt_and, ValueSpecs, no_specs, spec}
use Rattle.go_tree.specs.File.{Decl, func}
use Rattle.block_walk.specs.Literals.{specs_have_none}
use Rattle.checked_modules.specs.FunctionBodies.Walked.{AreWalkedDecls}

module _ (at : Span) where
  abbrev name : List ℕ → NameAt Span
  name n = record { span = at; name = n }

  abbrev whole : TypeExpr Span
  whole = named at None (name (codes "int"))

  abbrev gives_whole : Sig Span
  gives_whole = record { params = []; results = record { span = at; name = None; rest = false; of = whole } ∷ [] }

  abbrev returns : Stmts Span
  returns = stmt_and (return_ at (expr_and (ident at (codes "n")) no_exprs)) no_stmts

  abbrev constants : ValueSpecs Span
  constants =
      spec at (name (codes "c") ∷ []) None
      (expr_and (call at (func_lit at gives_whole at returns) no_exprs Plain) no_exprs) no_specs

  abbrev declared : Decl Span
  declared =
      func
      (record {
        span = at;
        receiver = None;
        name = name (codes "f");
        sig = record { params = []; results = [] };
        body_span = at;
        body = stmt_and (const_decl at false constants) no_stmts;
      })

  is_walked : AreWalkedDecls (declared ∷ [])
  is_walked = (((((((tt, tt), tt), tt), tt), tt), tt), tt)

  holds_one : specs_have_none constants ≡ false
  holds_one = refl

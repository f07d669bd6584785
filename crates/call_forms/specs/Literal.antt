-- The literal of a function, called in place, as it is written at a call (Go specification, Function literals; Function
-- types; Calls; Blank identifier).
use Rattle.std.specs.Prelude.{map, Some}
use Rattle.go_tree.specs.declared.exprs.Rest.TheVariants.{Plain}
use Rattle.go_tree.specs.declared.spans.Span.{Span}
use Rattle.go_tree.specs.Tree.{NameAt, Param, Sig, Expr, func_lit, call, Exprs}
use Rattle.go_tree.specs.File.{Func}
use Rattle.run_rules.specs.Calls.{param_name}
use Rattle.call_forms.specs.declared.qualifiers.There.{There}
use Rattle.call_forms.specs.Written.{written_type, written_param, written_stmts}

module _ (there : There) where
  -- the name of a parameter: its own, or `_`
  abbrev pub literal_name : Param Span → NameAt Span
  literal_name p = record { span = there.span; name = param_name p }

  -- a parameter with its own type
  abbrev pub literal_param : Param Span → Param Span
  literal_param p =
      record { span = there.span; name = Some (literal_name p); rest = p.rest; of = written_type there p.of }

  -- the signature: results stand as they are declared
  abbrev pub literal_sig : Sig Span → Sig Span
  literal_sig g =
      record { params = map literal_param g.params; results = map (written_param there) g.results }

  -- the literal of a function
  abbrev pub literal_func : Func Span → Expr Span
  literal_func f = func_lit there.span (literal_sig f.sig) there.span (written_stmts there f.body)

  -- the literal, called with these arguments
  abbrev pub literal_call : Func Span → Exprs Span → Expr Span
  literal_call f xs = call there.span (literal_func f) xs Plain

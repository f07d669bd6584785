-- A call of a function of a program as it stands, what the code is told of it, and the literal that it becomes where
-- all parameters stay bound (Go specification, Calls; Function literals).
use Rattle.std.specs.Prelude.{◌≡◌, ℕ, Bool, false, List, length, Some, None}
use Rattle.go_tree.specs.declared.exprs.Rest.{Rest}
use Rattle.go_tree.specs.declared.spans.Span.{Span}
use Rattle.go_tree.specs.Tree.{Expr, call, Exprs}
use Rattle.go_tree.specs.File.{Func}
use Rattle.pkg_graph.specs.Package.{Package}
use Rattle.param_choice.specs.Chosen.{has}
use Rattle.run_rules.specs.Programs.{param_types}
use Rattle.run_rules.specs.Places.{sig_seen, stmts_seen}
use Rattle.run_rules.specs.Calls.{Call, list_of, start, spread_call}
use Rattle.run_rules.specs.Naming.{Names}
use Rattle.run_rules.specs.FormTrees.{LiteralForm, as_expr, top}
use Rattle.run_rules.specs.Forms.{form_tree}
use Rattle.run_rules.specs.Respanned.{expr_with, exprs_with, func_with}
use Rattle.call_forms.specs.declared.qualifiers.There.{There}
use Rattle.call_forms.specs.Written.{told}
use Rattle.call_forms.specs.ToldNames.{AllTold}

-- `to` says where a node stands in the text; packages have these names at the call.
module _ {S : Type 0} (to : S → Span) (same : S → S → Bool) (ps : List (Package S)) (c : Call S) (names : Names)
    (kept : List Bool) where
  -- The code is told of this call of a function without a receiver, none of whose parameters is replaced: where the
  -- form stands, the function, the arguments, and which names of the function have those of packages before them.
  -- There is an argument for each parameter, unless the arguments are one call with several results.
  pub record IsToldCall (there : There) (f : Func Span) (args : Exprs Span) : Type 0 where
    pub free : c.callee.receiver ≡ None
    pub nothing_chosen : (i : ℕ) → has kept i ≡ false
    pub span : S
    pub called : Expr S
    pub given : Exprs S
    pub rest : Rest
    pub tree_is : c.tree ≡ call span called given rest
    pub counted : spread_call same ps c ≡ false → length (list_of given) ≡ length c.callee.sig.params
    pub typed :
        length (param_types ps c.home.number c.home.of c.home.source.tree c.callee) ≡ length c.callee.sig.params
    pub stands : to c.new ≡ there.span
    pub callee_is : f ≡ func_with to c.callee
    pub args_are : args ≡ exprs_with to given
    pub sig_told : AllTold to (told there) ps c.home c.at_package names (sig_seen (top ps c) c.callee.sig)
    pub body_told : AllTold to (told there) ps c.home c.at_package names (stmts_seen (start same ps c) c.callee.body)

  -- The literal that the call becomes stands in the text as this expression.
  pub record IsLiteralOf (e : Expr Span) : Type 0 where
    pub tree : Expr S
    pub is : form_tree same ps c names kept LiteralForm ≡ Some (as_expr tree)
    pub stands : expr_with to tree ≡ e

-- Whether a list of trees has an entry.
use Rattle.std.proofs.Common.{◌≡◌, ℕ, suc, Bool, false, not, nat_eq, List, [], ◌∷◌, length, map, sym, ap, ◌∙◌, arith}
use Rattle.std.proofs.lemmas.Bool.{ne_eqb}
use Rattle.go_tree.specs.declared.spans.Span.{Span}
use Rattle.go_tree.specs.declared.exprs.Expr.{Expr}
use Rattle.go_tree.specs.declared.stmts.Stmt.{Stmt}
use Rattle.go_tree.specs.Tree as pure
use Rattle.go_tree.specs.View.{expr_of, stmt_of}
use Rattle.go_tree.specs.Lists.{exprs_from, stmts_from}
use Rattle.go_print.specs.Parts.{has_exprs, has_stmts}

not_zero : (n : ℕ) → nat_eq (suc n) 0 ≡ false
not_zero n = ne_eqb (suc n) 0 (λ e. absurd (omega arith))

pub any_expr : (l : pure.Exprs Span) (xs : List Expr) (b : Bool) → l ≡ exprs_from (map expr_of xs) → b ≡ nat_eq (length xs) 0 → not b ≡ has_exprs l
any_expr l [] b e h = ap not h ∙ sym (ap has_exprs e)
any_expr l (x ∷ xs) b e h = ap not (h ∙ not_zero (length xs)) ∙ sym (ap has_exprs e)

pub any_stmt : (l : pure.Stmts Span) (xs : List Stmt) (b : Bool) → l ≡ stmts_from (map stmt_of xs) → b ≡ nat_eq (length xs) 0 → not b ≡ has_stmts l
any_stmt l [] b e h = ap not h ∙ sym (ap has_stmts e)
any_stmt l (x ∷ xs) b e h = ap not (h ∙ not_zero (length xs)) ∙ sym (ap has_stmts e)

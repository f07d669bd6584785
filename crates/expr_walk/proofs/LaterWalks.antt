-- Expressions that are walked, in later tables.
use Rattle.std.proofs.Common.{sym, subst, List}
use Rattle.go_tree.specs.declared.spans.Span.{Span}
use Rattle.go_tree.specs.Tree.{Expr, ExprOption, Exprs}
use Rattle.typed_names.specs.declared.scopes.Scope.{Scope}
use Rattle.typed_names.specs.Meanings.{Names}
use Rattle.typed_names.specs.Scopes.{env_at}
use Rattle.operand_modes.specs.declared.checker_tables.tables.Tables.{Tables}
use Rattle.operand_modes.specs.CheckerTables.Ready.{Keeps}
use Rattle.operand_modes.specs.OperandAnswers.Known.{Stands}
use Rattle.operand_modes.proofs.OperandAnswers.KeptLemmas.{env_kept}
use Rattle.expr_walk.specs.Walked.{AreAllWalkedAt, IsWalkedAt, IsWalkedOptionAt}

module _ (a b : Tables) (g : Keeps a b) (bs : List Names) (s : Scope) (known : Stands a bs s) where
  pub walked_later :
      (e : Expr Span) → IsWalkedAt (env_at a.env a.consts bs s) e → IsWalkedAt (env_at b.env b.consts bs s) e
  walked_later e h = subst (λ env. IsWalkedAt env e) (sym (env_kept a b g bs s known)) h

  pub option_later :
      (e : ExprOption Span) → IsWalkedOptionAt (env_at a.env a.consts bs s) e →
      IsWalkedOptionAt (env_at b.env b.consts bs s) e
  option_later e h = subst (λ env. IsWalkedOptionAt env e) (sym (env_kept a b g bs s known)) h

  pub all_later :
      (es : Exprs Span) → AreAllWalkedAt (env_at a.env a.consts bs s) es → AreAllWalkedAt (env_at b.env b.consts bs s) es
  all_later es h = subst (λ env. AreAllWalkedAt env es) (sym (env_kept a b g bs s known)) h

-- Steps one behind the others.
use Rattle.std.proofs.Common.{◌≡◌, ◌∙◌, refl, sym, List, [], ◌∷◌, ◌++◌, None}
use Rattle.pkg_graph.specs.Reads.{Source}
use Rattle.run_rules.specs.Sites.{MarkRef}
use Rattle.run_rules.specs.Run.{Standing, Logged, step_in, Limits, passed, Next, Run, ends, goes_on}
use Rattle.run_rules.specs.Inlining.{Reaches, begins, steps_on}
use Rattle.run_by_steps.specs.NextPrograms.Laws.{StepsReachOn, ReachedStepsRun}

no_more : (done : List Logged) → done ++ [] ≡ done
no_more [] = refl
no_more (x ∷ xs) = λ w. x ∷ no_more xs w

one_on : (done log : List Logged) (l : Logged) → done ++ (l ∷ log) ≡ (done ++ (l ∷ [])) ++ log
one_on [] log l = refl
one_on (x ∷ xs) log l = λ w. x ∷ one_on xs log l w

module _ (marks : List MarkRef) (m : Limits) (files : List Source) where
  reach_on : (done log : List Logged) (l : Logged) (st mid after : Standing) → Reaches marks m files done st log mid → (n : Next marks mid l after)
      → passed m files (done ++ log) l n.new after.texts ≡ None → Reaches marks m files done st (log ++ l ∷ []) after
  reach_on done _ l st _ after (begins _ _) n p =
      steps_on done [] l st after after n (sym (λ w. passed m files (no_more done w) l n.new after.texts) ∙ p) (begins (done ++ l ∷ []) after)
  reach_on done _ l st mid after (steps_on _ log k _ t _ o q rest) n p =
      steps_on done (log ++ l ∷ []) k st t after o q
      (reach_on (done ++ k ∷ []) log l t mid after rest n (sym (λ w. passed m files (one_on done log k w) l n.new after.texts) ∙ p))

  reached : (done log : List Logged) (st last : Standing) → Reaches marks m files done st log last → step_in marks last ≡ None → Run marks st log last
  reached done _ st _ (begins _ _) over = ends st over
  reached done _ st last (steps_on _ log k _ t _ o q rest) over = goes_on st t last k log o (reached (done ++ k ∷ []) log t last rest over)

pub reached_on : StepsReachOn
reached_on marks m files done log l st mid after way n p = reach_on marks m files done log l st mid after way n p

pub reached_runs : ReachedStepsRun
reached_runs marks m files done log st last way over = reached marks m files done log st last way over

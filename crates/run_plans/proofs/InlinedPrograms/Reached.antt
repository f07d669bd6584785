-- No run has more steps than its limit.
use Rattle.std.proofs.Common.{◌≡◌, sym, refl, subst, ℕ, suc, ◌≤◌, Bool, true, false, if◌then◌else◌, List, [], ◌∷◌, ◌++◌, length, Option, Some, None, append_assoc, length-append, arith}
use Rattle.std.specs.Prelude.{nat_lt}
use Rattle.std.proofs.lemmas.Bool.Decides.{nat_tests}
use Rattle.std.proofs.lemmas.List.{append-nil}
use Rattle.pkg_graph.specs.Reads.{Source}
use Rattle.programs.specs.declared.state.Program.{Program}
use Rattle.run_rules.specs.Inlining.{Reaches, begins, steps_on, standing_as_read}
use Rattle.run_rules.specs.Run.{Standing, Logged, Limit, Limits, Steps, TooLarge, over, the_limits}
use Rattle.run_rules.specs.Sites.{MarkRef}
use Rattle.run_by_steps.specs.declared.step_counts.counts.StepCounts.{StepCounts}
use Rattle.run_plans.specs.InlinedPrograms.Beginnings.{Beginning, marks_in, StandsAfter}

-- a count that passes no limit is within the first
within_first : (limit : Limit) (bound count : ℕ) (rest : Option TooLarge) → over limit bound count rest ≡ None → count ≤ bound
within_first limit bound count rest e = by (nat_lt bound count) refl e
  where
    by : (t : Bool) → nat_lt bound count ≡ t → (if t then Some (record { limit = limit; count = count; bound = bound }) else rest) ≡ None → count ≤ bound
    by true q f = absurd cc
    by false q f = grind (arith, nat_tests, q)

one_more : (done : List Logged) (l : Logged) (n : ℕ) → suc (length done) ≤ n → length (done ++ l ∷ []) ≤ n
one_more done l n h = omega (arith, h, length-append done (l ∷ []))

steps_within : (marks : List MarkRef) (m : Limits) (files : List Source) (done log : List Logged) (st last : Standing) → Reaches marks m files done st log last → length done ≤ m.steps → length (done ++ log) ≤ m.steps
steps_within marks m files done _ st _ (begins _ _) h = subst (λ (xs : List Logged). length xs ≤ m.steps) (sym (append-nil done)) h
steps_within marks m files done _ st last (steps_on _ log l _ mid _ n p rest) h =
    subst (λ (xs : List Logged). length xs ≤ m.steps) (append_assoc done (l ∷ []) log)
    (steps_within marks m files (done ++ l ∷ []) log mid last rest (one_more done l m.steps (within_first Steps m.steps (suc (length done)) _ p)))

-- so it is on its way
pub few_steps : (b : Beginning) (done : List Logged) (st : Standing) (p : Program) (c : StepCounts) → StandsAfter b done st p c → c.steps ≤ 65536
few_steps b done st p c h =
    let none : 0 ≤ 65536 = omega arith in
    let all : length done ≤ 65536 = steps_within (marks_in b) the_limits b.files [] done (standing_as_read b.packages b.texts) st h.on_the_way.reached.steps none in
    omega (arith, all, h.on_the_way.counted.steps)

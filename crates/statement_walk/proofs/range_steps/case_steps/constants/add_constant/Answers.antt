use Rattle.std.proofs.Common.{◌≡◌, ◌∷◌, [], IfOk, refl, subst, sym}
use Rattle.statement_walk.specs.RangeSteps.CaseSteps.Cases.{once_of}
use Rattle.statement_walk.proofs.RangeSteps.CaseSteps.CaseLemmas.{added_constant, new_constant}
use Rattle.statement_walk.proofs.range_steps.case_steps.constants.add_constant.Goals as goal

pub returns-in-Whole-clause-is_new : goal.returns-in-Whole-clause-is_new
returns-in-Whole-clause-is_new c =
    subst (λ v. IfOk c.add.result (λ b. b ≡ v))
    (sym (new_constant c.args.constant.now c.args.seen.now (subst (λ k. once_of k ≡ k ∷ []) (sym c.in-Whole.is) refl)))
    c.add.ensures.is_new

pub returns-in-Whole-clause-added : goal.returns-in-Whole-clause-added
returns-in-Whole-clause-added c =
    added_constant c.add.result c.args.constant.now c.args.seen.now c.add.new.self
    (subst (λ k. once_of k ≡ k ∷ []) (sym c.in-Whole.is) refl) c.add.ensures.added

pub returns-in-Bytes-clause-is_new : goal.returns-in-Bytes-clause-is_new
returns-in-Bytes-clause-is_new c =
    subst (λ v. IfOk c.add-in-Bytes.result (λ b. b ≡ v))
    (sym (new_constant c.args.constant.now c.args.seen.now (subst (λ k. once_of k ≡ k ∷ []) (sym c.in-Bytes.is) refl)))
    c.add-in-Bytes.ensures.is_new

pub returns-in-Bytes-clause-added : goal.returns-in-Bytes-clause-added
returns-in-Bytes-clause-added c =
    added_constant c.add-in-Bytes.result c.args.constant.now c.args.seen.now c.add-in-Bytes.new.self
    (subst (λ k. once_of k ≡ k ∷ []) (sym c.in-Bytes.is) refl) c.add-in-Bytes.ensures.added

use Rattle.std.proofs.Common.{◌≡◌, Bool, List, sym, ◌∙◌, subst, arith}
use Rattle.param_choice.specs.Chosen.{has}
use Rattle.param_choice.specs.Greatest.{IsGreatest}
use Rattle.param_choice.specs.Strikes.{IsOpen}
use Rattle.param_choice.proofs.Striking.{take-refill}
use Rattle.param_choice.proofs.Exists.{IsGreatest-exists}
use Rattle.param_choice.proofs.Union.{IsSafe-union}
use Rattle.param_choice.proofs.choice.choose.Goals as goal

pub returns-clause-greatest : goal.returns-clause-greatest
returns-clause-greatest c =
    let t = c.args.t.now in
    let constants = c.args.constants in
    let first : IsOpen t constants c.deref_mut.result.now = subst (IsOpen t constants) (sym c.deref_mut.ensures.value) c.in_ok-kept.ensures in
    let last = c.strike_out.new.kept in
    let same : c.new.result ≡ last = c.new.ensures ∙ take-refill c.in_ok-kept.kept.len last c.in_ok-kept.kept.items (omega (arith, c.deref_mut.ensures.len, c.strike_out.auto.kept)) in
    let P : List Bool → Type 0 = λ kept. IsGreatest t constants (has kept) in
    subst P (sym same) (c.strike_out.ensures constants first)

pub returns-clause-unions : goal.returns-clause-unions
returns-clause-unions c = IsSafe-union c.args.t.now

pub returns-in_err-kept-clause-unions : goal.returns-in_err-kept-clause-unions
returns-in_err-kept-clause-unions c = IsSafe-union c.args.t.now

pub returns-clause-exists : goal.returns-clause-exists
returns-clause-exists c = IsGreatest-exists c.args.t.now c.args.constants

pub returns-in_err-kept-clause-exists : goal.returns-in_err-kept-clause-exists
returns-in_err-kept-clause-exists c = IsGreatest-exists c.args.t.now c.args.constants

use Rattle.std.proofs.Common.{◌≡◌, None, OnOk, subst}
use Rattle.go_show.proofs.checked.check_packages.Goals as goal

pub returns-in-Ok : goal.returns-in-Ok
returns-in-Ok c = subst (λ o. OnOk c.refusal_of_first.result (o ≡ None)) c.in-Ok.ensures c.refusal_of_first.ensures

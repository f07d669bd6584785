use Rattle.std.proofs.Common.{◌∙◌, sym, ap}
use Rattle.std.specs.Prelude.{slice_get, bytes_eq}
use Rattle.run_plans.proofs.PlannedFiles.ChangedFiles.Both.{none_adds, same_adds, other_adds, none_there, one_there}
use Rattle.run_plans.proofs.planned_files.changed_files.changed.add_change.Goals as goal

pub returns-in_default : goal.returns-in_default
returns-in_default c = none_adds c.args.list.now.items c.args.last (slice_get c.args.files.now c.args.last.file) (none_there c.args.files.now c.args.last.file c.in_default.ensures.lookup.0)

pub returns-then-eq : goal.returns-then-eq
returns-then-eq c =
    same_adds c.args.list.now.items c.args.last c.in-Some.old.now (slice_get c.args.files.now c.args.last.file) (one_there c.args.files.now c.args.last.file c.in-Some.old.now c.in-Some.ensures.lookup.0 c.in-Some.ensures.lookup.1) (ap (λ l. bytes_eq l c.args.last.text) (sym c.items.ensures) ∙ ap (λ l. bytes_eq c.items.result.now l) (sym c.items-2.ensures) ∙ sym c.eq.ensures ∙ c.if-eq.true)

pub returns : goal.returns
returns c =
    c.in_ok-push.ensures.items ∙ other_adds c.args.list.now.items c.args.last c.in-Some.old.now (slice_get c.args.files.now c.args.last.file) (one_there c.args.files.now c.args.last.file c.in-Some.old.now c.in-Some.ensures.lookup.0 c.in-Some.ensures.lookup.1) (ap (λ l. bytes_eq l c.args.last.text) (sym c.items.ensures) ∙ ap (λ l. bytes_eq c.items.result.now l) (sym c.items-2.ensures) ∙ sym c.eq.ensures ∙ c.if-eq.false)

use Rattle.std.proofs.Common.{◌≡◌, ◌∙◌, map, sym}
use Rattle.std.specs.Prelude.{string_bytes}
use Rattle.fix_io.specs.Causes.{Rose}
use Rattle.fix_run.specs.declared.status.Status.TheVariants.{Done}
use Rattle.fix_run.proofs.TopLemmas.{words_complete, stopped, fixed, fixed_part, planned_complete, planned_done, planned_fault, planned_inlined, planned_out, reported}
use Rattle.fix_run.proofs.top.gofix.Goals as goal

pub returns-in-Err-clause-complete : goal.returns-in-Err-clause-complete
returns-in-Err-clause-complete g c = λ tree out. words_complete (map string_bytes c.args.words.now) (g.T.Tree.held c.args.tree.now) c.in-Err.status c.in-Err.ensures.stop

pub returns-in-Err-prepare-clause-refused : goal.returns-in-Err-prepare-clause-refused
returns-in-Err-prepare-clause-refused g c = λ r e.
    let asked = c.in-Ok.ensures.read in
    let stop = rw asked.only at c.in-Err-prepare.ensures.stop in
    let why = stopped (map string_bytes c.args.words.now) c.in-Err-prepare.status (Rose (g.T.Tree.faults c.args.tree.now) (g.T.Tree.faults c.prepare.new.tree)) (g.T.Tree.failed c.prepare.new.tree) (g.T.Tree.listed c.prepare.new.tree) (g.T.Tree.held c.args.tree.now) asked.accepted stop in
    why.refused_for r e

pub returns-in-Err-prepare-clause-complete : goal.returns-in-Err-prepare-clause-complete
returns-in-Err-prepare-clause-complete g c = λ tree out.
    let asked = c.in-Ok.ensures.read in
    let stop = rw asked.only at c.in-Err-prepare.ensures.stop in
    let why = stopped (map string_bytes c.args.words.now) c.in-Err-prepare.status (Rose (g.T.Tree.faults c.args.tree.now) (g.T.Tree.faults c.prepare.new.tree)) (g.T.Tree.failed c.prepare.new.tree) (g.T.Tree.listed c.prepare.new.tree) (g.T.Tree.held c.args.tree.now) asked.accepted stop in
    why.complete tree

pub returns-then-not-request-clause-done : goal.returns-then-not-request-clause-done
returns-then-not-request-clause-done g c =
    let asked = c.in-Ok.ensures.read in
    let plan = rw asked.only at c.in-Ok-prepare.ensures.plan in
    let told = reported c.plans_inline_modules.ensures (map string_bytes c.args.words.now) c.report_only.result _ _ c.in-Ok-prepare.plan _ _ asked.accepted (sym asked.fix ∙ c.if-not-request.true) plan c.prepare.ensures.same c.report_only.ensures.ends in
    told.done

pub returns-then-not-request-clause-report_fault : goal.returns-then-not-request-clause-report_fault
returns-then-not-request-clause-report_fault g c =
    let asked = c.in-Ok.ensures.read in
    let plan = rw asked.only at c.in-Ok-prepare.ensures.plan in
    let told = reported c.plans_inline_modules.ensures (map string_bytes c.args.words.now) c.report_only.result _ _ c.in-Ok-prepare.plan _ _ asked.accepted (sym asked.fix ∙ c.if-not-request.true) plan c.prepare.ensures.same c.report_only.ensures.ends in
    told.cut

pub returns-then-not-request-clause-report : goal.returns-then-not-request-clause-report
returns-then-not-request-clause-report g c =
    let asked = c.in-Ok.ensures.read in
    let plan = rw asked.only at c.in-Ok-prepare.ensures.plan in
    let told = reported c.plans_inline_modules.ensures (map string_bytes c.args.words.now) c.report_only.result _ _ c.in-Ok-prepare.plan _ _ asked.accepted (sym asked.fix ∙ c.if-not-request.true) plan c.prepare.ensures.same c.report_only.ensures.ends in
    told.out

pub returns-then-not-request-clause-complete : goal.returns-then-not-request-clause-complete
returns-then-not-request-clause-complete g c = λ tree out.
    let asked = c.in-Ok.ensures.read in
    let plan = rw asked.only at c.in-Ok-prepare.ensures.plan in
    let told = reported c.plans_inline_modules.ensures (map string_bytes c.args.words.now) c.report_only.result _ _ c.in-Ok-prepare.plan _ _ asked.accepted (sym asked.fix ∙ c.if-not-request.true) plan c.prepare.ensures.same c.report_only.ensures.ends in
    told.complete (λ e. out (c.report_only.ensures.cause e))

pub returns-in-Err-apply-clause-write_fault : goal.returns-in-Err-apply-clause-write_fault
returns-in-Err-apply-clause-write_fault g c = λ i e.
    let asked = c.in-Ok.ensures.read in
    let plan = rw asked.only at c.in-Ok-prepare.ensures.plan in
    let same : c.in-Err-apply.i ≡ i = cc in
    let err = rw c.deref.ensures.value at c.in-Err-apply.ensures.err in
    let told = rw c.prepare.ensures.same at err in
    planned_fault c.plans_inline_modules.ensures (map string_bytes c.args.words.now) _ _ c.in-Ok-prepare.plan i told.0 asked.accepted (sym asked.fix ∙ c.if-not-request.false) plan told.1 (sym same ∙ told.2) told.4

pub returns-in-Ok-write_all-clause-done : goal.returns-in-Ok-write_all-clause-done
returns-in-Ok-write_all-clause-done g c =
    let asked = c.in-Ok.ensures.read in
    let plan = rw asked.only at c.in-Ok-prepare.ensures.plan in
    let all = rw c.deref.ensures.value at c.in-Ok-apply.ensures.ok in
    let out = rw c.items.ensures at c.in-Ok-write_all.ensures.ok in
    let words = map string_bytes c.args.words.now in
    planned_done words _ _ Done _ _ (fixed c.plans_inline_modules.ensures words _ _ c.in-Ok-prepare.plan _ _ asked.accepted (sym asked.fix ∙ c.if-not-request.false) plan (rw c.prepare.ensures.same at all) out)

pub returns-in-Ok-write_all-clause-report : goal.returns-in-Ok-write_all-clause-report
returns-in-Ok-write_all-clause-report g c =
    let asked = c.in-Ok.ensures.read in
    let plan = rw asked.only at c.in-Ok-prepare.ensures.plan in
    let all = rw c.deref.ensures.value at c.in-Ok-apply.ensures.ok in
    let out = rw c.items.ensures at c.in-Ok-write_all.ensures.ok in
    let words = map string_bytes c.args.words.now in
    planned_out words _ _ Done _ _ (fixed c.plans_inline_modules.ensures words _ _ c.in-Ok-prepare.plan _ _ asked.accepted (sym asked.fix ∙ c.if-not-request.false) plan (rw c.prepare.ensures.same at all) out)

pub returns-in-Ok-write_all-clause-headline : goal.returns-in-Ok-write_all-clause-headline
returns-in-Ok-write_all-clause-headline g c = λ e fix.
    let asked = c.in-Ok.ensures.read in
    let plan = rw asked.only at c.in-Ok-prepare.ensures.plan in
    let all = rw c.deref.ensures.value at c.in-Ok-apply.ensures.ok in
    let out = rw c.items.ensures at c.in-Ok-write_all.ensures.ok in
    let words = map string_bytes c.args.words.now in
    planned_inlined words _ _ Done _ _ fix (fixed c.plans_inline_modules.ensures words _ _ c.in-Ok-prepare.plan _ _ asked.accepted fix plan (rw c.prepare.ensures.same at all) out)

pub returns-in-Ok-write_all-clause-complete : goal.returns-in-Ok-write_all-clause-complete
returns-in-Ok-write_all-clause-complete g c = λ tree_quiet out_quiet.
    let asked = c.in-Ok.ensures.read in
    let plan = rw asked.only at c.in-Ok-prepare.ensures.plan in
    let all = rw c.deref.ensures.value at c.in-Ok-apply.ensures.ok in
    let out = rw c.items.ensures at c.in-Ok-write_all.ensures.ok in
    let words = map string_bytes c.args.words.now in
    planned_complete words _ _ Done _ _ (fixed c.plans_inline_modules.ensures words _ _ c.in-Ok-prepare.plan _ _ asked.accepted (sym asked.fix ∙ c.if-not-request.false) plan (rw c.prepare.ensures.same at all) out)

pub returns-clause-report_fault : goal.returns-clause-report_fault
returns-clause-report_fault g c = λ e.
    let asked = c.in-Ok.ensures.read in
    let plan = rw asked.only at c.in-Ok-prepare.ensures.plan in
    let all = rw c.deref.ensures.value at c.in-Ok-apply.ensures.ok in
    let part = rw c.items.ensures at c.in-Err-write_all.ensures.err in
    fixed_part c.plans_inline_modules.ensures (map string_bytes c.args.words.now) _ _ c.in-Ok-prepare.plan _ _ asked.accepted (sym asked.fix ∙ c.if-not-request.false) plan (rw c.prepare.ensures.same at all) part

use Rattle.std.proofs.Common.{[], List, arith, not, Bool, true, false, ◌≡◌, ◌∙◌, refl, sym, subst}
use Rattle.go_tree.specs.declared.spans.Span.{Span}
use Rattle.stepped_programs.specs.RunReports.Kept.{uses_once}
use Rattle.stepped_programs.specs.RunReports.Rows.{AddsRow, IsKeptRow}
use Rattle.stepped_programs.proofs.RunReports.Once.{once_new, once_old, once_all}
use Rattle.stepped_programs.proofs.RunReports.Turns.{Leads, turns_begin}
use Rattle.stepped_programs.proofs.run_reports.kept.add_kept.Goals as goal

not_true : (b : Bool) → true ≡ not b → b ≡ false
not_true true h = cc
not_true false h = refl

not_false : (b : Bool) → false ≡ not b → b ≡ true
not_false true h = refl
not_false false h = cc

pub loop-found-init : goal.loop-found-init
loop-found-init c =
    let f = c.args.file.now in
    subst (λ (spans : List Span). Leads (AddsRow (IsKeptRow f.packages.now f.files.now f.path.now f.origins.now)) (uses_once [] c.args.kept.now) c.args.rows.now.items (uses_once spans c.args.kept.now) c.args.rows.now.items)
    (sym c.new-spans.ensures)
    (turns_begin (AddsRow (IsKeptRow f.packages.now f.files.now f.path.now f.origins.now)) (uses_once [] c.args.kept.now) c.args.rows.now.items)

pub loop-found-preserved-then-not-is_new : goal.loop-found-preserved-then-not-is_new
loop-found-preserved-then-not-is_new c =
    let f = c.args.file.now in
    let told : c.in_ok-is_new.is_new ≡ false = grind (arith, c.if-not-is_new.true) in
    once_old (AddsRow (IsKeptRow f.packages.now f.files.now f.path.now f.origins.now)) c.args.kept.now c.loop-found.found-index c.found-item.result c.loop-found.spans
    c.add.new.self c.args.rows.now.items c.loop-found.rows.items c.loop-found.rows.items c.loop-found-test.true c.found-item.is c.in_ok-is_new.ensures.added c.loop-found.invariant
    (not_false _ (sym told ∙ c.in_ok-is_new.ensures.new))

pub loop-found-preserved : goal.loop-found-preserved
loop-found-preserved c =
    let f = c.args.file.now in
    let new : c.in_ok-is_new.is_new ≡ true = grind (arith, c.if-not-is_new.false) in
    once_new (AddsRow (IsKeptRow f.packages.now f.files.now f.path.now f.origins.now)) c.args.kept.now c.loop-found.found-index c.found-item.result c.loop-found.spans
    c.add.new.self c.args.rows.now.items c.loop-found.rows.items c.push.new.self.items c.loop-found-test.true c.found-item.is c.in_ok-is_new.ensures.added c.loop-found.invariant
    (not_true _ (sym new ∙ c.in_ok-is_new.ensures.new))
    (record { row = c.in_ok-row.row; tells = c.in_ok-row.ensures; added = c.in_ok-push.ensures.items })

pub returns : goal.returns
returns c =
    let f = c.args.file.now in
    once_all (AddsRow (IsKeptRow f.packages.now f.files.now f.path.now f.origins.now)) c.args.kept.now c.loop-found.found-index c.loop-found.spans c.args.rows.now.items
    c.loop-found.rows.items (omega (arith, c.loop-found-test.false)) c.loop-found.invariant

use Rattle.std.proofs.Common.{◌∙◌, ◌+◌, ap, drop, subst, sym}
use Rattle.typed_names.proofs.TypeExprs.NewNames.{drop_all, drop_item}
use Rattle.used_names.specs.Uses.{and_name}
use Rattle.header_order.specs.RefusedImports.First.{ImportsPassed}
use Rattle.header_order.proofs.RefusedImports.Firsts.{passed_all, passed_none, passed_one, passed_refused}
use Rattle.header_order.proofs.refused_imports.first.first_refused_import.Goals as goal

pub returns-then-is_refused : goal.returns-then-is_refused
returns-then-is_refused c =
    passed_refused c.args.blocks.now c.args.home c.args.used.now c.args.imports.now (drop (c.loop-import.import-index + 1) c.args.imports.now) c.import-item.result c.loop-import.before
    (subst (λ rest. ImportsPassed c.args.blocks.now c.args.home c.args.used.now c.args.imports.now rest c.loop-import.before)
    (drop_item c.args.imports.now c.loop-import.import-index c.import-item.result c.loop-import-test.true c.import-item.is) c.loop-import.invariant)
    (sym c.is_refused.ensures ∙ c.if-is_refused.true)

pub loop-import-preserved : goal.loop-import-preserved
loop-import-preserved c =
    passed_one c.args.blocks.now c.args.home c.args.used.now c.args.imports.now (drop (c.loop-import.import-index + 1) c.args.imports.now) c.import-item.result c.loop-import.before c.add.new.self
    (subst (λ rest. ImportsPassed c.args.blocks.now c.args.home c.args.used.now c.args.imports.now rest c.loop-import.before)
    (drop_item c.args.imports.now c.loop-import.import-index c.import-item.result c.loop-import-test.true c.import-item.is) c.loop-import.invariant)
    (sym c.is_refused.ensures ∙ c.if-is_refused.false)
    (c.in_ok-add.ensures.added ∙ ap (λ m. and_name m c.loop-import.before) c.in_ok-copy.ensures)

pub returns : goal.returns
returns c =
    passed_all c.args.blocks.now c.args.home c.args.used.now c.args.imports.now c.loop-import.before
    (subst (λ rest. ImportsPassed c.args.blocks.now c.args.home c.args.used.now c.args.imports.now rest c.loop-import.before)
    (drop_all c.args.imports.now c.loop-import.import-index c.loop-import-test.false) c.loop-import.invariant)

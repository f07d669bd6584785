use Rattle.std.proofs.Common.{◌∙◌, ap, map, sym}
use Rattle.module_marks.specs.Views.{texts_of}
use Rattle.pkg_graph.specs.Views.{package_view}
use Rattle.read_modules.specs.Modules.{texts_in}
use Rattle.run_plans.specs.PlannedModules.Modules.{is_formed}
use Rattle.std.proofs.lemmas.Result.{err_from_is_err_and}
use Rattle.run_plans.proofs.PlannedModules.PlansRead.{refused_formless}
use Rattle.run_plans.proofs.planned_modules.modules.form_fault.Goals as goal

pub returns-then-not-is_formed-clause-refused : goal.returns-then-not-is_formed-clause-refused
returns-then-not-is_formed-clause-refused c =
    λ only.
    refused_formless c.args.files.now c.args.read.now c.requires.read only c.modules_are_read.ensures c.not_built.result c.is_formed.result c.not_built.ensures
    (c.is_formed.ensures ∙ ap (λ fs. is_formed (map package_view c.packages.result.now) (texts_of fs)) c.deref.ensures.value
    ∙ ap (λ ps. is_formed (map package_view ps) (texts_in c.args.read.now)) c.packages.ensures) c.if-not-is_formed.true

pub returns-clause-formed : goal.returns-clause-formed
returns-clause-formed c =
    sym (c.is_formed.ensures ∙ ap (λ fs. is_formed (map package_view c.packages.result.now) (texts_of fs)) c.deref.ensures.value
    ∙ ap (λ ps. is_formed (map package_view ps) (texts_in c.args.read.now)) c.packages.ensures) ∙ c.if-not-is_formed.false

pub returns-in_err-typing_fault-clause-refused : goal.returns-in_err-typing_fault-clause-refused
returns-in_err-typing_fault-clause-refused c =
    let p = err_from_is_err_and c.from_residual.result c.from_residual.ensures.1 in
    rw (p.1, p.2) (λ only. tt)

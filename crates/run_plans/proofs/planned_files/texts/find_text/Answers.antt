use Rattle.std.proofs.Common.{◌∙◌, sym, Some, None}
use Rattle.run_plans.specs.PlannedFiles.Referred.{referred}
use Rattle.run_plans.proofs.PlannedFiles.Lookups.{text_found}
use Rattle.run_plans.proofs.planned_files.texts.find_text.Goals as goal

pub returns-in-Some : goal.returns-in-Some
returns-in-Some c = λ paths finds.
    c.numbered_text.ensures
    ∙ sym (text_found c.args.places.now paths (referred c.args.texts.now) c.args.path.now (Some c.in-Some.place) finds (sym c.in-Some.is ∙ c.find.ensures))

pub returns-in-None : goal.returns-in-None
returns-in-None c = λ paths finds.
    sym (text_found c.args.places.now paths (referred c.args.texts.now) c.args.path.now None finds (sym c.in-None.is ∙ c.find.ensures))

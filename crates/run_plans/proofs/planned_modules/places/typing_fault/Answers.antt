use Rattle.std.proofs.Common.{◌∙◌, ◌<◌, ◌^◌, sym, ap, subst, List, length}
use Rattle.checked_modules.specs.Declarations.{refusal_of}
use Rattle.pkg_graph.specs.declared.packages.Package.{Package}
use Rattle.run_plans.proofs.PlannedModules.TypingFaults.{are_ordered, are_spelled, are_walked, typed_none, typed_some}
use Rattle.run_plans.proofs.planned_modules.places.typing_fault.Goals as goal

pub refused_place-requires-clause-few : goal.refused_place-requires-clause-few
refused_place-requires-clause-few c =
    subst (λ (ps : List Package). length ps < 2 ^ 32) (sym c.packages-packages.ensures)
    (c.modules_may_be_loaded.ensures c.args.files.now c.args.read.now c.requires.read c.requires.count).0

pub refused_place-requires-clause-order : goal.refused_place-requires-clause-order
refused_place-requires-clause-order c =
    are_ordered c.args.files.now c.args.read.now c.requires.read c.packages-packages.result.now c.order.result.now c.packages-packages.ensures c.order.ensures

pub refused_place-requires-clause-spelled : goal.refused_place-requires-clause-spelled
refused_place-requires-clause-spelled c =
    are_spelled c.read_values_are_spelled.ensures.packages c.args.files.now c.args.read.now c.requires.read c.packages-packages.result.now c.packages-packages.ensures

pub refused_place-requires-clause-walked : goal.refused_place-requires-clause-walked
refused_place-requires-clause-walked c =
    are_walked c.read_bodies_are_walked.ensures.packages c.args.files.now c.args.read.now c.requires.read c.packages-packages.result.now c.packages-packages.ensures

pub returns-in_default : goal.returns-in_default
returns-in_default c =
    typed_none c.args.read.now c.packages-packages.result.now c.packages-packages.ensures (ap refusal_of (sym c.in_default.is) ∙ c.in_ok-refused.ensures)

pub returns-in-Some-tell_place : goal.returns-in-Some-tell_place
returns-in-Some-tell_place c =
    typed_some c.args.files.now c.args.read.now c.packages-packages.result.now c.in-Some.place c.in-Some-tell_place.refusal c.packages-packages.ensures (ap refusal_of (sym c.in-Some.is) ∙ c.in_ok-refused.ensures)
    c.in-Some-tell_place.ensures

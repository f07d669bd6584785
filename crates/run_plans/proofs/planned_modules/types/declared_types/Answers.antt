use Rattle.std.proofs.lemmas.Result.{IfOk-weaker}
use Rattle.package_blocks.specs.Imports.{views}
use Rattle.run_plans.proofs.planned_modules.types.declared_types.Goals as goal

pub returns : goal.returns
returns c =
    IfOk-weaker c.literal_types.result _ _ (λ types told. told (views c.args.packages.now) c.in_ok-declarations.ensures)
    c.literal_types.ensures

use Rattle.constant_modules.proofs.KeyedImports.StepKept.{keep_uses}
use Rattle.constant_modules.proofs.keyed_imports.laws.steps_keep_uses.Goals as goal

pub returns : goal.returns
returns c = λ marks st l after n ready typed h few write none. keep_uses marks st l after n ready typed h few write none

use Rattle.constant_steps.proofs.StepLaws.KnownConstants.{Known}
use Rattle.constant_modules.proofs.ConstantsOfGroups.TypedHeaders.{known, each_valued, valued_means}
use Rattle.constant_modules.proofs.constants_of_groups.laws.typed_constants_are_known.Goals as goal

pub returns-clause-valued : goal.returns-clause-valued
returns-clause-valued c = λ ps h x e d typed. each_valued ps h x e d typed

pub returns-clause-known : goal.returns-clause-known
returns-clause-known c = λ ps h x e d typed r m names meant spelled first number.
    let k : Known r = known ps h x e d typed r m names meant in (valued_means ps h x e d typed r m names meant spelled first number, (k.type, k.value, k.is))

use Rattle.package_blocks.specs.Imports.{views}
use Rattle.checked_modules.proofs.WalkedLemmas.{printed_walked}
use Rattle.checked_modules.proofs.modules.first_refused.Goals as goal

pub refused_place-requires-clause-walked : goal.refused_place-requires-clause-walked
refused_place-requires-clause-walked c = printed_walked (views c.args.packages.now) c.requires.prints

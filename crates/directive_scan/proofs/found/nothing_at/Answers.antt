use Rattle.std.proofs.Common.{refl}
use Rattle.directive_scan.proofs.found.nothing_at.Goals as goal

pub returns : goal.returns
returns c = refl

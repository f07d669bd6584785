use Rattle.std.proofs.Common.{◌≡◌, drop}
use Rattle.go_scan.specs.Unsupported.{package_start}
use Rattle.go_scan.proofs.support.package_start.Given as goal

abbrev pub invariant-loop-token : goal.invariant-loop-token
invariant-loop-token l = package_start (drop l.token-index l.tokens) ≡ package_start l.tokens

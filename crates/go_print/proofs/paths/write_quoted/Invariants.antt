use Rattle.std.proofs.Common.{◌≡◌, ◌++◌, drop}
use Rattle.go_layout.specs.FileLayout.{quoted_bytes}
use Rattle.go_print.proofs.paths.write_quoted.Given as goal

abbrev pub invariant-loop-byte : goal.invariant-loop-byte
invariant-loop-byte l = l.out.items ++ quoted_bytes (drop l.byte-index l.path) ≡ l.initial.out.items ++ quoted_bytes l.path

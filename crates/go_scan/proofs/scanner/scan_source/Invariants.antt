use Rattle.std.proofs.Common.{length}
use denote.Text.{Utf8}
use denote.Shadow.{shadow}
use Rattle.go_scan.proofs.ScanLemmas.{ReadTo}
use Rattle.go_scan.proofs.scanner.scan_source.Given as goal

abbrev pub invariant-loop-rest : goal.invariant-loop-rest
invariant-loop-rest l = shadow (Utf8 l.rest) × ReadTo l.source l.lists.due l.lists.tokens.items l.lists.terminals.items l.lists.comments.items l.rest

abbrev pub decreases-loop-rest : goal.decreases-loop-rest
decreases-loop-rest l = length l.rest

use Rattle.go_scan.proofs.Refusals.{answer_has_none}
use Rattle.go_scan.proofs.scanner.scan.Goals as goal

pub returns-clause-none : goal.returns-clause-none
returns-clause-none c = answer_has_none c.args.text.now c.scan_text.result c.scan_text.ensures.refused

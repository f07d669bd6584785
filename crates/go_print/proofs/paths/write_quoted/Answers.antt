use Rattle.go_print.proofs.FileParts.{quoted_step, quoted_done}
use Rattle.go_print.proofs.paths.write_quoted.Goals as goal

pub loop-byte-preserved : goal.loop-byte-preserved
loop-byte-preserved c = quoted_step _ _ _ _ _ c.loop-byte-test.true c.loop-byte.invariant c.in_ok-write_byte.ensures

pub returns : goal.returns
returns c = quoted_done _ _ _ _ c.loop-byte-test.false c.loop-byte.invariant

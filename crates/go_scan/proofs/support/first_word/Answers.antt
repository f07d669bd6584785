use Rattle.go_scan.specs.Unsupported.{first_word}
use Rattle.go_scan.proofs.UnsupportedLemmas.{word_step}
use Rattle.go_scan.proofs.support.first_word.Goals as goal

pub loop-i-preserved : goal.loop-i-preserved
loop-i-preserved c =
    word_step c.args.tokens.now c.args.terminals.now c.loop-i.first c.first_with-first.result (first_word c.args.known c.args.tokens.now) c.loop-i.i c.index-tokens-i.result _
    c.requires c.loop-i-test.true c.index-tokens-i.is c.first_with-first.ensures c.loop-i.invariant

use Rattle.std.proofs.Common.{subst}
use Rattle.jump_rules.specs.UsedLocals.Used.{used_of}
use Rattle.block_walk.specs.Answers.{GivesLeft}
use Rattle.block_walk.proofs.EndLemmas.{close_fails, close_passes, close_refused}
use Rattle.block_walk.proofs.ends.close.Goals as goal

pub returns-in_ok-end-in-Ok : goal.returns-in_ok-end-in-Ok
returns-in_ok-end-in-Ok c =
    λ whole total h.
    let p = used_of c.args.used.now in
    let xs = c.args.pending.now in
    close_passes whole total p (used_of c.end.new.used) xs c.in-Ok.ends
    (subst (GivesLeft whole total p xs) c.in-Ok.is h) c.all_pass.result c.all_pass.ensures c.if-all_pass.true
    c.in_ok-end-in-Ok.ensures

pub returns-else-all_pass : goal.returns-else-all_pass
returns-else-all_pass c =
    λ whole total h.
    let p = used_of c.args.used.now in
    let xs = c.args.pending.now in
    close_fails whole total p p xs c.in-Ok.ends (subst (GivesLeft whole total p xs) c.in-Ok.is h) c.all_pass.result
    c.all_pass.ensures c.if-all_pass.false

pub returns-in-Err : goal.returns-in-Err
returns-in-Err c =
    λ whole total h.
    let p = used_of c.args.used.now in
    let xs = c.args.pending.now in
    close_refused whole total p p xs c.in-Err.refusal (subst (GivesLeft whole total p xs) c.in-Err.is h)

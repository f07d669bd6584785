use Rattle.declared_types.specs.Steps.{StillFound}
use Rattle.declared_types.proofs.Passed.{found_end, still_on}
use Rattle.declared_types.proofs.aliases.find_aliases.Goals as goal

pub returns-then-not-branch-clause-found : goal.returns-then-not-branch-clause-found
returns-then-not-branch-clause-found c =
    λ ps hs cs are same.
    found_end ps hs cs c.args.files.now c.args.headers.now c.args.types.now c.loop.types c.set_missing.new.types
    c.args.blocks.now c.loop.blocks c.set_missing.new.blocks are same c.loop.invariant c.set_missing.ensures.grown
    (c.in_ok-set_missing.ensures.unset c.if-not-branch.true) (c.in_ok-set_missing.ensures.closed c.if-not-branch.true)

pub loop-preserved : goal.loop-preserved
loop-preserved c =
    let step : StillFound c.args.files.now c.args.headers.now c.loop.types c.loop.blocks c.set_missing.new.types
    c.set_missing.new.blocks =
    record {
      grown = c.set_missing.ensures.grown;
      values = c.set_missing.ensures.values;
      known = c.set_missing.ensures.known;
      count = c.set_missing.ensures.count;
      found = c.set_missing.ensures.found;
    } in
    still_on c.args.files.now c.args.headers.now c.args.types.now c.loop.types c.set_missing.new.types c.args.blocks.now
    c.loop.blocks c.set_missing.new.blocks c.loop.invariant step

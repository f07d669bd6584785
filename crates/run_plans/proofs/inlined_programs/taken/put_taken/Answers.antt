use Rattle.std.proofs.Common.{subst, sym, ap}
use Rattle.file_tables.specs.Blocks.{HasOwnTable}
use Rattle.file_tables.specs.declared.blocks.Block.{Block}
use Rattle.stepped_programs.specs.Steps.{MayBePut}
use Rattle.stepped_programs.specs.declared.place.StepPlace.{StepPlace}
use Rattle.run_plans.proofs.InlinedPrograms.Puts.{has_put}
use Rattle.run_plans.proofs.inlined_programs.taken.put_taken.Goals as goal

pub put_step-requires-clause-may : goal.put_step-requires-clause-may
put_step-requires-clause-may c = subst (λ (z : StepPlace). MayBePut c.args.program.now z c.args.file) (sym c.place_of-at.ensures) c.requires.put

pub put_step-requires-clause-table : goal.put_step-requires-clause-table
put_step-requires-clause-table c = subst HasOwnTable (sym c.own_block-block.ensures) c.requires.table

pub returns-clause-put : goal.returns-clause-put
returns-clause-put c =
    let a = c.args in
    has_put a.program.now c.put_step.new.program a.counts.now c.add.new.self a.first a.files.now a.log a.file c.in_ok-row.row c.deref.result.now c.place_of-at.result c.is_some.result
    c.in_ok-origins.origins.items c.own_block-block.result.names c.deref.ensures.value c.place_of-at.ensures c.is_some.ensures (ap (λ (b : Block). b.names) c.own_block-block.ensures) c.in_ok-row.ensures c.in_ok-origins.ensures
    c.in_ok-block.ensures.put (record { steps = c.in_ok-add.ensures.steps; origins = c.in_ok-add.ensures.origins })

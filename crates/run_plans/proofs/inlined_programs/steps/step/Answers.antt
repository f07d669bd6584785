use Rattle.std.proofs.Common.{◌∙◌, ap, subst, Option}
use Rattle.programs.specs.declared.state.Program.{Program}
use Rattle.stepped_programs.specs.FirstUses.First.{IsFirstUse}
use Rattle.stepped_programs.specs.declared.first_uses.first.FirstUse.{FirstUse}
use Rattle.run_plans.specs.InlinedPrograms.Beginnings.{marks_in}
use Rattle.run_plans.proofs.InlinedPrograms.HeldBlocks.{held_after}
use Rattle.run_plans.proofs.InlinedPrograms.NextSteps.{is_hindered}
use Rattle.run_plans.proofs.inlined_programs.steps.step.Goals as goal

pub first_use-requires-clause-open : goal.first_use-requires-clause-open
first_use-requires-clause-open c =
    let r = c.requires.run in
    c.first_uses_keep_programs.ensures.open r.beginning.files (marks_in r.beginning) r.standing c.args.program.now r.stands.on_the_way.kept.is_program

pub returns-in_default-found-clause-taken : goal.returns-in_default-found-clause-taken
returns-in_default-found-clause-taken c = λ b done st h.
    c.taken_steps_come_next.ensures.end b done st c.args.program.now c.first_use.new.program c.args.counts.now h
    (subst (λ (r : Option FirstUse). IsFirstUse c.args.program.now c.first_use.new.program r) c.in_default-found.is c.in-Ok.ensures.first)

pub returns-in_default-found-clause-bad : goal.returns-in_default-found-clause-bad
returns-in_default-found-clause-bad c = ap (λ (p : Program). p.bad) c.in-Ok.ensures.first.changes.rest

pub take_step-requires-clause-may : goal.take_step-requires-clause-may
take_step-requires-clause-may c =
    let r = c.requires.run in
    c.steps_may_be_taken.ensures r.beginning r.done r.standing c.args.program.now c.first_use.new.program c.args.counts.now c.in-Some.first r.stands
    (subst (λ (z : Option FirstUse). IsFirstUse c.args.program.now c.first_use.new.program z) c.in-Some.is c.in-Ok.ensures.first)

pub returns-in-Ok-take_step-clause-taken : goal.returns-in-Ok-take_step-clause-taken
returns-in-Ok-take_step-clause-taken c = λ b done st h.
    c.taken_steps_come_next.ensures.next b done st c.args.program.now c.first_use.new.program c.take_step.new.program c.args.counts.now c.take_step.new.counts c.in-Some.first c.args.files.now
    c.in-Ok-take_step.row h (subst (λ (r : Option FirstUse). IsFirstUse c.args.program.now c.first_use.new.program r) c.in-Some.is c.in-Ok.ensures.first) c.in-Ok-take_step.ensures.taken

pub returns-in-Ok-take_step-clause-bad : goal.returns-in-Ok-take_step-clause-bad
returns-in-Ok-take_step-clause-bad c = c.in-Ok-take_step.ensures.taken.put.put.bad_stay ∙ ap (λ (p : Program). p.bad) c.in-Ok.ensures.first.changes.rest

pub returns-in-Err-clause-refused : goal.returns-in-Err-clause-refused
returns-in-Err-clause-refused c = λ b done st h.
    is_hindered c.taken_steps_come_next.ensures.limit b done st c.args.program.now c.first_use.new.program c.take_step.new.program c.args.counts.now c.take_step.new.counts c.in-Some.first c.in-Err.fault
    h (subst (λ (r : Option FirstUse). IsFirstUse c.args.program.now c.first_use.new.program r) c.in-Some.is c.in-Ok.ensures.first) c.in-Err.ensures.refused

pub take_step-requires-clause-table : goal.take_step-requires-clause-table
take_step-requires-clause-table c = c.in-Ok.ensures.block c.in-Some.first c.in-Some.is

pub returns-in-Ok-take_step-clause-held : goal.returns-in-Ok-take_step-clause-held
returns-in-Ok-take_step-clause-held c =
    let r = c.requires.run in
    held_after c.take_step.new.program.packages.items c.in-Some.first c.take_step.new.held c.in-Ok-take_step.ensures.held (c.in-Ok.ensures.block c.in-Some.first c.in-Some.is)
    (c.taken_steps_come_next.ensures.blocks r.beginning r.done r.standing c.args.program.now c.first_use.new.program c.take_step.new.program c.args.counts.now c.take_step.new.counts c.in-Some.first
    c.args.files.now c.in-Ok-take_step.row r.stands (subst (λ (z : Option FirstUse). IsFirstUse c.args.program.now c.first_use.new.program z) c.in-Some.is c.in-Ok.ensures.first)
    c.in-Ok-take_step.ensures.taken)

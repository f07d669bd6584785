use Rattle.std.proofs.Common.{◌<◌, sym, ap, subst, length, arith}
use Rattle.programs.specs.declared.state.Program.{Program}
use Rattle.stepped_programs.specs.HeldBlocks.{IsHeldIn}
use Rattle.stepped_programs.proofs.FirstUses.Flagged.{number_read, open_next}
use Rattle.stepped_programs.proofs.FirstUses.Searched.{none_yet, none_there, found_there, all_searched}
use Rattle.stepped_programs.proofs.first_uses.first.first_use.Goals as goal

pub loop-at-init : goal.loop-at-init
loop-at-init c = record { so_far = none_yet c.args.program.now; held = c.requires.held }

pub index-requires : goal.index-requires
index-requires c =
    omega (arith, c.loop-at-test.true, c.len-at-end.ensures, ap (λ (p : Program). length p.order.items) c.loop-at.invariant.so_far.changes.rest)

pub search_program-requires-clause-open : goal.search_program-requires-clause-open
search_program-requires-clause-open c =
    let h : c.loop-at.at < length c.args.program.now.order.items = omega (arith, c.loop-at-test.true, c.len-at-end.ensures) in
    open_next c.args.program.now c.loop-at.program c.loop-at.at c.index.result.now c.loop-at.invariant.so_far.changes c.requires.open
    (number_read c.args.program.now c.loop-at.program c.loop-at.at c.index.result.now c.loop-at.invariant.so_far.changes h c.index.ensures)

pub search_program-requires-clause-held : goal.search_program-requires-clause-held
search_program-requires-clause-held c =
    subst (λ (p : Program). IsHeldIn p.packages.items c.loop-at.held) (sym c.loop-at.invariant.so_far.changes.rest) c.loop-at.invariant.held

pub returns-in-Some-clause-first : goal.returns-in-Some-clause-first
returns-in-Some-clause-first c =
    let h : c.loop-at.at < length c.args.program.now.order.items = omega (arith, c.loop-at-test.true, c.len-at-end.ensures) in
    found_there c.args.program.now c.loop-at.program c.search_program.new.program c.loop-at.at c.index.result.now c.loop-at.invariant.so_far
    (number_read c.args.program.now c.loop-at.program c.loop-at.at c.index.result.now c.loop-at.invariant.so_far.changes h c.index.ensures)
    c.in_ok-searched.searched c.in-Some.found c.in_ok-searched.ensures.search c.in-Some.is

pub returns-in-Some-clause-held : goal.returns-in-Some-clause-held
returns-in-Some-clause-held c =
    subst (λ (p : Program). IsHeldIn p.packages.items c.search_program.new.held) (sym c.in_ok-searched.ensures.search.rest) c.in_ok-searched.ensures.held

pub loop-at-preserved : goal.loop-at-preserved
loop-at-preserved c =
    let h : c.loop-at.at < length c.args.program.now.order.items = omega (arith, c.loop-at-test.true, c.len-at-end.ensures) in
    record {
      so_far =
          none_there c.args.program.now c.loop-at.program c.search_program.new.program c.loop-at.at c.index.result.now c.loop-at.invariant.so_far
          (number_read c.args.program.now c.loop-at.program c.loop-at.at c.index.result.now c.loop-at.invariant.so_far.changes h c.index.ensures)
          c.in_ok-searched.searched c.in_ok-searched.ensures.search c.in_default.is;
      held =
          subst (λ (p : Program). IsHeldIn p.packages.items c.search_program.new.held) c.loop-at.invariant.so_far.changes.rest c.in_ok-searched.ensures.held;
    }

pub returns-clause-first : goal.returns-clause-first
returns-clause-first c =
    all_searched c.args.program.now c.loop-at.program c.loop-at.at (omega (arith, c.loop-at-test.false, c.len-at-end.ensures)) c.loop-at.invariant.so_far

pub returns-clause-held : goal.returns-clause-held
returns-clause-held c = subst (λ (p : Program). IsHeldIn p.packages.items c.loop-at.held) (sym c.loop-at.invariant.so_far.changes.rest) c.loop-at.invariant.held

use Rattle.std.proofs.Common.{◌<◌, refl, get_or, length, arith}
use Rattle.stepped_programs.proofs.SearchedSites.KeptPrograms.Kept.{got}
use Rattle.stepped_programs.proofs.Unsettling.{flags_put, one_package, all_packages}
use Rattle.stepped_programs.proofs.flags.unsettle.Goals as goal

pub loop-home-preserved : goal.loop-home-preserved
loop-home-preserved c =
    let cur = c.loop-home.files in
    let n = c.loop-home.home in
    let x = get_or cur n c.index-files-home.result in
    let h : n < length cur = omega (arith, c.loop-home-test.true, c.loop-home.invariant.size) in
    one_package c.args.users.now c.args.decl c.args.files.now cur _ n x _ (got cur n c.index-files-home.result h) refl
    (flags_put c.args.users.now c.args.decl n x c.deref_mut.result.now c.unsettle_files.new.settled c.deref_mut.ensures.value c.unsettle_files.ensures)
    c.loop-home.invariant

pub returns : goal.returns
returns c =
    all_packages c.args.users.now c.args.decl c.args.files.now c.loop-home.files c.loop-home.home
    (omega (arith, c.loop-home-test.false, c.loop-home.invariant.size)) c.loop-home.invariant

use Rattle.std.proofs.Common.{◌≡◌, Bool, List, length, refl, sym, subst, arith}
use Rattle.type_flags.specs.Comparable.{AreComparable}
use Rattle.type_flags.specs.Flags.{SoundFlags}
use Rattle.type_flags.proofs.FlagLaws.{settled, take_back}
use Rattle.type_flags.proofs.flags.comparable_types.Goals as goal

pub returns-clause-are : goal.returns-clause-are
returns-clause-are c =
    let flags : List Bool = c.set_missing.new.flags in
    let whole : c.loop.flags.len ≡ length flags = omega (arith, c.set_missing.ensures.count, c.deref_mut-in-loop.ensures.len, c.loop.flags.ok.0) in
    subst (AreComparable c.args.env.now) (sym (take_back c.loop.flags.len flags _ whole))
    (settled c.args.env.now c.len.ensures.good flags (omega (arith, whole, c.loop.invariant.0, c.loop.flags.ok.0))
    (c.set_missing.ensures.sound (subst (SoundFlags c.args.env.now) (sym c.deref_mut-in-loop.ensures.value) c.loop.invariant.1)) (c.loop-test.ensures.closed refl))

use Rattle.std.proofs.Common.{◌≡◌, ◌∙◌, Bool, List, ap, length, refl, sym, subst, arith}
use Rattle.type_flags.proofs.FlagLaws.{take_back}
use Rattle.named_types.specs.Steps.{number_at}
use Rattle.finite_types.specs.Finite.{AreFinite}
use Rattle.finite_types.specs.Flags.{IsNext, SoundFlags}
use Rattle.finite_types.proofs.FlagLaws.{settled}
use Rattle.finite_types.proofs.flags.finite_types.Goals as goal

pub returns-clause-are : goal.returns-clause-are
returns-clause-are c =
    let e = c.args.types.now in
    let ds = c.args.declared.now in
    let next = c.deref-in-loop.result.now in
    let leads : IsNext e ds next = record {
      are = c.requires;
      leads = λ t. ap (λ xs. number_at xs t) c.deref-in-loop.ensures.value ∙ c.in_ok-next.ensures.are t;
    } in
    let flags : List Bool = c.set_missing.new.flags in
    let whole : c.loop.flags.len ≡ length flags = omega (arith, c.set_missing.ensures.count, c.deref_mut-in-loop.ensures.len, c.loop.flags.ok.0) in
    subst (AreFinite e ds) (sym (take_back c.loop.flags.len flags _ whole))
    (settled e c.len.ensures.good ds next leads flags (omega (arith, whole, c.loop.invariant.0, c.loop.flags.ok.0))
    (c.set_missing.ensures.sound ds leads
    (subst (SoundFlags e ds) (sym c.deref_mut-in-loop.ensures.value) c.loop.invariant.1))
    (c.loop-test.ensures.closed refl))

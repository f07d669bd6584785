use Rattle.std.proofs.Common.{◌≡◌, true, ◌∙◌, sym, arith}
use Rattle.type_flags.proofs.FlagLaws.{row_sound, set_fewer, set_sound}
use Rattle.type_flags.proofs.flags.set_flag.Goals as goal

pub returns-clause-sound : goal.returns-clause-sound
returns-clause-sound c =
    let h : c.row_flag.result ≡ true = grind (arith, c.if-not-row_flag.false) in
    λ s. set_sound c.args.env.now c.args.flags.now c.args.t s
    (row_sound c.args.env.now c.requires.good c.args.flags.now s c.args.t (sym c.row_flag.ensures ∙ h))

pub returns-clause-fewer : goal.returns-clause-fewer
returns-clause-fewer c = λ e. set_fewer c.args.flags.now c.args.t c.requires.within c.if-flags-t.false

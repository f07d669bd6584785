use Rattle.std.proofs.Common.{◌≡◌, ◌↔◌, IsTrue, ℕ, Bool, List, ◌+◌, ◌<◌, [], ◌∷◌, sym, ap, ◌∙◌, subst, length, length-append, arith}
use Rattle.param_choice.specs.Chosen.{has}
use Rattle.param_choice.specs.Strikes.{Fits}
use Rattle.param_choice.proofs.Striking.{has_pushed, open_fits}
use Rattle.param_choice.proofs.choice.candidates.Goals as goal

pub loop-i-preserved : goal.loop-i-preserved
loop-i-preserved c =
    let i = c.loop-i.i in
    let kept = c.loop-i.kept.items in
    let t = c.args.t.now in
    let P : List Bool → Type 0 = λ xs. (length xs ≡ i + 1) × ((k : ℕ) → k < i + 1 → IsTrue (has xs k) ↔ Fits t c.args.constants k) in
    subst P (sym c.in_ok-push.ensures.items) (
      omega (arith, length-append kept (c.fits.result ∷ []), c.loop-i.invariant.0),
      has_pushed kept c.fits.result i (Fits t c.args.constants) c.loop-i.invariant.0 c.loop-i.invariant.1 c.fits.ensures,
    )

pub returns : goal.returns
returns c =
    let all : c.loop-i.i ≡ length c.args.t.now.rows = omega (arith, ap length c.items-rows.ensures) in
    open_fits c.args.t.now c.args.constants c.loop-i.kept.items (c.loop-i.invariant.0 ∙ all)
    (λ i h. c.loop-i.invariant.1 i (omega arith))

use Rattle.std.proofs.Common.{◌≡◌, ℕ, ◌+◌, ◌-◌, ◌<◌, ◌≤◌, length, get_or, sym, ap, ◌∙◌, arith}
use Rattle.std.proofs.Math.ListN.{set}
use Rattle.go_nesting.specs.declared.counts.Counts.{Counts}
use Rattle.go_nesting.specs.declared.counts.Nesting.{Nesting}
use Rattle.go_nesting.specs.declared.counts.Nesting.TheVariants.{Opens, Closes, Separates, Adds}
use Rattle.go_nesting.specs.Nesting.{after}
use Rattle.go_nesting.specs.Frames.{frames, counts_of}
use Rattle.go_nesting.proofs.FrameLemmas.{top_small, opens_small, opened_is, counted_is, separated_is, closed_is, counted_opened, counted_closed, counted_at, sound_of}
use Rattle.go_nesting.proofs.counts.Counts.take.Goals as goal

-- what each kind of token leaves
opens_after : (s : Counts) (n : Nesting) → n ≡ Opens → s.top + 1 < length s.counts → frames (set (set s.counts s.top (get_or s.counts s.top 0 + 1)) (s.top + 1) 0) (s.top + 1) ≡ after n (counts_of s)
opens_after s n e lt = opened_is s.counts s.top lt ∙ ap (λ (n : Nesting). after n (counts_of s)) (sym e)

adds_after : (s : Counts) (n : Nesting) → n ≡ Adds → s.top < length s.counts → frames (set s.counts s.top (get_or s.counts s.top 0 + 1)) s.top ≡ after n (counts_of s)
adds_after s n e lt = counted_is s.counts s.top lt ∙ ap (λ (n : Nesting). after n (counts_of s)) (sym e)

separates_after : (s : Counts) (n : Nesting) → n ≡ Separates → s.top < length s.counts → frames (set s.counts s.top 0) s.top ≡ after n (counts_of s)
separates_after s n e lt = separated_is s.counts s.top lt ∙ ap (λ (n : Nesting). after n (counts_of s)) (sym e)

closes_after : (s : Counts) (n : Nesting) → n ≡ Closes → frames s.counts (s.top - 1) ≡ after n (counts_of s)
closes_after s n e = closed_is s.counts s.top ∙ ap (λ (n : Nesting). after n (counts_of s)) (sym e)

stays_after : (s : Counts) (n : Nesting) → n ≡ Closes → s.top ≤ 0 → frames s.counts s.top ≡ after n (counts_of s)
stays_after s n e le =
    let z : s.top ≡ s.top - 1 = omega (arith, le) in
    ap (λ (d : ℕ). frames s.counts d) z ∙ closes_after s n e

pub bounds-self-self-in-Opens-2 : goal.bounds-self-self-in-Opens-2
bounds-self-self-in-Opens-2 c = opens_small c.args.nesting c.requires.sound c.in-Opens.is c.requires.small

pub returns-in-Opens-clause-after : goal.returns-in-Opens-clause-after
returns-in-Opens-clause-after c =
    opens_after c.args.self.now c.args.nesting c.in-Opens.is (omega (arith, opens_small c.args.nesting c.requires.sound c.in-Opens.is c.requires.small))

pub returns-in-Opens-clause-sound : goal.returns-in-Opens-clause-sound
returns-in-Opens-clause-sound c =
    let lt : c.args.self.now.top + 1 < length c.args.self.now.counts = omega (arith, opens_small c.args.nesting c.requires.sound c.in-Opens.is c.requires.small) in
    sound_of _ (after c.args.nesting (counts_of c.args.self.now)) (opens_after c.args.self.now c.args.nesting c.in-Opens.is lt) c.weight_after-self.ensures c.requires.small
    (counted_opened c.args.self.now.counts c.args.self.now.top lt c.requires.sound.counted)

pub returns-in-Adds-clause-after : goal.returns-in-Adds-clause-after
returns-in-Adds-clause-after c = adds_after c.args.self.now c.args.nesting c.in-Adds.is (omega (arith, top_small c.requires.sound))

pub returns-in-Adds-clause-sound : goal.returns-in-Adds-clause-sound
returns-in-Adds-clause-sound c =
    sound_of _ (after c.args.nesting (counts_of c.args.self.now)) (adds_after c.args.self.now c.args.nesting c.in-Adds.is (omega (arith, top_small c.requires.sound))) c.weight_after-self.ensures c.requires.small
    (counted_at c.args.self.now.counts c.args.self.now.top _ c.requires.sound.counted)

pub returns-in-Separates-clause-after : goal.returns-in-Separates-clause-after
returns-in-Separates-clause-after c = separates_after c.args.self.now c.args.nesting c.in-Separates.is (omega (arith, top_small c.requires.sound))

pub returns-in-Separates-clause-sound : goal.returns-in-Separates-clause-sound
returns-in-Separates-clause-sound c =
    sound_of _ (after c.args.nesting (counts_of c.args.self.now)) (separates_after c.args.self.now c.args.nesting c.in-Separates.is (omega (arith, top_small c.requires.sound))) c.weight_after-self.ensures c.requires.small
    (counted_at c.args.self.now.counts c.args.self.now.top _ c.requires.sound.counted)

pub returns-in-Closes-clause-after : goal.returns-in-Closes-clause-after
returns-in-Closes-clause-after c = closes_after c.args.self.now c.args.nesting c.in-Closes.is

pub returns-in-Closes-clause-sound : goal.returns-in-Closes-clause-sound
returns-in-Closes-clause-sound c =
    sound_of _ (after c.args.nesting (counts_of c.args.self.now)) (closes_after c.args.self.now c.args.nesting c.in-Closes.is) c.weight_after-self.ensures c.requires.small
    (counted_closed c.args.self.now.counts c.args.self.now.top c.requires.sound.counted)

pub returns-else-self-gt0-clause-after : goal.returns-else-self-gt0-clause-after
returns-else-self-gt0-clause-after c = stays_after c.args.self.now c.args.nesting c.in-Closes.is c.if-self-gt0.false

pub returns-else-self-gt0-clause-sound : goal.returns-else-self-gt0-clause-sound
returns-else-self-gt0-clause-sound c =
    sound_of _ (after c.args.nesting (counts_of c.args.self.now)) (stays_after c.args.self.now c.args.nesting c.in-Closes.is c.if-self-gt0.false) c.weight_after-self.ensures c.requires.small c.requires.sound.counted

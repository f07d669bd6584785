-- Wrapping gives a number of the kind with the same lowest bits; quotients and remainders belong together.
use Rattle.std.proofs.Common.{◌≡◌, ◌⊎◌, inl, inr, ℕ, zero, suc, ◌+◌, ◌-◌, ◌*◌, ◌/◌, ◌%◌, ◌^◌, ◌<◌, ℤ, pos, negsuc, ◌+ℤ◌, ◌-ℤ◌, ◌*ℤ◌, refl, sym, ap, ◌∙◌, arith}
use Rattle.std.proofs.Math.IntN.{+ℤ_assoc, +ℤ_comm, +ℤ_idl, +ℤ_invl, -ℤ-+ℤ_cancel, +ℤ-neg_ℤ_cancel}
use Rattle.std.proofs.Math.Nat.{mod-add-div', mod-eq_of_lt}
use Rattle.std.proofs.lemmas.Nat.{mod_below, pow_pos}
use Rattle.std.specs.Int.{int_rem_euclid}
use Rattle.go_kernel.specs.Values.{Kind}
use Rattle.std.specs.Int.RustNames.{unsigned_abs}
use Rattle.std.proofs.lemmas.Int.{quot-rem, rem_below}
use Rattle.go_kernel.specs.Ops.{Quotient, Remainder}
use Rattle.go_kernel.specs.Numbers.{bits, least, wrap, division, IsOfKind, SameBits}

small : (w : ℤ) (D : ℕ) → zero < D → (m : ℕ) × (m < D) × (int_rem_euclid w (pos D) ≡ pos m)
small (pos a) D p = (a % D, mod_below a D p, refl)
small (negsuc a) D p = (D - 1 - a % D, omega (arith, p), refl)

-- -(a + 1) and a + 1 and d are d
behind : (a d : ℕ) → negsuc a +ℤ pos (suc a + d) ≡ pos d
behind a d = sym (+ℤ_assoc (negsuc a) (pos (suc a)) (pos d)) ∙ ap (λ z. z +ℤ pos d) (+ℤ_invl (pos (suc a))) ∙ +ℤ_idl (pos d)

filled_up : (a D q r : ℕ) → r < D → r + q * D ≡ a → suc a + (D - 1 - r) ≡ suc q * D
filled_up a D q r l e = grind (arith, l, e)

multiple : (w : ℤ) (D : ℕ) → zero < D → (m : ℕ) × ((int_rem_euclid w (pos D) +ℤ pos (m * D) ≡ w) ⊎ (w +ℤ pos (m * D) ≡ int_rem_euclid w (pos D)))
multiple (pos a) D p = (a / D, inl (ap pos (mod-add-div' a D)))
multiple (negsuc a) D p = (suc (a / D), inr (ap (λ n. negsuc a +ℤ pos n) (sym (filled_up a D (a / D) (a % D) (mod_below a D p) (mod-add-div' a D))) ∙ behind a (D - 1 - a % D)))

-- an equation with a third number on both sides
shifted_by : (a b c l : ℤ) → a +ℤ b ≡ c → (a +ℤ l) +ℤ b ≡ c +ℤ l
shifted_by a b c l e = +ℤ_assoc a l b ∙ ap (λ z. a +ℤ z) (+ℤ_comm l b) ∙ sym (+ℤ_assoc a b l) ∙ ap (λ z. z +ℤ l) e

pub wrap_of_kind : (k : Kind) (z : ℤ) → IsOfKind k (wrap k z)
wrap_of_kind k z = let r = small (z -ℤ least k) (2 ^ bits k) (pow_pos (bits k)) in (r.0, r.1, ap (λ y. y +ℤ least k) r.2)

pub wrap_same_bits : (k : Kind) (z : ℤ) → SameBits k (wrap k z) z
wrap_same_bits k z = go (multiple (z -ℤ least k) (2 ^ bits k) (pow_pos (bits k)))
  where
    w : ℤ
    w = z -ℤ least k

    r : ℤ
    r = int_rem_euclid w (pos (2 ^ bits k))

    back : w +ℤ least k ≡ z
    back = -ℤ-+ℤ_cancel z (least k)

    side : (m : ℕ) → (r +ℤ pos (m * 2 ^ bits k) ≡ w) ⊎ (w +ℤ pos (m * 2 ^ bits k) ≡ r) → (wrap k z +ℤ pos (m * 2 ^ bits k) ≡ z) ⊎ (z +ℤ pos (m * 2 ^ bits k) ≡ wrap k z)
    side m (inl e) = inl (shifted_by r (pos (m * 2 ^ bits k)) w (least k) e ∙ back)
    side m (inr e) = inr (ap (λ y. y +ℤ pos (m * 2 ^ bits k)) (sym back) ∙ shifted_by w (pos (m * 2 ^ bits k)) r (least k) e)

    go : (m : ℕ) × ((r +ℤ pos (m * 2 ^ bits k) ≡ w) ⊎ (w +ℤ pos (m * 2 ^ bits k) ≡ r)) → SameBits k (wrap k z) z
    go q = (q.0, side q.0 q.1)

kept : (m D : ℕ) → m < D → int_rem_euclid (pos m) (pos D) ≡ pos m
kept m D l = ap pos (mod-eq_of_lt l)

pub wrap_keeps : (k : Kind) (z : ℤ) → IsOfKind k z → wrap k z ≡ z
wrap_keeps k z q =
    ap (λ y. int_rem_euclid (y -ℤ least k) (pos (2 ^ bits k)) +ℤ least k) q.2
    ∙ ap (λ y. int_rem_euclid y (pos (2 ^ bits k)) +ℤ least k) (+ℤ-neg_ℤ_cancel (pos q.0) (least k))
    ∙ ap (λ y. y +ℤ least k) (kept q.0 (2 ^ bits k) q.1) ∙ sym q.2

-- ---- quotients and remainders

pub quotient_and_remainder : (a b : ℤ) → division Quotient a b *ℤ b +ℤ division Remainder a b ≡ a
quotient_and_remainder a b = quot-rem a b

pub remainder_smaller : (a b : ℤ) → 0 < unsigned_abs b → unsigned_abs (division Remainder a b) < unsigned_abs b
remainder_smaller a b h = rem_below a b h

-- A set of arguments that is safe by a more careful list of items is safe.
use Rattle.std.proofs.Common.{⊎_elim, inl, inr, ◌≡◌, ℕ, ◌≤◌, List, [], ◌∷◌, Bool, true, false, true≢false, if◌then◌else◌, sym, ◌∙◌, arith}
use Rattle.std.specs.Prelude.{bytes_eq, ◌+◌}
use Rattle.go_kernel.specs.Kernel.{Name, Term}
use Rattle.go_kernel.specs.Items.{Item, Param, Read, Fail, Write, Stop, items, uses, writes}
use Rattle.go_kernel.specs.Arguments.{Arg, arg}
use Rattle.go_kernel.specs.Choosing.{Row, use_of, is_use, is_write, is_effect, uses_before, AsCareful, Solo, Later, Safe, IsRow, AreRows}
use Rattle.go_kernel.proofs.UsesBefore.{before_total, total_le}

-- ---- lists that are as careful as others

pub careful_end : (K : List Item) → AsCareful [] K
careful_end K x = (omega arith, omega arith, λ z. omega arith)

pub careful_stop : (I K : List Item) → AsCareful (Stop ∷ I) K
careful_stop I K x = (omega arith, omega arith, λ z. omega arith)

kept : (b : Bool) (u m n : ℕ) → m ≤ n → (if b then 0 else u + m) ≤ (if b then 0 else u + n)
kept true u m n h = omega arith
kept false u m n h = omega (arith, h)

both_on : (m n : ℕ) → m ≤ n → 0 + m ≤ 0 + n
both_on m n h = omega (arith, h)

one_on : (m n : ℕ) → m ≤ n → 0 + m ≤ n
one_on m n h = omega (arith, h)

module _ (I K : List Item) (c : AsCareful I K) where
  uses_on : (x z : Name) → 0 + uses_before (is_use z) x I ≤ 0 + uses_before (is_use z) x K
  uses_on x z = both_on (uses_before (is_use z) x I) (uses_before (is_use z) x K) ((c x).2 z)

  writes_kept : (x : Name) → 0 + uses_before is_write x I ≤ 0 + uses_before is_write x K
  writes_kept x = both_on (uses_before is_write x I) (uses_before is_write x K) (c x).0

  uses_further : (x z : Name) → 0 + uses_before (is_use z) x I ≤ uses_before (is_use z) x K
  uses_further x z = one_on (uses_before (is_use z) x I) (uses_before (is_use z) x K) ((c x).2 z)

  writes_further : (x : Name) → 0 + uses_before is_write x I ≤ uses_before is_write x K
  writes_further x = one_on (uses_before is_write x I) (uses_before is_write x K) (c x).0

  -- the same item in front of both
  pub careful_same : (i : Item) → AsCareful (i ∷ I) (i ∷ K)
  careful_same (Param y) x = (kept false (use_of x (Param y)) (uses_before is_write x I) (uses_before is_write x K) (c x).0, kept false (use_of x (Param y)) (uses_before is_effect x I) (uses_before is_effect x K) (c x).1, λ z. kept (bytes_eq y z) (use_of x (Param y)) (uses_before (is_use z) x I) (uses_before (is_use z) x K) ((c x).2 z))
  careful_same Read x = (writes_kept x, omega arith, λ z. uses_on x z)
  careful_same Fail x = (writes_kept x, omega arith, λ z. uses_on x z)
  careful_same Write x = (omega arith, omega arith, λ z. uses_on x z)
  careful_same Stop x = (omega arith, omega arith, λ z. omega arith)

  -- a further read, failure or write
  pub careful_further : (i : Item) → is_effect i ≡ true → AsCareful (i ∷ I) K
  careful_further (Param y) e x = absurd (true≢false (sym e))
  careful_further Read e x = (writes_further x, omega arith, λ z. uses_further x z)
  careful_further Fail e x = (writes_further x, omega arith, λ z. uses_further x z)
  careful_further Write e x = (omega arith, omega arith, λ z. uses_further x z)
  careful_further Stop e x = absurd (true≢false (sym e))

  -- a write for a read or a failure
  pub careful_write : (k : Item) → is_effect k ≡ true → AsCareful (Write ∷ I) (k ∷ K)
  careful_write (Param y) e x = absurd (true≢false (sym e))
  careful_write Read e x = (omega arith, omega arith, λ z. uses_on x z)
  careful_write Fail e x = (omega arith, omega arith, λ z. uses_on x z)
  careful_write Write e x = (omega arith, omega arith, λ z. uses_on x z)
  careful_write Stop e x = absurd (true≢false (sym e))

-- ---- a safe set

module _ (all : List Arg) (g : List Name) (t : Term) (I : List Item) (w : Bool) (careful : AsCareful I (items g t)) (calm : w ≡ false → writes t ≡ false) where
  -- all uses are listed before the first item of a kind
  all_before : (kind : Item → Bool) (x : Name) (n : ℕ) → n ≡ uses x g t → uses_before kind x I ≤ uses_before kind x (items g t) → uses_before kind x I ≡ n → uses_before kind x (items g t) ≡ n
  all_before kind x n u c e = let m = before_total x kind (items g t) in let k = total_le x t g in omega (arith, u, c, e, m, k)

  solo_too : (x : Name) (a : Term) (fr : List Name) (c : Bool) (r : Row) → IsRow all g t (arg x a fr c) r → Solo r x I w → Solo r x (items g t) (writes t)
  solo_too x a fr c r q s = record {
    free = s.free;
    deferred = s.deferred;
    repeated = s.repeated;
    unused = s.unused;
    looking = λ e. ⊎_elim (λ k. inl (calm k)) (λ k. inr (all_before is_write x r.uses q.1 (careful x).0 k)) (s.looking e);
    acting = λ e. let k = s.acting e in (k.0, all_before is_effect x r.uses q.1 (careful x).1 (k.1 ∙ sym k.0) ∙ k.0);
  }

  later_too : (x : Name) (r : Row) → r.uses ≡ uses x g t → (rows : List Row) (os : List Arg) → Later r x I rows os → Later r x (items g t) rows os
  later_too x r u [] os h = tt
  later_too x r u (q ∷ rows) [] h = tt
  later_too x r u (q ∷ rows) (arg z a fr c ∷ os) h = ((λ e. let k = h.0 e in (k.0, all_before (is_use z) x r.uses u ((careful x).2 z) k.1)), later_too x r u rows os h.1)

  pub safe_too : (os : List Arg) (rows : List Row) → AreRows all g t os rows → Safe I w rows os → Safe (items g t) (writes t) rows os
  safe_too [] [] q s = tt
  safe_too [] (r ∷ rows) q s = tt
  safe_too (o ∷ os) [] q s = tt
  safe_too (arg x a fr c ∷ os) (r ∷ rows) q s = ((λ e. let k = s.0 e in (solo_too x a fr c r q.0 k.0, later_too x r q.0.1 rows os k.1)), s.1, safe_too os rows q.1 s.2)

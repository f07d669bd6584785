-- What holds of every answer of a step holds of every answer of a reading, and reading is its own step.
use Rattle.std.proofs.Common.{◌≡◌, ℕ, zero, suc, ◌+◌, ◌<◌, ◌≤◌, length, Option, Some, None, refl, ap, subst, ◌∙◌, arith}
use Rattle.std.specs.Prelude.{option_and_then}
use Rattle.go_read.specs.SpellsTypes.{Lexemes}
use Rattle.go_read.specs.Goals.{Goal, Answer, Reader, least, weight}
use Rattle.go_read.specs.Programs.{Program, give, fail, ask, look, run}
use Rattle.go_read.specs.Reading.{step, reads, at}

pub and_then_some : {A B : Type 0} (o : Option A) (f : A → Option B) (y : B) → option_and_then f o ≡ Some y → (x : A) × (o ≡ Some x) × (f x ≡ Some y)
and_then_some (Some x) f y e = (x, refl, e)
and_then_some None f y e = absurd cc

pub and_then_same : {A B : Type 0} (o p : Option A) (f h : A → Option B) → o ≡ p → ((x : A) → o ≡ Some x → f x ≡ h x) → option_and_then f o ≡ option_and_then h p
and_then_same (Some x) p f h e k = k x refl ∙ ap (option_and_then h) e
and_then_same None p f h e k = ap (option_and_then h) e

pub some_is : {A : Type 0} (x y : A) → Some x ≡ Some y → x ≡ y
some_is x y e = cc

module _ {S : Type 0} (Means : (g : Goal S) → Lexemes → Answer g → Lexemes → Type 0) where
  -- an answer that takes its tokens, and means what it should
  abbrev pub Good : (g : Goal S) → Lexemes → Answer g → Lexemes → Type 0
  Good g ts x r = (length r + least g ≤ length ts) × Means g ts x r

  abbrev pub Sounds : Reader S → Type 0
  Sounds f = (g : Goal S) (ts : Lexemes) (y : Answer g × Lexemes) → f g ts ≡ Some y → Good g ts y.0 y.1

  -- a program that asks for what is lighter alone, and whose answers have the property
  abbrev pub Fine : {X : Type 0} → ℕ → (X → Lexemes → Type 0) → Program S X → Type 0
  Fine m P (give x r) = P x r
  Fine m P fail = Unit {0}
  Fine m P (ask g ts k) = (weight g ts < m) × ((x : Answer g) (r : Lexemes) → Good g ts x r → Fine m P (k x r))
  Fine m P (look g ts k) = (weight g ts < m) × Fine m P (k None) × ((x : Answer g) (r : Lexemes) → Good g ts x r → Fine m P (k (Some (x, r))))

  look_fine : {X : Type 0} (m : ℕ) (P : X → Lexemes → Type 0) (g : Goal S) (ts : Lexemes) (k : Option (Answer g × Lexemes) → Program S X) (o : Option (Answer g × Lexemes))
      → ((y : Answer g × Lexemes) → o ≡ Some y → Good g ts y.0 y.1) → Fine m P (look g ts k) → Fine m P (k o)
  look_fine m P g ts k None good h = h.1
  look_fine m P g ts k (Some y) good h = h.2 y.0 y.1 (good y refl)

  sound_run : {X : Type 0} (f : Reader S) → Sounds f → (m : ℕ) (P : X → Lexemes → Type 0) (p : Program S X) → Fine m P p → (y : X × Lexemes) → run f p ≡ Some y → P y.0 y.1
  sound_run f s m P (give x r) h y e = subst (λ z. P z.0 z.1) (some_is (x, r) y e) h
  sound_run f s m P fail h y e = absurd cc
  sound_run f s m P (ask g ts k) h y e =
      let q = and_then_some (f g ts) (λ x. run f (k x.0 x.1)) y e in
      sound_run f s m P (k q.0.0 q.0.1) (h.1 q.0.0 q.0.1 (s g ts q.0 q.1)) y q.2
  sound_run f s m P (look g ts k) h y e = sound_run f s m P (k (f g ts)) (look_fine m P g ts k (f g ts) (s g ts) h) y e

  abbrev pub Agree : ℕ → Reader S → Reader S → Type 0
  Agree m f h = (g : Goal S) (ts : Lexemes) → weight g ts < m → f g ts ≡ h g ts

  same_run : {X : Type 0} (f h : Reader S) → Sounds f → (m : ℕ) (P : X → Lexemes → Type 0) → Agree m f h → (p : Program S X) → Fine m P p → run f p ≡ run h p
  same_run f h s m P a (give x r) i = refl
  same_run f h s m P a fail i = refl
  same_run f h s m P a (ask g ts k) i =
      and_then_same (f g ts) (h g ts) (λ x. run f (k x.0 x.1)) (λ x. run h (k x.0 x.1)) (a g ts i.0)
      (λ x e. same_run f h s m P a (k x.0 x.1) (i.1 x.0 x.1 (s g ts x e)))
  same_run f h s m P a (look g ts k) i =
      same_run f h s m P a (k (f g ts)) (look_fine m P g ts k (f g ts) (s g ts) i) ∙ ap (λ o. run h (k o)) (a g ts i.0)

  module _ (mark : Lexemes → Lexemes → S) (each : (g : Goal S) (ts : Lexemes) → Fine (weight g ts) (Good g ts) (step mark g ts)) where
    reads_sound : (n : ℕ) → Sounds (reads mark n)
    unfolding reads
    reads_sound zero g ts y e = absurd cc
    reads_sound (suc n) g ts y e = sound_run (reads mark n) (reads_sound n) (weight g ts) (Good g ts) (step mark g ts) (each g ts) y e

    enough : (m n : ℕ) (g : Goal S) (ts : Lexemes) → weight g ts < m → weight g ts < n → reads mark m g ts ≡ reads mark n g ts
    unfolding reads
    enough zero n g ts p q = absurd (omega (arith, p))
    enough (suc m) zero g ts p q = absurd (omega (arith, q))
    enough (suc m) (suc n) g ts p q =
        same_run (reads mark m) (reads mark n) (reads_sound m) (weight g ts) (Good g ts) (λ h us lt. enough m n h us (omega (arith, lt, p)) (omega (arith, lt, q))) (step mark g ts) (each g ts)

    pub at_is_by : (g : Goal S) (ts : Lexemes) → at mark g ts ≡ run (at mark) (step mark g ts)
    unfolding at reads
    at_is_by g ts =
        same_run (reads mark (weight g ts)) (at mark) (reads_sound (weight g ts)) (weight g ts) (Good g ts)
        (λ h us lt. enough (weight g ts) (suc (weight h us)) h us lt (omega arith)) (step mark g ts) (each g ts)

    pub at_good_by : Sounds (at mark)
    unfolding at
    at_good_by g ts y e = reads_sound (suc (weight g ts)) g ts y e

-- Words that have a form, and their characters.
use Rattle.std.proofs.Common.{◌≡◌, ℕ, ◌<◌, Bool, true, false, ◌&&◌, ◌||◌, ◌⊎◌, inl, inr, List, [], ◌∷◌, ◌++◌, refl, sym, ap, subst, ◌∙◌}
use Rattle.std.specs.Prelude.{nat_eq, nat_lt, encode_utf8_all}
use Rattle.std.proofs.Math.Dec.{ltb}
use Rattle.std.proofs.lemmas.Bool.{ne_eqb, eqb-true, ltb-true}
use Rattle.std.proofs.lemmas.Str.{encode_ascii}
use Rattle.go_tree.specs.GoWords.Tokens.Characters.{is_listed, each}
use Rattle.go_tree.specs.GoWords.Tokens.Forms.{Form, one_of, other_than, both, either, HasForm, listed, unlisted, joined, the_one, the_other}

-- ---- parts of a word that has a form

pub one_is : (cs w : List ℕ) → HasForm (one_of cs) w → (c : ℕ) × (w ≡ c ∷ []) × (is_listed cs c ≡ true)
one_is _ _ (listed cs c h) = (c, refl, h)

pub other_is : (cs w : List ℕ) → HasForm (other_than cs) w → (c : ℕ) × (w ≡ c ∷ []) × (is_listed cs c ≡ false)
other_is _ _ (unlisted cs c h) = (c, refl, h)

pub both_is : (f g : Form) (w : List ℕ) → HasForm (both f g) w → (u : List ℕ) × (v : List ℕ) × (w ≡ u ++ v) × HasForm f u × HasForm g v
both_is _ _ _ (joined f g u v w e h k) = (u, v, e, h, k)

pub either_is : (f g : Form) (w : List ℕ) → HasForm (either f g) w → HasForm f w ⊎ HasForm g w
either_is _ _ _ (the_one f g w h) = inl h
either_is _ _ _ (the_other f g w h) = inr h

-- one of these characters, and then the rest
pub front_is : (cs : List ℕ) (g : Form) (w : List ℕ) → HasForm (both (one_of cs) g) w → (c : ℕ) × (v : List ℕ) × (w ≡ c ∷ v) × (is_listed cs c ≡ true) × HasForm g v
front_is cs g w h =
    let b = both_is (one_of cs) g w h in
    let o = one_is cs b.0 b.3 in
    (o.0, b.1, b.2 ∙ ap (λ u. u ++ b.1) o.1, o.2, b.4)

-- ---- characters of a list

abbrev pub EachOf : (ℕ → Type 0) → List ℕ → Type 0
EachOf P [] = Unit {0}
EachOf P (c ∷ cs) = P c × EachOf P cs

pub or_is : (a b : Bool) → a || b ≡ true → (a ≡ true) ⊎ (b ≡ true)
or_is true b h = inl refl
or_is false b h = inr h

pub listed_is : (P : ℕ → Type 0) (cs : List ℕ) (c : ℕ) → EachOf P cs → is_listed cs c ≡ true → P c
listed_is P [] c all h = absurd cc
listed_is P (d ∷ ds) c all h = elim (or_is (nat_eq c d) (is_listed ds c) h) [ inl e ↦ subst P (sym (eqb-true c d e)) all.0 | inr e ↦ listed_is P ds c all.1 e ]

pub and_is : (a b : Bool) → a && b ≡ true → (a ≡ true) × (b ≡ true)
and_is true b h = (refl, h)
and_is false b h = absurd cc

pub each_of : (p : ℕ → Bool) (cs : List ℕ) → each p cs ≡ true → EachOf (λ c. p c ≡ true) cs
each_of p [] h = tt
each_of p (c ∷ cs) h = let a = and_is (p c) (each p cs) h in (a.0, each_of p cs a.1)

pub passes : (p : ℕ → Bool) (cs : List ℕ) (c : ℕ) → each p cs ≡ true → is_listed cs c ≡ true → p c ≡ true
passes p cs c all h = listed_is (λ d. p d ≡ true) cs c (each_of p cs all) h

pub sole : (d c : ℕ) → is_listed (d ∷ []) c ≡ true → c ≡ d
sole d c h = listed_is (λ x. x ≡ d) (d ∷ []) c (refl, tt) h

pub differs : (cs : List ℕ) (c d : ℕ) → is_listed cs c ≡ false → is_listed cs d ≡ true → nat_eq c d ≡ false
differs cs c d out has =
    let apart : c ≡ d → ⊥ = λ e. (let f : is_listed cs c ≡ is_listed cs d = ap (is_listed cs) e in absurd cc) in
    ne_eqb c d apart

-- ---- ASCII

abbrev pub is_low : ℕ → Bool
is_low c = nat_lt c 128

pub low : (cs : List ℕ) (c : ℕ) → each is_low cs ≡ true → is_listed cs c ≡ true → c < 128
low cs c all h = ltb-true c 128 (passes is_low cs c all h)

pub low_front : (c : ℕ) (w : List ℕ) → c < 128 → encode_utf8_all (c ∷ w) ≡ c ∷ encode_utf8_all w
low_front c w h = ap (λ bs. bs ++ encode_utf8_all w) (encode_ascii c h)

pub low_all : (w : List ℕ) → each is_low w ≡ true → encode_utf8_all w ≡ w
low_all [] h = refl
low_all (c ∷ w) h = let a = and_is (is_low c) (each is_low w) h in low_front c w (ltb-true c 128 a.0) ∙ ap (λ bs. c ∷ bs) (low_all w a.1)

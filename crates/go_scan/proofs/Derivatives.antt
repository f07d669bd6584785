-- Whether a word has a form, by the derivatives of the form (Brzozowski, Derivatives of regular expressions).
use Rattle.std.proofs.Common.{◌≡◌, ℕ, Bool, true, false, not, ◌&&◌, ◌||◌, List, [], ◌∷◌, ◌++◌, refl, sym, ap, subst, ◌∙◌}
use Rattle.go_tree.specs.GoWords.Tokens.Characters.{is_listed}
use Rattle.go_tree.specs.GoWords.Tokens.Forms.{Form, nothing, empty, one_of, other_than, both, either, many, HasForm, without, listed, unlisted, joined, the_one, the_other, no_more, once_more}

-- the empty word has the form
abbrev pub nullable : Form → Bool
nullable empty = true
nullable (both f g) = nullable f && nullable g
nullable (either f g) = nullable f || nullable g
nullable (many f) = true
nullable _ = false

abbrev pub both_of : Form → Form → Form
both_of nothing g = nothing
both_of empty g = g
both_of f g = both f g

abbrev pub either_of : Form → Form → Form
either_of nothing g = g
either_of f nothing = f
either_of f g = either f g

abbrev pub empty_if : Bool → Form
empty_if true = empty
empty_if false = nothing

abbrev pub with_second : Bool → Form → Form → Form
with_second true f g = either_of f g
with_second false f g = f

-- the form of the words that have the form with this character in front
abbrev pub after : ℕ → Form → Form
after c nothing = nothing
after c empty = nothing
after c (one_of cs) = empty_if (is_listed cs c)
after c (other_than cs) = empty_if (not (is_listed cs c))
after c (both f g) = with_second (nullable f) (both_of (after c f) g) (after c g)
after c (either f g) = either_of (after c f) (after c g)
after c (many f) = both_of (after c f) (many f)

abbrev pub along : List ℕ → Form → Form
along [] f = f
along (c ∷ cs) f = along cs (after c f)

-- the word has the form
abbrev pub matches : Form → List ℕ → Bool
matches f word = nullable (along word f)

-- ---- the parts of a word that has a form

pub has_nothing : (w : List ℕ) → HasForm nothing w → ⊥
has_nothing w h = elim h [ ]

pub has_empty : (w : List ℕ) → HasForm empty w → w ≡ []
has_empty [] without = refl
has_empty (c ∷ w) h = elim h [ ]

is_nil_front : (u v : List ℕ) → [] ≡ u ++ v → (u ≡ []) × (v ≡ [])
is_nil_front [] v e = (refl, sym e)
is_nil_front (c ∷ u) v e = absurd cc

pub and_parts : (a b : Bool) → a && b ≡ true → (a ≡ true) × (b ≡ true)
and_parts true b h = (refl, h)
and_parts false b h = absurd cc

pub and_true : (a b : Bool) → a ≡ true → b ≡ true → a && b ≡ true
and_true true b p q = q
and_true false b p q = absurd cc

pub or_left : (a b : Bool) → a ≡ true → a || b ≡ true
or_left true b p = refl
or_left false b p = absurd cc

pub or_right : (a b : Bool) → b ≡ true → a || b ≡ true
or_right true b p = refl
or_right false b p = p

-- ---- the empty word

empty_word : (f : Form) → nullable f ≡ true → HasForm f []
empty_word nothing h = absurd cc
empty_word empty h = without
empty_word (one_of cs) h = absurd cc
empty_word (other_than cs) h = absurd cc
empty_word (both f g) h = let p = and_parts (nullable f) (nullable g) h in joined f g [] [] [] refl (empty_word f p.0) (empty_word g p.1)
empty_word (either f g) h = by_first (nullable f) refl h (empty_word f) (empty_word g)
  where
    by_first : (b : Bool) → nullable f ≡ b → b || nullable g ≡ true → (nullable f ≡ true → HasForm f []) → (nullable g ≡ true → HasForm g []) → HasForm (either f g) []
    by_first true e h x y = the_one f g [] (x e)
    by_first false e h x y = the_other f g [] (y h)
empty_word (many f) h = no_more f

is_nullable : (f : Form) (w : List ℕ) → HasForm f w → w ≡ [] → nullable f ≡ true
is_nullable _ _ without e = refl
is_nullable _ _ (listed cs c h) e = absurd cc
is_nullable _ _ (unlisted cs c h) e = absurd cc
is_nullable _ _ (joined f g u v w parts x y) e =
    let p = is_nil_front u v (sym e ∙ parts) in and_true (nullable f) (nullable g) (is_nullable f u x p.0) (is_nullable g v y p.1)
is_nullable _ _ (the_one f g w x) e = or_left (nullable f) (nullable g) (is_nullable f w x e)
is_nullable _ _ (the_other f g w x) e = or_right (nullable f) (nullable g) (is_nullable g w x e)
is_nullable _ _ (no_more f) e = refl
is_nullable _ _ (once_more f u v w parts x y) e = refl

-- ---- the shortened forms

from_both_of : (f g : Form) (w : List ℕ) → HasForm (both_of f g) w → HasForm (both f g) w
from_both_of nothing g w h = absurd (has_nothing w h)
from_both_of empty g w h = joined empty g [] w w refl without h
from_both_of _ g w h = h

to_both_of : (f g : Form) (u v w : List ℕ) → w ≡ u ++ v → HasForm f u → HasForm g v → HasForm (both_of f g) w
to_both_of nothing g u v w e x y = absurd (has_nothing u x)
to_both_of empty g u v w e x y = subst (λ (t : List ℕ). HasForm g t) (sym (e ∙ ap (λ (t : List ℕ). t ++ v) (has_empty u x))) y
to_both_of (one_of cs) g u v w e x y = joined (one_of cs) g u v w e x y
to_both_of (other_than cs) g u v w e x y = joined (other_than cs) g u v w e x y
to_both_of (both a b) g u v w e x y = joined (both a b) g u v w e x y
to_both_of (either a b) g u v w e x y = joined (either a b) g u v w e x y
to_both_of (many a) g u v w e x y = joined (many a) g u v w e x y

from_either_of : (f g : Form) (w : List ℕ) → HasForm (either_of f g) w → HasForm (either f g) w
from_either_of nothing g w h = the_other nothing g w h
from_either_of f nothing w h = the_one f nothing w h
from_either_of f g w h = h

to_either_of_left : (f g : Form) (w : List ℕ) → HasForm f w → HasForm (either_of f g) w
to_either_of_left nothing g w h = absurd (has_nothing w h)
to_either_of_left f nothing w h = h
to_either_of_left f g w h = the_one f g w h

to_either_of_right : (f g : Form) (w : List ℕ) → HasForm g w → HasForm (either_of f g) w
to_either_of_right nothing g w h = h
to_either_of_right f nothing w h = absurd (has_nothing w h)
to_either_of_right f g w h = the_other f g w h

-- ---- one character more

either_case : (f g : Form) (w : List ℕ) {X : Type 0} → HasForm (either f g) w → (HasForm f w → X) → (HasForm g w → X) → X
either_case f g w (the_one _ _ _ x) l r = l x
either_case f g w (the_other _ _ _ x) l r = r x

with_first : (f g : Form) (c : ℕ) (w : List ℕ) → ((u : List ℕ) → HasForm (after c f) u → HasForm f (c ∷ u)) → HasForm (both_of (after c f) g) w → HasForm (both f g) (c ∷ w)
with_first f g c w ih h = of_both (from_both_of (after c f) g w h)
  where
    of_both : HasForm (both (after c f) g) w → HasForm (both f g) (c ∷ w)
    of_both (joined _ _ u v _ e x y) = joined f g (c ∷ u) v (c ∷ w) (ap (λ (t : List ℕ). c ∷ t) e) (ih u x) y

-- a word with the derivative's form is one with the form, after the character
pub from_after : (f : Form) (c : ℕ) (w : List ℕ) → HasForm (after c f) w → HasForm f (c ∷ w)
from_after nothing c w h = absurd (has_nothing w h)
from_after empty c w h = absurd (has_nothing w h)
from_after (one_of cs) c w h = by_test (is_listed cs c) refl h
  where
    by_test : (b : Bool) → is_listed cs c ≡ b → HasForm (empty_if b) w → HasForm (one_of cs) (c ∷ w)
    by_test true e h = subst (λ (t : List ℕ). HasForm (one_of cs) (c ∷ t)) (sym (has_empty w h)) (listed cs c e)
    by_test false e h = absurd (has_nothing w h)
from_after (other_than cs) c w h = by_test (is_listed cs c) refl h
  where
    by_test : (b : Bool) → is_listed cs c ≡ b → HasForm (empty_if (not b)) w → HasForm (other_than cs) (c ∷ w)
    by_test true e h = absurd (has_nothing w h)
    by_test false e h = subst (λ (t : List ℕ). HasForm (other_than cs) (c ∷ t)) (sym (has_empty w h)) (unlisted cs c e)
from_after (both f g) c w h = by_first (nullable f) refl (λ u. from_after f c u) (λ u. from_after g c u) h
  where
    by_first : (b : Bool) → nullable f ≡ b → ((u : List ℕ) → HasForm (after c f) u → HasForm f (c ∷ u)) → ((u : List ℕ) → HasForm (after c g) u → HasForm g (c ∷ u))
        → HasForm (with_second b (both_of (after c f) g) (after c g)) w → HasForm (both f g) (c ∷ w)
    by_first true e fs gs h = either_case (both_of (after c f) g) (after c g) w (from_either_of (both_of (after c f) g) (after c g) w h)
        (λ x. with_first f g c w fs x) (λ y. joined f g [] (c ∷ w) (c ∷ w) refl (empty_word f e) (gs w y))
    by_first false e fs gs h = with_first f g c w fs h
from_after (either f g) c w h = either_case (after c f) (after c g) w (from_either_of (after c f) (after c g) w h)
    (λ x. the_one f g (c ∷ w) (from_after f c w x)) (λ y. the_other f g (c ∷ w) (from_after g c w y))
from_after (many f) c w h = of_both (λ u. from_after f c u) (from_both_of (after c f) (many f) w h)
  where
    of_both : ((u : List ℕ) → HasForm (after c f) u → HasForm f (c ∷ u)) → HasForm (both (after c f) (many f)) w → HasForm (many f) (c ∷ w)
    of_both fs (joined _ _ u v _ e x y) = once_more f (c ∷ u) v (c ∷ w) (ap (λ (t : List ℕ). c ∷ t) e) (fs u x) y

-- and the other way round
to_after : (f : Form) (word : List ℕ) → HasForm f word → (c : ℕ) (w : List ℕ) → word ≡ c ∷ w → HasForm (after c f) w
to_after _ _ without c w e = absurd cc
to_after _ _ (listed cs d h) c w e =
    let head : d ≡ c = cc in let tail : [] ≡ w = cc in
    let test : is_listed cs c ≡ true = subst (λ (x : ℕ). is_listed cs x ≡ true) head h in
    subst (λ (b : Bool). HasForm (empty_if b) w) (sym test) (subst (λ (t : List ℕ). HasForm empty t) tail without)
to_after _ _ (unlisted cs d h) c w e =
    let head : d ≡ c = cc in let tail : [] ≡ w = cc in
    let test : is_listed cs c ≡ false = subst (λ (x : ℕ). is_listed cs x ≡ false) head h in
    subst (λ (b : Bool). HasForm (empty_if (not b)) w) (sym test) (subst (λ (t : List ℕ). HasForm empty t) tail without)
to_after _ _ (joined f g [] v word parts x y) c w e =
    let test = is_nullable f [] x refl in
    subst (λ (b : Bool). HasForm (with_second b (both_of (after c f) g) (after c g)) w) (sym test)
    (to_either_of_right (both_of (after c f) g) (after c g) w (to_after g v y c w (sym parts ∙ e)))
to_after _ _ (joined f g (d ∷ u) v word parts x y) c w e =
    let head : d ≡ c = cc in let tail : w ≡ u ++ v = cc in
    let front = to_after f (d ∷ u) x c u (ap (λ (z : ℕ). z ∷ u) head) in
    let left = to_both_of (after c f) g u v w tail front y in
    by_first (nullable f) left
  where
    by_first : (b : Bool) → HasForm (both_of (after c f) g) w → HasForm (with_second b (both_of (after c f) g) (after c g)) w
    by_first true h = to_either_of_left (both_of (after c f) g) (after c g) w h
    by_first false h = h
to_after _ _ (the_one f g word x) c w e = to_either_of_left (after c f) (after c g) w (to_after f word x c w e)
to_after _ _ (the_other f g word x) c w e = to_either_of_right (after c f) (after c g) w (to_after g word x c w e)
to_after _ _ (no_more f) c w e = absurd cc
to_after _ _ (once_more f [] v word parts x y) c w e = to_after (many f) v y c w (sym parts ∙ e)
to_after _ _ (once_more f (d ∷ u) v word parts x y) c w e =
    let head : d ≡ c = cc in let tail : w ≡ u ++ v = cc in
    to_both_of (after c f) (many f) u v w tail (to_after f (d ∷ u) x c u (ap (λ (z : ℕ). z ∷ u) head)) y

-- ---- words

pub has_form : (f : Form) (w : List ℕ) → matches f w ≡ true → HasForm f w
has_form f [] h = empty_word f h
has_form f (c ∷ w) h = from_after f c w (has_form (after c f) w h)

pub form_matches : (f : Form) (w : List ℕ) → HasForm f w → matches f w ≡ true
form_matches f [] h = is_nullable f [] h refl
form_matches f (c ∷ w) h = form_matches (after c f) w (to_after f (c ∷ w) h c w refl)

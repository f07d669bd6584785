-- Lists of tokens that end in other tokens.
use Rattle.std.proofs.Common.{◌≡◌, ℕ, [], ◌∷◌, ◌++◌, length, refl, sym, ap, subst, ◌∙◌, arith, length-append}
use Rattle.go_tree.specs.declared.spans.Span.{Span}
use Rattle.go_tree.specs.GoWords.Terminals.{Terminal, Lexeme, lex, comma, paren, end_paren, bracket, key_map, key_struct}
use Rattle.go_read.specs.SpellsTypes.{Lexemes}
use Rattle.go_read.specs.Spells.{starts_type, follows_type}
use Rattle.splice_laws.specs.Replaced.{respan}

abbrev pub U : Type 0
U = Unit {0}

-- both begin with the same terminal, or neither has one
abbrev pub Like : Lexemes → Lexemes → Type 0
Like [] [] = Unit {0}
Like [] (y ∷ us) = ⊥
Like (x ∷ ts) [] = ⊥
Like (lex _ x ∷ ts) (lex _ y ∷ us) = x ≡ y

-- the second is the first with what stands behind some tokens replaced
pub data Graft (r q : Lexemes) : Lexemes → Lexemes → Type 0 where
  base : Graft r q r q
  step : {t : Lexeme} {ts us : Lexemes} → Graft r q ts us → Graft r q (t ∷ ts) (t ∷ us)

pub joined : {m n r q ts us : Lexemes} → Graft m n ts us → Graft r q m n → Graft r q ts us
joined base g = g
joined (step f) g = step (joined f g)

pub alike : {r q ts us : Lexemes} → Graft r q ts us → Like r q → Like ts us
alike base k = k
alike (step {t = lex s x} g) k = refl

pub like_own : (ts : Lexemes) → Like ts ts
like_own [] = tt
like_own (lex s x ∷ ts) = refl

-- the second tokens are the first, or these stand at their end
pub data Within (us : Lexemes) : Lexemes → Type 0 where
  here : Within us us
  later : {t : Lexeme} {ts : Lexemes} → Within us ts → Within us (t ∷ ts)

pub drop : {t : Lexeme} {us ts : Lexemes} → Within (t ∷ us) ts → Within us ts
drop here = later here
drop (later x) = later (drop x)

pub both_within : {vs us ts : Lexemes} → Within vs us → Within us ts → Within vs ts
both_within x here = x
both_within x (later y) = later (both_within x y)

-- ---- as lists in front

pub fronts : {r q ts us : Lexemes} → Graft r q ts us → (front : Lexemes) × (ts ≡ front ++ r) × (us ≡ front ++ q)
fronts base = ([], refl, refl)
fronts (step {t = t} g) = let f = fronts g in (t ∷ f.0, ap (λ (xs : Lexemes). t ∷ xs) f.1, ap (λ (xs : Lexemes). t ∷ xs) f.2)

-- the tokens in front
abbrev pub front_of : {r q ts us : Lexemes} → Graft r q ts us → Lexemes
front_of base = []
front_of (step {t = t} g) = t ∷ front_of g

pub fronts_are : {r q ts us : Lexemes} (g : Graft r q ts us) → (fronts g).0 ≡ front_of g
unfolding fronts
fronts_are base = refl
fronts_are (step {t = t} g) = ap (λ (xs : Lexemes). t ∷ xs) (fronts_are g)

pub front_joined : {m n r q ts us : Lexemes} (f : Graft m n ts us) (g : Graft r q m n) → front_of (joined f g) ≡ front_of f ++ front_of g
unfolding joined
front_joined base g = refl
front_joined (step {t = t} f) g = ap (λ (xs : Lexemes). t ∷ xs) (front_joined f g)

longer : (xs r : Lexemes) (x : Lexeme) → (x ∷ xs) ++ r ≡ r → ⊥
longer xs r x e = let n = ap length e in let m = length-append (x ∷ xs) r in absurd (omega (arith, n, m))

pub one_front : (xs ys r : Lexemes) → xs ++ r ≡ ys ++ r → xs ≡ ys
one_front [] [] r e = refl
one_front [] (y ∷ ys) r e = absurd (longer ys r y (sym e))
one_front (x ∷ xs) [] r e = absurd (longer xs r x e)
one_front (x ∷ xs) (y ∷ ys) r e =
    let h : x ≡ y = cc in
    let t : xs ++ r ≡ ys ++ r = cc in
    ap (λ (z : Lexeme). z ∷ xs) h ∙ ap (λ (zs : Lexemes). y ∷ zs) (one_front xs ys r t)

-- a part that may be followed by other tokens that begin alike, and one that may be followed by any
abbrev pub Framed : (Lexemes → Lexemes → Type 0) → Lexemes → Lexemes → Type 0
Framed A ts r = (q : Lexemes) → Like r q → (us : Lexemes) × Graft r q ts us × A us q

abbrev pub Free : (Lexemes → Lexemes → Type 0) → Lexemes → Lexemes → Type 0
Free A ts r = (q : Lexemes) → (us : Lexemes) × Graft r q ts us × A us q

pub at_token : (A : Lexemes → Lexemes → Type 0) (e : Span) (x : Terminal) (ts r q : Lexemes) → Like (lex e x ∷ r) q
    → ((s : Span) (p : Lexemes) → (us : Lexemes) × Graft (lex e x ∷ r) (lex s x ∷ p) ts us × A us (lex s x ∷ p)) → (us : Lexemes) × Graft (lex e x ∷ r) q ts us × A us q
at_token A e x ts r [] k h = absurd k
at_token A e x ts r (lex s y ∷ p) k h = subst (λ (z : Terminal). (us : Lexemes) × Graft (lex e x ∷ r) (lex s z ∷ p) ts us × A us (lex s z ∷ p)) k (h s p)

starts_one : (x : Terminal) (a b : Span) (ts us : Lexemes) → starts_type (lex a x ∷ ts) ≡ starts_type (lex b x ∷ us)
starts_one bracket a b ts us = refl
starts_one key_map a b ts us = refl
starts_one key_struct a b ts us = refl
starts_one _ a b ts us = refl

pub starts_alike : (ts us : Lexemes) → Like ts us → starts_type us ≡ starts_type ts
starts_alike [] [] k = refl
starts_alike [] (y ∷ us) k = absurd k
starts_alike (x ∷ ts) [] k = absurd k
starts_alike (lex a x ∷ ts) (lex b y ∷ us) k = subst (λ (z : Terminal). starts_type (lex b z ∷ us) ≡ starts_type (lex a x ∷ ts)) k (starts_one x b a us ts)

follows_one : (x : Terminal) (a b : Span) (ts us : Lexemes) → follows_type (lex a x ∷ ts) ≡ follows_type (lex b x ∷ us)
follows_one paren a b ts us = refl
follows_one comma a b ts us = refl
follows_one end_paren a b ts us = refl
follows_one _ a b ts us = refl

pub follows_alike : (ts us : Lexemes) → Like ts us → follows_type us ≡ follows_type ts
follows_alike [] [] k = refl
follows_alike [] (y ∷ us) k = absurd k
follows_alike (x ∷ ts) [] k = absurd k
follows_alike (lex a x ∷ ts) (lex b y ∷ us) k = subst (λ (z : Terminal). follows_type (lex b z ∷ us) ≡ follows_type (lex a x ∷ ts)) k (follows_one x b a us ts)

pub respan_like : (at : ℕ → Span) (ts : Lexemes) → Like ts (respan at ts)
respan_like at [] = tt
respan_like at (lex s x ∷ ts) = refl

-- Arguments and their parameters: which argument stands for a name, and what is known of the body that uses them.
use Rattle.std.proofs.Common.{◌≡◌, ℕ, ◌+◌, ◌≤◌, ◌<◌, List, [], ◌∷◌, ◌++◌, Bool, true, false, true≢false, if◌then◌else◌, Option, refl, sym, ap, ◌∙◌, subst, arith}
use Rattle.std.specs.Prelude.{bytes_eq}
use Rattle.go_kernel.specs.Kernel.{Name, Reason, Op, Term, Vals, Local, Both, Prim as Prim', If, Program, spare}
use Rattle.go_kernel.specs.Scope.{has}
use Rattle.go_kernel.specs.Arguments.{Arg, arg, names_of, args_of, rest, choose}
use Rattle.go_kernel.proofs.FreshNames.{height, name_neq, name_true}
use Rattle.go_kernel.proofs.FrameFacts.{by_has, has_none}
use Rattle.go_kernel.proofs.TermConditions.{Fit, keep}
use Rattle.go_kernel.proofs.WithinProgram as Sim
use Rattle.go_kernel.proofs.WithinProgram.{Way, Moves, All}
use Rattle.go_kernel.proofs.PlacedAlike.{Expr}
use Rattle.go_kernel.proofs.Looks

abbrev pub Every : (Arg → Type 0) → List Arg → Type 0
Every Q [] = Unit {0}
Every Q (o ∷ os) = Q o × Every Q os

abbrev pub Distinct : List Arg → Type 0
Distinct [] = Unit {0}
Distinct (arg x a fr c ∷ os) = (has x (names_of os) ≡ false) × Distinct os

abbrev pub Low : ℕ → List Name → Type 0
Low N g = (w : Name) → has w g ≡ true → height w < N

-- a chosen argument does not name x
abbrev pub Unread : Name → Arg → Type 0
Unread x (arg z a fr c) = c ≡ true → has x fr ≡ false

-- the name of one that stays bound is not among these
abbrev pub Unbound : List Name → Arg → Type 0
Unbound fr (arg z a fr' c) = c ≡ false → has z fr ≡ false

-- where z stands for a chosen argument, g captures none of its names
abbrev pub Clear : List Name → Name → Arg → Type 0
Clear g z (arg x a fr c) = c ≡ true → bytes_eq z x ≡ true → (w : Name) → has w fr ≡ true → has w g ≡ false

abbrev pub NotChosen : Name → Arg → Type 0
NotChosen z (arg x a fr c) = c ≡ true → bytes_eq z x ≡ false

pub below_neq : (a b : Name) → height a < height b → bytes_eq a b ≡ false
below_neq a b h = name_neq a b (λ e. let h' : height b < height b = subst (λ z. height z < height b) e h in omega arith)

pub above_neq : (a b : Name) → height b < height a → bytes_eq a b ≡ false
above_neq a b h = name_neq a b (λ e. let h' : height b < height b = subst (λ z. height b < height z) e h in omega arith)

-- a list of names that are all below has none above
pub low_none : (N : ℕ) (g : List Name) (w : Name) → Low N g → N ≤ height w → has w g ≡ false
low_none N g w l h = by_has (has w g) (λ e. let k : height w < N = l w e in let no : ⊥ = omega arith in absurd no) (λ e. e)

pub data Cases (Q : Arg → Type 0) (os : List Arg) (z : Name) : Type 0 where
  hit : (x : Name) (a : Term) (fr : List Name) → Q (arg x a fr true) → bytes_eq z x ≡ true → ((σ : Name → Term) → choose os σ z ≡ a) → Cases Q os z
  miss : ((σ : Name → Term) → choose os σ z ≡ σ z) → Cases Q os z

pub choose_cases : (Q : Arg → Type 0) (os : List Arg) → Every Q os → (z : Name) → Cases Q os z
choose_cases Q [] q z = miss (λ σ. refl)
choose_cases Q (arg x a fr false ∷ os) q z = go (choose_cases Q os q.1 z)
  where
    go : Cases Q os z → Cases Q (arg x a fr false ∷ os) z
    go (hit y b f r e h) = hit y b f r e h
    go (miss h) = miss h
choose_cases Q (arg x a fr true ∷ os) q z = go (bytes_eq z x) refl (choose_cases Q os q.1 z)
  where
    go : (c : Bool) → bytes_eq z x ≡ c → Cases Q os z → Cases Q (arg x a fr true ∷ os) z
    go true e r = hit x a fr q.0 e (λ σ. ap (λ c. if c then a else choose os σ z) e)
    go false e (hit y b f r d h) = hit y b f r d (λ σ. ap (λ c. if c then a else choose os σ z) e ∙ h σ)
    go false e (miss h) = miss (λ σ. ap (λ c. if c then a else choose os σ z) e ∙ h σ)

-- a name that none of them has
pub choose_none : (os : List Arg) (z : Name) (σ : Name → Term) → has z (names_of os) ≡ false → choose os σ z ≡ σ z
choose_none [] z σ h = refl
choose_none (arg x a fr c ∷ os) z σ h = go (bytes_eq z x) refl h c (choose_none os z σ)
  where
    go : (b : Bool) → bytes_eq z x ≡ b → (if b then true else has z (names_of os)) ≡ false → (c : Bool) → (has z (names_of os) ≡ false → choose os σ z ≡ σ z) → choose (arg x a fr c ∷ os) σ z ≡ σ z
    go true e h c r = absurd (true≢false h)
    go false e h true r = ap (λ c. if c then a else choose os σ z) e ∙ r h
    go false e h false r = r h

pub choose_unchosen : (os : List Arg) (z : Name) (σ : Name → Term) → Every (NotChosen z) os → choose os σ z ≡ σ z
choose_unchosen [] z σ h = refl
choose_unchosen (arg x a fr true ∷ os) z σ h = ap (λ c. if c then a else choose os σ z) (h.0 refl) ∙ choose_unchosen os z σ h.1
choose_unchosen (arg x a fr false ∷ os) z σ h = choose_unchosen os z σ h.1

-- the name of one that stays bound
pub unbound_has : (fr : List Name) (os : List Arg) (z : Name) → Every (Unbound fr) os → Every (NotChosen z) os → has z (names_of os) ≡ true → has z fr ≡ false
unbound_has fr [] z u n h = absurd (true≢false (sym h))
unbound_has fr (arg x a f c ∷ os) z u n h = go (bytes_eq z x) refl h c u.0 n.0 (unbound_has fr os z u.1 n.1)
  where
    go : (b : Bool) → bytes_eq z x ≡ b → (if b then true else has z (names_of os)) ≡ true → (c : Bool) → (c ≡ false → has x fr ≡ false) → (c ≡ true → bytes_eq z x ≡ false) → (has z (names_of os) ≡ true → has z fr ≡ false) → has z fr ≡ false
    go true e h true u n r = absurd (true≢false (sym e ∙ n refl))
    go true e h false u n r = subst (λ w. has w fr ≡ false) (sym (name_true z x e)) (u refl)
    go false e h c u n r = r h

pub rest_has : (os : List Arg) (z : Name) → has z (names_of os) ≡ false → has z (names_of (rest os)) ≡ false
rest_has [] z h = refl
rest_has (arg x a fr c ∷ os) z h = go (bytes_eq z x) refl h c (rest_has os z)
  where
    go : (b : Bool) → bytes_eq z x ≡ b → (if b then true else has z (names_of os)) ≡ false → (c : Bool) → (has z (names_of os) ≡ false → has z (names_of (rest os)) ≡ false) → has z (names_of (rest (arg x a fr c ∷ os))) ≡ false
    go true e h c r = absurd (true≢false h)
    go false e h true r = r h
    go false e h false r = ap (λ b. if b then true else has z (names_of (rest os))) e ∙ r h

-- none of the names that stay bound is among these
pub rest_clear : (fr : List Name) (os : List Arg) → Every (Unbound fr) os → (w : Name) → has w fr ≡ true → has w (names_of (rest os)) ≡ false
rest_clear fr [] u w h = refl
rest_clear fr (arg x a f true ∷ os) u w h = rest_clear fr os u.1 w h
rest_clear fr (arg x a f false ∷ os) u w h = ap (λ b. if b then true else has w (names_of (rest os))) (name_neq w x (λ e. true≢false (sym h ∙ subst (λ z. has z fr ≡ false) (sym e) (u.0 refl)))) ∙ rest_clear fr os u.1 w h

pub every_rest : (Q : Arg → Type 0) (os : List Arg) → Every Q os → Every Q (rest os)
every_rest Q [] q = tt
every_rest Q (arg x a fr true ∷ os) q = every_rest Q os q.1
every_rest Q (arg x a fr false ∷ os) q = (q.0, every_rest Q os q.1)

pub every_map : {Q R : Arg → Type 0} (os : List Arg) → ((o : Arg) → Q o → R o) → Every Q os → Every R os
every_map [] f q = tt
every_map (o ∷ os) f q = (f o q.0, every_map os f q.1)

pub every_both : (Q R : Arg → Type 0) (os : List Arg) → Every Q os → Every R os → Every (λ o. Q o × R o) os
every_both Q R [] q r = tt
every_both Q R (o ∷ os) q r = ((q.0, r.0), every_both Q R os q.1 r.1)

-- each free name of an argument is good
abbrev pub Goods : (Name → Type 0) → Arg → Type 0
Goods G (arg x a fr c) = (w : Name) → has w fr ≡ true → G w

module _ (P : Program) (N0 : ℕ) where
  -- an argument gives one value, and assigns no variable that is not its own; 'recover' stands in one that stays bound alone
  abbrev pub Own : Arg → Type 0
  Own (arg x a fr c) = Expr P 1 a × Fit (λ h w. has w fr ≡ true) (λ h w. ⊥) (λ o. Unit {0}) (Unit {0}) (if c then false else true) [] a × Low N0 fr × (height x < N0)

  abbrev pub Known : List Name → List Name → Name → Type 0
  Known all g z = (has z all ≡ true) × ((w : Name) → N0 ≤ height w → has w g ≡ false)

  -- what stands for a parameter on the way: its own name, or a new one
  pub data Stands (σ : Name → Term) (N : ℕ) (os : List Arg) (z : Name) : Type 0 where
    mine : has z (names_of os) ≡ true → height z < N0 → σ z ≡ Local z → Stands σ N os z
    past : (w : Name) → has z (names_of os) ≡ false → N0 ≤ height w → height w < N → σ z ≡ Local w → Stands σ N os z

  abbrev pub put_in : Name → Term → (Name → Term) → Name → Term
  put_in x t σ z = if bytes_eq z x then t else σ z

  pub put_hit : (x : Name) (t : Term) (σ : Name → Term) (z : Name) → bytes_eq z x ≡ true → put_in x t σ z ≡ t
  put_hit x t σ z e = ap (λ c. if c then t else σ z) e

  pub put_miss : (x : Name) (t : Term) (σ : Name → Term) (z : Name) → bytes_eq z x ≡ false → put_in x t σ z ≡ σ z
  put_miss x t σ z e = ap (λ c. if c then t else σ z) e

  pub next : (σ : Name → Term) (N : ℕ) (x : Name) (a : Term) (fr : List Name) (c : Bool) (os : List Arg) (z : Name) → N0 ≤ N → has x (names_of os) ≡ false → Stands σ N (arg x a fr c ∷ os) z → Stands (put_in x (Local (spare N)) σ) (N + 1) os z
  next σ N x a fr c os z l d s = go (bytes_eq z x) refl s
    where
      go : (b : Bool) → bytes_eq z x ≡ b → Stands σ N (arg x a fr c ∷ os) z → Stands (put_in x (Local (spare N)) σ) (N + 1) os z
      go true e s = past (spare N) (subst (λ w. has w (names_of os) ≡ false) (sym (name_true z x e)) d) l (omega arith) (put_hit x (Local (spare N)) σ z e)
      go false e (mine h m q) = mine (sym (ap (λ b. if b then true else has z (names_of os)) e) ∙ h) m (put_miss x (Local (spare N)) σ z e ∙ q)
      go false e (past w h m k q) = past w (sym (ap (λ b. if b then true else has z (names_of os)) e) ∙ h) m (omega arith) (put_miss x (Local (spare N)) σ z e ∙ q)

  -- moves of a name that stands for a parameter, and of the chosen arguments as they are
  module _ (W : Way) (bound_read : (g : List Name) (x : Name) → has x g ≡ true → W.Reads g x) (bound_set : (g : List Name) (x : Name) → has x g ≡ true → W.Sets g x)
      (does : (o : Op) → W.Does o) (writes : W.Writes) (Good : Name → Type 0) (reads : (g : List Name) (w : Name) → has w g ≡ false → Good w → W.Reads g w) where
    -- an argument
    pub arg_keeps : {p p' : Option Reason} (r0 r : Bool) → (r0 ≡ true → r ≡ true) → (g : List Name) (a : Term) (fr : List Name) → Fit (λ h w. has w fr ≡ true) (λ h w. ⊥) (λ o. Unit {0}) (Unit {0}) r0 [] a → ((w : Name) → has w fr ≡ true → Good w) → Moves W p p' r g a a
    arg_keeps r0 r i g a fr f h = keep W _ _ bound_read bound_set (λ h w. has w fr ≡ true) (λ h w. ⊥) (λ o. Unit {0}) (Unit {0}) (λ o q. does o) (λ q. writes) g (λ k x m u. read' k x (h x u)) (λ k x m s. absurd s) a r0 r i [] f
      where
        read' : (k : List Name) (x : Name) → Good x → W.Reads (k ++ g) x
        read' k x q = by_has (has x (k ++ g)) (λ e. bound_read (k ++ g) x e) (λ e. reads (k ++ g) x e q)

    pub args_keep : {p p' : Option Reason} (g : List Name) (os : List Arg) → Every Own os → Every (Goods Good) os → Moves W p p' true g (args_of os) (args_of os)
    args_keep g [] q h = Sim.vals
    args_keep g (arg x a fr c ∷ os) q h = Sim.both (arg_keeps (if c then false else true) true (λ e. refl) g a fr q.0.1 h.0) (args_keep g os q.1 h.1)

    pub name_keeps : {p p' : Option Reason} (r : Bool) (g : List Name) (w : Name) → Good w → Moves W p p' r g (Local w) (Local w)
    name_keeps r g w q = Sim.local (by_has (has w g) (λ e. bound_read g w e) (λ e. reads g w e q))

  pub moves_by : {W : Way} {p p' : Option Reason} {r : Bool} {g : List Name} (t t' u u' : Term) → t ≡ u → t' ≡ u' → Moves W p p' r g u u' → Moves W p p' r g t t'
  moves_by {W} {p} {p'} {r} {g} t t' u u' e e' m = subst (λ z. Moves W p p' r g z t') (sym e) (subst (λ z. Moves W p p' r g u z) (sym e') m)

  pub all_by : {W : Way} {p p' : Option Reason} {g xs ys : List Name} (n n' m m' : Name) → n ≡ m → n' ≡ m' → All W p p' g (m ∷ xs) (m' ∷ ys) → All W p p' g (n ∷ xs) (n' ∷ ys)
  all_by {W} {p} {p'} {g} {xs} {ys} n n' m m' e e' q = subst (λ z. All W p p' g (z ∷ xs) (n' ∷ ys)) (sym e) (subst (λ z. All W p p' g (m ∷ xs) (z ∷ ys)) (sym e') q)

  -- facts on the step
  pub names_low : (os : List Arg) (y : Name) → Every Own os → N0 ≤ height y → has y (names_of os) ≡ false
  names_low [] y q h = refl
  names_low (arg x a fr c ∷ os) y q h = ap (λ b. if b then true else has y (names_of os)) (let l : height x < N0 = q.0.3 in above_neq y x (omega arith)) ∙ names_low os y q.1 h

  pub low_goods : (os : List Arg) (y : Name) → Every Own os → N0 ≤ height y → Every (Goods (λ w. bytes_eq w y ≡ false)) os
  low_goods [] y q h = tt
  low_goods (arg x a fr c ∷ os) y q h = (λ w m. (let l : height w < N0 = q.0.2 w m in below_neq w y (omega arith)), low_goods os y q.1 h)

  abbrev pub BodyUse : List Name → List Arg → List Name → Name → Type 0
  BodyUse all os g z = Known all g z × Every (Clear g z) os

  abbrev pub BodySet : List Name → List Arg → List Name → Name → Type 0
  BodySet all os g z = Known all g z × Every (NotChosen z) os

  abbrev pub Body : List Name → List Arg → Term → Type 0
  Body all os b = Fit (BodyUse all os) (BodySet all os) (λ o. Unit {0}) (Unit {0}) true [] b

  pub agree : (x y : Name) (a : Term) (fr : List Name) (σ : Name → Term) (os : List Arg) (z : Name) → put_in x a (choose os (put_in x (Local y) σ)) z ≡ choose (arg x a fr true ∷ os) σ z
  agree x y a fr σ os z = go (bytes_eq z x) refl
    where
      all_true : (os : List Arg) → Every (λ o. Unit {0}) os
      all_true [] = tt
      all_true (o ∷ os) = (tt, all_true os)

      same : bytes_eq z x ≡ false → Cases (λ o. Unit {0}) os z → choose os (put_in x (Local y) σ) z ≡ choose os σ z
      same e (hit z' b f q d p) = p (put_in x (Local y) σ) ∙ sym (p σ)
      same e (miss p) = p (put_in x (Local y) σ) ∙ put_miss x (Local y) σ z e ∙ sym (p σ)

      go : (c : Bool) → bytes_eq z x ≡ c → (if c then a else choose os (put_in x (Local y) σ) z) ≡ (if c then a else choose os σ z)
      go true e = refl
      go false e = same e (choose_cases (λ o. Unit {0}) os (all_true os) z)

  pub pointwise : (f g : Name → Term) → ((z : Name) → f z ≡ g z) → f ≡ g
  pointwise f g p = λ i z. p z i

  -- the locals of a looking argument are free names of it
  pub looks_free : (a : Term) (fr : List Name) → Looks.Looks a → Fit (λ h w. has w fr ≡ true) (λ h w. ⊥) (λ o. Unit {0}) (Unit {0}) false [] a → (w : Name) → has w (Looks.locals a) ≡ true → has w fr ≡ true
  looks_free (Vals v) fr s f w h = absurd (true≢false (sym h))
  looks_free (Local y) fr s f w h = go (bytes_eq w y) refl h
    where
      go : (b : Bool) → bytes_eq w y ≡ b → (if b then true else false) ≡ true → has w fr ≡ true
      go true e h = subst (λ z. has z fr ≡ true) (sym (name_true w y e)) (f refl)
      go false e h = absurd (true≢false (sym h))
  looks_free (Both a b) fr s f w h = by_has (has w (Looks.locals a)) (λ e. looks_free a fr s.0 f.0 w e) (λ e. by_has (has w (Looks.locals b)) (λ d. looks_free b fr s.1 f.1 w d) (λ d. absurd (true≢false (sym h ∙ has_none w (Looks.locals a) (Looks.locals b) e d))))
  looks_free (Prim' o a) fr s f w h = looks_free a fr s.2 f.1 w h
  looks_free (If d a b) fr s f w h =
      by_has (has w (Looks.locals d)) (λ e. looks_free d fr s.0 f.0 w e) (λ e. by_has (has w (Looks.locals a)) (λ k. looks_free a fr s.1 f.1 w k) (λ k. by_has (has w (Looks.locals b)) (λ m. looks_free b fr s.2 f.2 w m)
      (λ m. absurd (true≢false (sym h ∙ has_none w (Looks.locals d) (Looks.locals a ++ Looks.locals b) e (has_none w (Looks.locals a) (Looks.locals b) k m))))))
  looks_free _ fr s f w h = absurd s

  pub not_has : (g l : List Name) → ((w : Name) → has w l ≡ true → has w g ≡ true) → (w : Name) → has w g ≡ false → has w l ≡ false
  not_has g l i w h = by_has (has w l) (λ e. absurd (true≢false (sym (i w e) ∙ h))) (λ e. e)

-- When a chosen argument may move to its parameter's uses: what each class asks of the body and of the later arguments.
use Rattle.std.proofs.Common.{◌≡◌, ℕ, List, [], ◌∷◌, length, Bool, true, false, true≢false, if◌then◌else◌, None, refl, sym, ◌∙◌, subst}
use Rattle.std.specs.Prelude.{bytes_eq}
use Rattle.go_kernel.specs.Kernel.{Name, FuncName, Value, effect, Term, Frame, Deferred, Store, State, Program, Gives, picks, free_level}
use Rattle.go_kernel.specs.Arguments.{Arg, arg, rest}
use Rattle.go_kernel.proofs.TermConditions.{Fit}
use Rattle.go_kernel.proofs.PlacedAlike as Place
use Rattle.go_kernel.proofs.PlacedAlike.{Expr, Good, expr_at, one_value}
use Rattle.go_kernel.proofs.Parameters.{Every, Unread, Unbound, Own}
use Rattle.go_kernel.specs.Classes.{looks, steady}
use Rattle.go_kernel.specs.Items.{Item, Param, Read, Fail, Write, Stop, is_stop, uses}
use Rattle.go_kernel.proofs.DeepItems.{deep, seen}
use Rattle.go_kernel.proofs.Looks

-- a chosen argument among these, used as z, that does not only look
abbrev pub acting_at : List Arg → Name → Bool
acting_at [] z = false
acting_at (arg x a fr true ∷ os) z = if bytes_eq z x then (if looks a then acting_at os z else true) else acting_at os z
acting_at (arg x a fr false ∷ os) z = acting_at os z

-- what a looking argument must not be moved past
abbrev pub no_look : List Arg → Item → Bool
no_look os (Param z) = acting_at os z
no_look os Read = false
no_look os Fail = false
no_look os Write = true
no_look os Stop = true

pub no_look_stop : (os : List Arg) (i : Item) → is_stop i ≡ true → no_look os i ≡ true
no_look_stop os Stop h = refl
no_look_stop os _ h = absurd (true≢false (sym h))

-- a chosen argument among these, used as z, that is not steady
abbrev pub unsteady_at : List Arg → Name → Bool
unsteady_at [] z = false
unsteady_at (arg x a fr true ∷ os) z = if bytes_eq z x then (if steady a then unsteady_at os z else true) else unsteady_at os z
unsteady_at (arg x a fr false ∷ os) z = unsteady_at os z

-- what an acting argument must not be moved past
abbrev pub no_act : List Arg → Item → Bool
no_act os (Param z) = unsteady_at os z
no_act os _ = true

pub no_act_stop : (os : List Arg) (i : Item) → is_stop i ≡ true → no_act os i ≡ true
no_act_stop os Stop h = refl
no_act_stop os _ h = absurd (true≢false (sym h))

-- one that stays bound only looks
abbrev pub Calm : Arg → Type 0
Calm (arg x a fr c) = c ≡ false → looks a ≡ true

-- one that stays bound is steady
abbrev pub Still : Arg → Type 0
Still (arg x a fr c) = c ≡ false → steady a ≡ true

abbrev pub OnlyLooks : Arg → Type 0
OnlyLooks (arg x a fr c) = looks a ≡ true

-- a term that writes nothing, and one that assigns no variable of which it is not the owner
abbrev pub NoWrite : Term → Type 0
NoWrite b = Fit (λ g z. Unit {0}) (λ g z. Unit {0}) (λ o. (effect o).writes ≡ false) ⊥ true [] b

abbrev pub NoFreeSet : Term → Type 0
NoFreeSet b = Fit (λ g z. Unit {0}) (λ g z. ⊥) (λ o. Unit {0}) (Unit {0}) true [] b

-- what each class asks for
pub data Movable (b : Term) (x : Name) (a : Term) (os : List Arg) : Type 0 where
  steady_one : steady a ≡ true → Movable b x a os
  -- all uses are listed before the first write, and before each use of a chosen argument that does not only look; what is bound after it only looks
  looks_first : looks a ≡ true → Every Calm os → seen (no_look os) (no_look_stop os) x (deep [] b) ≡ uses x [] b → Movable b x a os
  -- the body writes nothing, and no later argument does more than look
  looks_all : looks a ≡ true → Every OnlyLooks os → NoWrite b → Movable b x a os
  -- the one use is listed before all else that a part of the program could see, and before each use of a chosen argument that is not steady; what is bound after it is steady; and the body assigns none but variables of its own
  acts_first : Every Still os → seen (no_act os) (no_act_stop os) x (deep [] b) ≡ 1 → uses x [] b ≡ 1 → NoFreeSet b → Movable b x a os

abbrev pub Choice : Term → List Arg → Type 0
Choice b [] = Unit {0}
Choice b (arg x a fr true ∷ os) = Every (Unbound fr) os × Movable b x a os × Choice b os
Choice b (arg x a fr false ∷ os) = Every (Unread x) os × Choice b os

module _ (P : Program) (N0 : ℕ) where
  module _ (free : FuncName → Bool) (A : ℕ) where
    of_good : {ds : List Deferred} {v : List Value} {s : State} → Good P 1 ds (Gives v s) → length v ≡ 1
    of_good (Place.gives l d) = l

    pub looks_single : (a : Term) → Expr P 1 a → Looks.Looks a → (F : Frame) (c : Store) → (v : Value) × (Looks.value_in a F c ≡ v ∷ [])
    looks_single a e q F c =
        let s : State = record { frame = F; store = c; pending = None; defers = []; out = [] } in
        one_value (Looks.value_in a F c) (of_good (subst (λ r. Good P 1 [] r) (Looks.looks_value P (picks P free (free_level P free A 0) 0) (free_level P free A 0) a q s) (expr_at P free A 1 0 0 a e s)))

  abbrev pub OnUse' : (Arg → Type 0) → Name → Arg → Type 0
  OnUse' fine z (arg x a fr c) = c ≡ true → bytes_eq z x ≡ true → fine (arg x a fr c)

  abbrev pub OwnLook : Arg → Type 0
  OwnLook (arg x a fr c) = (Own P N0) (arg x a fr c) × (looks a ≡ true)

  pub calm_rest : (os : List Arg) → Every (Own P N0) os → Every Calm os → Every OwnLook (rest os)
  calm_rest [] q c = tt
  calm_rest (arg x a fr true ∷ os) q c = calm_rest os q.1 c.1
  calm_rest (arg x a fr false ∷ os) q c = ((q.0, c.0 refl), calm_rest os q.1 c.1)

  pub own_looks : (os : List Arg) → Every (Own P N0) os → Every OnlyLooks os → Every OwnLook os
  own_looks [] q c = tt
  own_looks (arg x a fr d ∷ os) q c = ((q.0, c.0), own_looks os q.1 c.1)

  pub no_clash : (os : List Arg) (z : Name) → Every (Own P N0) os → acting_at os z ≡ false → Every (OnUse' OwnLook z) os
  no_clash [] z q h = tt
  no_clash (arg x a fr false ∷ os) z q h = ((λ e. absurd (true≢false (sym e))), no_clash os z q.1 h)
  no_clash (arg x a fr true ∷ os) z q h = go (bytes_eq z x) refl (looks a) refl h (no_clash os z q.1)
    where
      go : (c : Bool) → bytes_eq z x ≡ c → (d : Bool) → looks a ≡ d → (if c then (if d then acting_at os z else true) else acting_at os z) ≡ false → (acting_at os z ≡ false → Every (OnUse' OwnLook z) os) → Every (OnUse' OwnLook z) (arg x a fr true ∷ os)
      go true e true l h r = ((λ i j. (q.0, l)), r h)
      go true e false l h r = absurd (true≢false h)
      go false e d l h r = ((λ i j. absurd (true≢false (sym j ∙ e))), r h)

  abbrev pub OwnStill : Arg → Type 0
  OwnStill (arg x a fr c) = (Own P N0) (arg x a fr c) × (steady a ≡ true)

  pub still_rest : (os : List Arg) → Every (Own P N0) os → Every Still os → Every OwnStill (rest os)
  still_rest [] q c = tt
  still_rest (arg x a fr true ∷ os) q c = still_rest os q.1 c.1
  still_rest (arg x a fr false ∷ os) q c = ((q.0, c.0 refl), still_rest os q.1 c.1)

  pub no_clash_act : (os : List Arg) (z : Name) → Every (Own P N0) os → unsteady_at os z ≡ false → Every (OnUse' OwnStill z) os
  no_clash_act [] z q h = tt
  no_clash_act (arg x a fr false ∷ os) z q h = ((λ e. absurd (true≢false (sym e))), no_clash_act os z q.1 h)
  no_clash_act (arg x a fr true ∷ os) z q h = go (bytes_eq z x) refl (steady a) refl h (no_clash_act os z q.1)
    where
      go : (c : Bool) → bytes_eq z x ≡ c → (d : Bool) → steady a ≡ d → (if c then (if d then unsteady_at os z else true) else unsteady_at os z) ≡ false → (unsteady_at os z ≡ false → Every (OnUse' OwnStill z) os) → Every (OnUse' OwnStill z) (arg x a fr true ∷ os)
      go true e true l h r = ((λ i j. (q.0, l)), r h)
      go true e false l h r = absurd (true≢false h)
      go false e d l h r = ((λ i j. absurd (true≢false (sym j ∙ e))), r h)

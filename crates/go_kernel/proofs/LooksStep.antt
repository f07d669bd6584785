-- The step of an argument that looks: its uses stand before all that it must not be moved past, or nothing writes.
use Rattle.std.proofs.Common.{◌≡◌, ℕ, zero, ◌+◌, ◌≤◌, ◌<◌, List, [], ◌∷◌, ◌++◌, Bool, true, false, true≢false, if◌then◌else◌, None, refl, sym, ap, ◌∙◌, subst, arith, append_assoc}
use Rattle.std.specs.Prelude.{bytes_eq}
use Rattle.go_kernel.specs.Kernel.{Name, FuncName, Effect, effect, Term, Vals, Local, Set, Both, Prim as Prim', If, Let, Loop, Leave, Catch, Within, Alone, Recover, Call, Defer, DeferLit, Program}
use Rattle.go_kernel.specs.Scope.{has}
use Rattle.go_kernel.specs.Substitution.{names_at, sub}
use Rattle.go_kernel.specs.Arguments.{Arg, arg, names_of, args_of, rest, choose}
use Rattle.go_kernel.proofs.FreshNames.{height}
use Rattle.go_kernel.proofs.FrameFacts.{by_has, has_one}
use Rattle.go_kernel.proofs.TermConditions as Fits
use Rattle.go_kernel.proofs.TermConditions.{Fit, keep, fit_map, fit_both}
use Rattle.go_kernel.proofs.Inserted
use Rattle.go_kernel.proofs.WithinProgram as Sim
use Rattle.go_kernel.proofs.WithinProgram.{Way, Moves, All}
use Rattle.go_kernel.proofs.Means.{Mean}
use Rattle.go_kernel.proofs.Parameters.{Every, Low, Unbound, NotChosen, below_neq, every_rest, every_map, Own, put_in, arg_keeps, names_low, BodyUse, BodySet, Body, looks_free, not_has}
use Rattle.go_kernel.proofs.PlacingStep.{OnUse, MayUse, MaySet, all_move, part_moves}
use Rattle.go_kernel.proofs.Movability.{no_look, no_look_stop, Calm, looks_single, OnUse', OwnLook, calm_rest, no_clash}
use Rattle.go_kernel.specs.Classes.{looks}
use Rattle.go_kernel.specs.Items.{Item, Param, Read, Fail, Write, Stop, join, effect_items, uses}
use Rattle.go_kernel.proofs.DeepItems as Listing
use Rattle.go_kernel.proofs.DeepItems.{deep, seen, seen_le, clean, split, Split, goes_on, ends, alone}
use Rattle.go_kernel.proofs.ItemConditions.{unused_fit, clean_fit, calm_fit}
use Rattle.go_kernel.proofs.Looks
use Rattle.go_kernel.proofs.Table.{keeps_memory_is}
use Rattle.go_kernel.proofs.Front
use Rattle.go_kernel.proofs.Front.{front_moves}

-- the step: parameter x, renamed to y, has the chosen argument a, and the later arguments os; σ says what stands for the other names
module _ (P : Program) (N0 : ℕ) (free : FuncName → Bool) (A : ℕ) (all : List Name) (b : Term) (y : Name) (y_high : N0 ≤ height y) (σ : Name → Term) (x : Name) (a : Term) (fr : List Name) (os : List Arg) (own_x : Own P N0 (arg x a fr true)) (own : Every (Own P N0) os)
    (x_other : has x (names_of os) ≡ false) (unbound : Every (Unbound fr) os) (at_y : σ x ≡ Local y)
    (stands : (z : Name) → has z all ≡ true → bytes_eq z x ≡ false → (w : Name) × (σ z ≡ Local w) × (bytes_eq w y ≡ false) × (bytes_eq y w ≡ false) × (Every (NotChosen z) os → has w fr ≡ false)) (body : Body P N0 all (arg x a fr true ∷ os) b) where
  y_rest : has y (names_of (rest os)) ≡ false
  y_rest = names_low P N0 (rest os) y (every_rest (Own P N0) os own) y_high

  abbrev Fits' : List Name → Term → Type 0
  Fits' g t = Fit (BodyUse P N0 all (arg x a fr true ∷ os)) (BodySet P N0 all (arg x a fr true ∷ os)) (λ o. Unit {0}) (Unit {0}) true g t

  set_of' : (g : List Name) (z : Name) → BodySet P N0 all (arg x a fr true ∷ os) g z → MaySet P N0 all x y a fr y_high σ os x_other unbound y_rest at_y stands g z
  set_of' g z u = (u.0, u.1.0 refl, u.1.1)

  owned' : (z : Name) (o : Arg) → Own P N0 o → OnUse P N0 all x y a fr y_high σ os x_other unbound y_rest at_y stands (Own P N0) z o
  owned' z (arg z' c f d) q = λ i e. q

  apart : (w : Name) → height w < N0 → bytes_eq w y ≡ false
  apart w l = below_neq w y (omega arith)

  -- a looking argument
  module _ (q : Looks.Looks a) where
    abbrev Q : Way
    Q = Front.Q y a q

    abbrev D : Way
    D = Front.dropped y

    abbrev hard : Item → Bool
    hard = no_look os

    abbrev seen' : List Item → ℕ
    seen' = seen hard (no_look_stop os) x

    arg_quiet : (c : Term) (f : List Name) (r0 : Bool) → looks c ≡ true → Fit (λ h w. has w f ≡ true) (λ h w. ⊥) (λ o. Unit {0}) (Unit {0}) r0 [] c → Low N0 f → (r : Bool) → (r0 ≡ true → r ≡ true) → (g : List Name) → Moves Q None None r g c c
    arg_quiet c f r0 l k low r i g =
        keep Q None None (λ g w h. Inserted.bound h) (λ g w h. Inserted.bound h) (λ h w. has w f ≡ true) (λ h w. ⊥) (λ o. (effect o).writes ≡ false) ⊥ (λ o h. keeps_memory_is o h) (λ e. e) g
        (λ k w m u. read (k ++ g) w (apart w (low w u))) (λ k w m s. absurd s) c r0 r i [] (calm_fit _ _ c r0 l k)
      where
        read : (g : List Name) (w : Name) → bytes_eq w y ≡ false → Inserted.Reads (Front.kept y a q) g w
        read g w n = by_has (has w g) (λ h. Inserted.bound h) (λ h. Inserted.other h (has_one w y n))

    args_quiet : (g : List Name) (os : List Arg) → Every (OwnLook P N0) os → Moves Q None None true g (args_of os) (args_of os)
    args_quiet g [] o = Sim.vals
    args_quiet g (arg z c f d ∷ os) o = Sim.both (arg_quiet c f (if d then false else true) o.0.1 o.0.0.1 o.0.0.2 true (λ e. refl) g) (args_quiet g os o.1)

    -- a part in which the parameter is not used
    rest_of : (t : Term) (g : List Name) → uses x g t ≡ 0 → Fits' g t → Moves D None None true (g ++ (names_of (rest os) ++ [])) (sub (choose os σ) g t) (sub ((put_in P N0) x a (choose os σ)) g t)
    rest_of t g n f =
        (part_moves P N0) all x y a fr y_high σ os x_other unbound y_rest at_y stands D (λ g w h. Inserted.bound h) (λ g w h. Inserted.bound h) (λ g w h n. Inserted.other h (has_one w y n)) (λ g w h n m l. Inserted.other h (has_one w y n) tt)
        (λ o. Unit {0}) (Unit {0}) (λ o u. tt) (λ u. tt) ⊥ (λ v r g h k. absurd v) (Own P N0)
        (λ z c f o r g. (arg_keeps P N0) D (λ g w h. Inserted.bound h) (λ g w h. Inserted.bound h) (λ o. tt) tt (λ w. bytes_eq w y ≡ false) (λ g w h n. Inserted.other h (has_one w y n)) false r (λ e. absurd (true≢false (sym e))) g c f o.1 (λ w m. apart w (o.2 w m)))
        t true g (fit_map (λ g z u. (u.0.0, (λ e. absurd (true≢false (sym e ∙ u.1))), every_map os (owned' z) own)) set_of' (λ o u. u) (λ u. u) t true g (unused_fit ((BodyUse P N0) all (arg x a fr true ∷ os)) ((BodySet P N0) all (arg x a fr true ∷ os)) (λ o. Unit {0}) (Unit {0}) x t true g n f))

    -- a part that keeps the store
    quietly : (t : Term) (g : List Name) → Fit (λ g z. (BodyUse P N0) all (arg x a fr true ∷ os) g z × Every ((OnUse' P N0) (OwnLook P N0) z) os) ((BodySet P N0) all (arg x a fr true ∷ os)) (λ o. (effect o).writes ≡ false) ⊥ true g t
        → Moves Q None None true (g ++ (names_of (rest os) ++ [])) (sub (choose os σ) g t) (sub ((put_in P N0) x a (choose os σ)) g t)
    quietly t g f =
        (part_moves P N0) all x y a fr y_high σ os x_other unbound y_rest at_y stands Q (λ g w h. Inserted.bound h) (λ g w h. Inserted.bound h) (λ g w h n. Inserted.other h (has_one w y n))
        (λ g w h n m l. Inserted.other h (has_one w y n) ((not_has P N0) fr (Looks.locals a) ((looks_free P N0) a fr q own_x.1) w l))
        (λ o. (effect o).writes ≡ false) ⊥ (λ o u. keeps_memory_is o u) (λ u. u) (Unit {0}) (λ v r g h k. Sim.base (Looks.use_x h (λ w m. k w ((looks_free P N0) a fr q own_x.1 w m)))) (OwnLook P N0)
        (λ z c f o r g. arg_quiet c f false o.1 o.0.1 o.0.2 r (λ e. absurd (true≢false (sym e))) g)
        t true g (fit_map (λ g z u. (u.0.0, (λ e. (tt, λ w m. u.0.1.0 refl e w m)), u.1)) set_of' (λ o u. u) (λ u. u) t true g f)

    soft_keeps : (e : Effect) → clean hard (no_look_stop os) x (effect_items e) ≡ true → e.writes ≡ false
    soft_keeps e h = go e.may_panic e.writes h
      where
        go : (c w : Bool) → clean hard (no_look_stop os) x (if c then Fail ∷ (if w then Write ∷ [] else if e.reads then Read ∷ [] else []) else if w then Write ∷ [] else if e.reads then Read ∷ [] else []) ≡ true → w ≡ false
        go true true h = absurd (true≢false (sym h))
        go false true h = absurd (true≢false (sym h))
        go c false h = refl

    quiet_of : (t : Term) (g : List Name) → clean hard (no_look_stop os) x (deep g t) ≡ true → Fits' g t → Moves Q None None true (g ++ (names_of (rest os) ++ [])) (sub (choose os σ) g t) (sub ((put_in P N0) x a (choose os σ)) g t)
    quiet_of t g n f =
        quietly t g (fit_map (λ g z u. (u.0, (no_clash P N0) os z own u.1)) (λ g z u. u) (λ o u. soft_keeps (effect o) u.1) (λ u. u) t true g (clean_fit ((BodyUse P N0) all (arg x a fr true ∷ os)) ((BodySet P N0) all (arg x a fr true ∷ os)) (λ o. Unit {0}) (Unit {0}) x hard (no_look_stop os) refl t true g n f))

    abbrev Fronts : List Name → Term → Type 0
    Fronts g t = Front.Front y a q (g ++ (names_of (rest os) ++ [])) (sub (choose os σ) g t) (sub ((put_in P N0) x a (choose os σ)) g t)

    local_front : (g : List Name) (z : Name) → seen' (deep g (Local z)) ≡ uses x g (Local z) → Fits' g (Local z) → Fronts g (Local z)
    local_front g z n f = go (has z g) refl (hard (Param z)) refl (bytes_eq z x) refl n
      where
        go : (c : Bool) → has z g ≡ c → (d : Bool) → hard (Param z) ≡ d → (e : Bool) → bytes_eq z x ≡ e
            → seen' (if c then [] else Param z ∷ []) ≡ (if c then 0 else if e then 1 else 0) → Fronts g (Local z)
        go true h d i e j n = Front.unused (rest_of (Local z) g (ap (λ c. if c then 0 else if bytes_eq z x then 1 else 0) h) f)
        go false h d i false j n = Front.unused (rest_of (Local z) g (ap (λ c. if c then 0 else if bytes_eq z x then 1 else 0) h ∙ ap (λ c. if c then 1 else 0) j) f)
        go false h true i true j n = let m : 0 ≡ 1 = sym (ap (λ c. if c then 0 else is_one + 0) i) ∙ n in let no : ⊥ = omega (arith, m) in absurd no
          where
            is_one : ℕ
            is_one = Listing.is_param x (Param z)
        go false h false i true j n = Front.quiet (quiet_of (Local z) g (ap (λ c. clean hard (no_look_stop os) x (if c then [] else Param z ∷ [])) h ∙ ap (λ c. if c then false else true) i) f)

    le : (t : Term) (g : List Name) → seen' (deep g t) ≤ uses x g t
    le = seen_le hard (no_look_stop os) x

    abbrev Halves : List Item → List Item → ℕ → ℕ → Type 0
    Halves = Split hard (no_look_stop os) x

    halves : (I J : List Item) (m n : ℕ) → seen' I ≤ m → seen' J ≤ n → seen' (join I J) ≡ m + n → (seen' I ≡ m) × Halves I J m n
    halves = split hard (no_look_stop os) x

    only : (I J : List Item) (m : ℕ) → seen' I ≤ m → seen' J ≡ 0 → seen' (join I J) ≡ m → seen' I ≡ m
    only = alone hard (no_look_stop os) x

    no_stop : seen' (Stop ∷ []) ≡ 0
    no_stop = Listing.seen_stop' hard (no_look_stop os) x

    stopped_half : (I : List Item) (m n : ℕ) → Halves I (Stop ∷ []) m n → n ≡ 0
    stopped_half I m n (goes_on l k) = sym k ∙ no_stop
    stopped_half I m n (ends k) = k

    sets_to : (g xs : List Name) → Fits.Sets ((BodyUse P N0) all (arg x a fr true ∷ os)) ((BodySet P N0) all (arg x a fr true ∷ os)) (λ o. Unit {0}) (Unit {0}) g xs → Fits.Sets ((MayUse P N0) all x y a fr y_high σ os x_other unbound y_rest at_y stands (λ o. ⊥) ⊥) ((MaySet P N0) all x y a fr y_high σ os x_other unbound y_rest at_y stands) (λ o. Unit {0}) (Unit {0}) g xs
    sets_to g [] f = tt
    sets_to g (z ∷ xs) f = ((λ e. set_of' g z (f.0 e)), sets_to g xs f.1)

    sets_front : (g xs : List Name) → Fits.Sets ((BodyUse P N0) all (arg x a fr true ∷ os)) ((BodySet P N0) all (arg x a fr true ∷ os)) (λ o. Unit {0}) (Unit {0}) g xs → All D None None (g ++ (names_of (rest os) ++ [])) (names_at (choose os σ) g xs) (names_at ((put_in P N0) x a (choose os σ)) g xs)
    sets_front g xs f =
        (all_move P N0) all x y a fr y_high σ os x_other unbound y_rest at_y stands D (λ g w h. Inserted.bound h) (λ g w h. Inserted.bound h) (λ g w h n. Inserted.other h (has_one w y n)) (λ g w h n m l. Inserted.other h (has_one w y n) tt)
        (λ o. Unit {0}) (Unit {0}) (λ o u. tt) (λ u. tt) ⊥ (λ v r g h k. absurd v) (λ o. ⊥) (λ z c f o r g. absurd o) g xs
        (sets_to g xs f)

    both_front : (g : List Name) (c d : Term) → Halves (deep g c) (deep g d) (uses x g c) (uses x g d) → Fits' g (Both c d) → Fronts g c → (seen' (deep g d) ≡ uses x g d → Fronts g d) → Fronts g (Both c d)
    both_front g c d (goes_on l k) f i j = Front.second (quiet_of c g l f.0) (j k)
    both_front g c d (ends k) f i j = Front.first i (rest_of d g k f.1)

    let_front : (g xs : List Name) (c d : Term) → Halves (deep g c) (deep (xs ++ g) d) (uses x g c) (uses x (xs ++ g) d) → Fits' g (Let xs c d) → Fronts g c → (seen' (deep (xs ++ g) d) ≡ uses x (xs ++ g) d → Fronts (xs ++ g) d) → Fronts g (Let xs c d)
    let_front g xs c d (goes_on l k) f i j = Front.under (quiet_of c g l f.0) (subst (λ z. Front.Front y a q z (sub (choose os σ) (xs ++ g) d) (sub ((put_in P N0) x a (choose os σ)) (xs ++ g) d)) (append_assoc xs g (names_of (rest os) ++ [])) (j k))
    let_front g xs c d (ends k) f i j = Front.bound i (subst (λ z. Moves D None None true z (sub (choose os σ) (xs ++ g) d) (sub ((put_in P N0) x a (choose os σ)) (xs ++ g) d)) (append_assoc xs g (names_of (rest os) ++ [])) (rest_of d (xs ++ g) k f.1))

    front_of : (t : Term) (g : List Name) → seen' (deep g t) ≡ uses x g t → Fits' g t → Fronts g t
    front_of (Vals v) g n f = Front.unused (rest_of (Vals v) g refl f)
    front_of (Local z) g n f = local_front g z n f
    front_of (Set xs c) g n f = Front.in_set (sets_front g xs f.0) (front_of c g n f.1)
    front_of (Both c d) g n f = let h = halves (deep g c) (deep g d) (uses x g c) (uses x g d) (le c g) (le d g) n in both_front g c d h.1 f (front_of c g h.0 f.0) (λ k. front_of d g k f.1)
    front_of (Prim' o c) g n f = Front.in_prim (front_of c g (only (deep g c) (effect_items (effect o)) (uses x g c) (le c g) (Listing.seen_effect hard (no_look_stop os) x (effect o)) n) f.1)
    front_of (If c d e) g n f =
        let h = halves (deep g c) (Stop ∷ []) (uses x g c) (uses x g d + uses x g e) (le c g) (let z = no_stop in omega (arith, z)) n in
        let k = stopped_half (deep g c) (uses x g c) (uses x g d + uses x g e) h.1 in
        Front.in_if (front_of c g h.0 f.0) (rest_of d g (omega (arith, k)) f.1) (rest_of e g (omega (arith, k)) f.2)
    front_of (Let xs c d) g n f = let h = halves (deep g c) (deep (xs ++ g) d) (uses x g c) (uses x (xs ++ g) d) (le c g) (le d (xs ++ g)) n in let_front g xs c d h.1 f (front_of c g h.0 f.0) (λ k. front_of d (xs ++ g) k f.1)
    front_of (Loop c d) g n f = Front.unused (rest_of (Loop c d) g (sym n ∙ no_stop) f)
    front_of (Leave l) g n f = Front.unused (rest_of (Leave l) g refl f)
    front_of (Catch l c) g n f = Front.in_catch (front_of c g (only (deep g c) (Stop ∷ []) (uses x g c) (le c g) no_stop n) f)
    front_of (Within c rs) g n f = Front.in_within (Fits.slots_fit D None None (λ g w h. Inserted.bound h) (λ g w h. Inserted.bound h) rs (g ++ (names_of (rest os) ++ [])) (Fits.slots_in rs g (names_of (rest os) ++ []) f.0)) (front_of c g (only (deep g c) (Stop ∷ []) (uses x g c) (le c g) no_stop n) f.1)
    front_of (Alone c) g n f = Front.in_alone (front_of c g (only (deep g c) (Stop ∷ []) (uses x g c) (le c g) no_stop n) f)
    front_of Recover g n f = Front.unused (rest_of Recover g refl f)
    front_of (Call h c) g n f = Front.in_call (front_of c g (only (deep g c) (Write ∷ []) (uses x g c) (le c g) (Listing.seen_write' hard (no_look_stop os) x) n) f.1)
    front_of (Defer h c) g n f = Front.unused (rest_of (Defer h c) g (sym n ∙ no_stop) f)
    front_of (DeferLit xs c d) g n f = Front.unused (rest_of (DeferLit xs c d) g (sym n ∙ no_stop) f)

  pub looks_step : (q : Looks.Looks a) → Every Calm os → seen (no_look os) (no_look_stop os) x (deep [] b) ≡ uses x [] b → Mean P free A zero (Let (y ∷ []) a (Let (names_of (rest os)) (args_of (rest os)) (sub (choose os σ) [] b))) (Let (names_of (rest os)) (args_of (rest os)) (sub ((put_in P N0) x a (choose os σ)) [] b))
  looks_step q c n = front_moves y a q P free A _ _ (Front.under (args_quiet q [] (rest os) ((calm_rest P N0) os own c)) (front_of q b [] n body)) ((looks_single P N0 free A) a own_x.0 q)

  every_free : (z : Name) (os : List Arg) → Every (OwnLook P N0) os → Every ((OnUse' P N0) (OwnLook P N0) z) os
  every_free z [] o = tt
  every_free z (arg z' c f d ∷ os) o = ((λ i j. o.0), every_free z os o.1)

  pub all_step : (q : Looks.Looks a) → Every (OwnLook P N0) os → Fit (λ g z. Unit {0}) (λ g z. Unit {0}) (λ o. (effect o).writes ≡ false) ⊥ true [] b → Mean P free A zero (Let (y ∷ []) a (Let (names_of (rest os)) (args_of (rest os)) (sub (choose os σ) [] b))) (Let (names_of (rest os)) (args_of (rest os)) (sub ((put_in P N0) x a (choose os σ)) [] b))
  all_step q c f =
      let kept = fit_map {U' = λ g z. (BodyUse P N0) all (arg x a fr true ∷ os) g z × Every ((OnUse' P N0) (OwnLook P N0) z) os} {S' = (BodySet P N0) all (arg x a fr true ∷ os)} {O' = λ o. (effect o).writes ≡ false} {K' = ⊥} (λ g z u. (u.0, every_free z os c)) (λ g z u. u.0) (λ o u. u.1) (λ u. u.1) b true []
      (fit_both ((BodyUse P N0) all (arg x a fr true ∷ os)) ((BodySet P N0) all (arg x a fr true ∷ os)) (λ g z. Unit {0}) (λ g z. Unit {0}) (λ o. Unit {0}) (λ o. (effect o).writes ≡ false) (Unit {0}) ⊥ b true [] body f) in
      front_moves y a q P free A _ _ (Front.under (args_quiet q [] (rest os) (every_rest (OwnLook P N0) os c)) (Front.quiet (quietly q b [] kept))) ((looks_single P N0 free A) a own_x.0 q)

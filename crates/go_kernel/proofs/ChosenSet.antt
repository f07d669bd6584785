-- Several arguments at once: the chosen ones take their parameters' places, the others stay bound; from the last to the first.
use Rattle.std.proofs.Common.{◌≡◌, ℕ, zero, ◌+◌, ◌≤◌, ◌<◌, List, [], ◌∷◌, Bool, true, false, true≢false, if◌then◌else◌, Option, refl, sym, ap, ◌∙◌, subst, arith}
use Rattle.std.specs.Prelude.{bytes_eq}
use Rattle.go_kernel.specs.Kernel.{Name, FuncName, Value, Reason, Term, Local, Let, Frame, Program, spare}
use Rattle.go_kernel.specs.Scope.{has}
use Rattle.go_kernel.specs.Substitution.{sub}
use Rattle.go_kernel.specs.Arguments.{Arg, arg, names_of, args_of, rest, choose}
use Rattle.go_kernel.proofs.FreshNames.{height, name_self}
use Rattle.go_kernel.proofs.FrameFacts.{has_one}
use Rattle.go_kernel.proofs.TermConditions.{Fit, fit_map}
use Rattle.go_kernel.proofs.Inserted
use Rattle.go_kernel.proofs.Inserted.{way, fixed}
use Rattle.go_kernel.proofs.WithinProgram.{Moves}
use Rattle.go_kernel.proofs.PlacedAlike.{Expr}
use Rattle.go_kernel.proofs.Means.{Mean, mean_refl, mean_sym, mean_trans, mean_let}
use Rattle.go_kernel.proofs.Parameters.{Every, Distinct, Low, Unbound, NotChosen, below_neq, above_neq, low_none, unbound_has, rest_has, every_rest, Own, Known, Stands, mine, past, put_in, put_hit, put_miss, next, args_keep, names_low, low_goods, Body, agree, pointwise}
use Rattle.go_kernel.proofs.Movability.{Movable, steady_one, looks_first, looks_all, acts_first, Choice, own_looks}
use Rattle.go_kernel.proofs.DeepItems.{looks_is, steady_is}
use Rattle.go_kernel.proofs.DeepItems.{steady_looks}
use Rattle.go_kernel.proofs.SteadyStep.{steady_step}
use Rattle.go_kernel.proofs.LooksStep.{looks_step, all_step}
use Rattle.go_kernel.proofs.ActsStep.{acts_step}
use Rattle.go_kernel.proofs.RenamingStep.{renamed}
use Rattle.go_kernel.proofs.BindFirst.{peels}

module _ (P : Program) (N0 : ℕ) (free : FuncName → Bool) (A : ℕ) (all : List Name) where
  -- the step, by class
  module _ (b : Term) (y : Name) (y_high : N0 ≤ height y) (σ : Name → Term) (x : Name) (a : Term) (fr : List Name) (os : List Arg) (own_x : (Own P N0) (arg x a fr true)) (own : Every (Own P N0) os) (x_other : has x (names_of os) ≡ false) (unbound : Every (Unbound fr) os) (at_y : σ x ≡ Local y)
      (stands : (z : Name) → has z all ≡ true → bytes_eq z x ≡ false → (w : Name) × (σ z ≡ Local w) × (bytes_eq w y ≡ false) × (bytes_eq y w ≡ false) × (Every (NotChosen z) os → has w fr ≡ false)) (body : (Body P N0) all (arg x a fr true ∷ os) b) where
    move : Movable b x a os → Mean P free A zero (Let (y ∷ []) a (Let (names_of (rest os)) (args_of (rest os)) (sub (choose os σ) [] b))) (Let (names_of (rest os)) (args_of (rest os)) (sub ((put_in P N0) x a (choose os σ)) [] b))
    move (steady_one q) = steady_step P N0 free A all b y y_high σ x a fr os own_x own x_other unbound at_y stands body (looks_is a (steady_looks a q)) (steady_is a q)
    move (acts_first c n m f) = acts_step P N0 free A all b y y_high σ x a fr os own_x own x_other unbound at_y stands body c n m f
    move (looks_first q c n) = looks_step P N0 free A all b y y_high σ x a fr os own_x own x_other unbound at_y stands body (looks_is a q) c n
    move (looks_all q c f) = all_step P N0 free A all b y y_high σ x a fr os own_x own x_other unbound at_y stands body (looks_is a q) ((own_looks P N0) os own c) f

  in_aside : (y : Name) (os : List Arg) → N0 ≤ height y → Every (Own P N0) os → (F : Frame) (v : Value) (p : Option Reason) → Moves (way (fixed ((y, v) ∷ []) F)) p p true [] (args_of os) (args_of os)
  in_aside y os l own F v p =
      (args_keep P N0) (way (fixed ((y, v) ∷ []) F)) (λ g x h. Inserted.bound h) (λ g x h. Inserted.bound h) (λ o. tt) tt (λ w. bytes_eq w y ≡ false) (λ g w h n. Inserted.other h (has_one w y n)) [] os own ((low_goods P N0) os y own l)

  args_expr : (os : List Arg) → Every (Own P N0) os → (k : ℕ) × Expr P k (args_of os)
  args_expr [] q = (0, refl)
  args_expr (arg x a fr c ∷ os) q = let r = args_expr os q.1 in (1 + r.0, (1, r.0, refl, q.0.0, r.1))

  -- the law of the chosen set, for a set of which each step moves
  module _ (b : Term) where
    stands_peel : (σ : Name → Term) (N : ℕ) (x : Name) (a : Term) (fr : List Name) (c : Bool) (os : List Arg) → N0 ≤ N → height x < N0 → ((z : Name) → has z all ≡ true → (Stands P N0) σ N (arg x a fr c ∷ os) z)
        → (z : Name) → has z all ≡ true → bytes_eq z x ≡ false → (w : Name) × (σ z ≡ Local w) × (bytes_eq w x ≡ false) × (bytes_eq w (spare N) ≡ false)
    stands_peel σ N x a fr c os l m s z k e = go (s z k)
      where
        go : (Stands P N0) σ N (arg x a fr c ∷ os) z → (w : Name) × (σ z ≡ Local w) × (bytes_eq w x ≡ false) × (bytes_eq w (spare N) ≡ false)
        go (mine h i q) = (z, q, e, below_neq z (spare N) (omega arith))
        go (past w h i j q) = (w, q, above_neq w x (omega arith), below_neq w (spare N) j)

    stands_move : (σ : Name → Term) (N : ℕ) (x : Name) (a : Term) (fr : List Name) (os : List Arg) → N0 ≤ N → Low N0 fr → Every (Unbound fr) os → ((z : Name) → has z all ≡ true → (Stands P N0) σ N (arg x a fr true ∷ os) z)
        → (z : Name) → has z all ≡ true → bytes_eq z x ≡ false → (w : Name) × ((put_in P N0) x (Local (spare N)) σ z ≡ Local w) × (bytes_eq w (spare N) ≡ false) × (bytes_eq (spare N) w ≡ false) × (Every (NotChosen z) os → has w fr ≡ false)
    stands_move σ N x a fr os l low u s z k e = go (s z k)
      where
        go : (Stands P N0) σ N (arg x a fr true ∷ os) z → (w : Name) × ((put_in P N0) x (Local (spare N)) σ z ≡ Local w) × (bytes_eq w (spare N) ≡ false) × (bytes_eq (spare N) w ≡ false) × (Every (NotChosen z) os → has w fr ≡ false)
        go (mine h i q) = (z, (put_miss P N0) x (Local (spare N)) σ z e ∙ q, below_neq z (spare N) (omega arith), above_neq (spare N) z (omega arith), λ n. unbound_has fr os z u n (sym (ap (λ b. if b then true else has z (names_of os)) e) ∙ h))
        go (past w h i j q) = (w, (put_miss P N0) x (Local (spare N)) σ z e ∙ q, below_neq w (spare N) j, above_neq (spare N) w j, λ n. low_none N0 fr w low i)

    stands_here : (σ : Name → Term) (N : ℕ) (x : Name) (a : Term) (fr : List Name) (c : Bool) (os : List Arg) → (Stands P N0) σ N (arg x a fr c ∷ os) x → σ x ≡ Local x
    stands_here σ N x a fr c os (mine h i q) = q
    stands_here σ N x a fr c os (past w h i j q) = absurd (true≢false (sym (ap (λ b. if b then true else has x (names_of os)) (name_self x)) ∙ h))

    tail_body : (x : Name) (a : Term) (fr : List Name) (c : Bool) (os : List Arg) → (Body P N0) all (arg x a fr c ∷ os) b → (Body P N0) all os b
    tail_body x a fr c os f = fit_map (λ g z u. (u.0, u.1.1)) (λ g z u. (u.0, u.1.1)) (λ o u. u) (λ u. u) b true [] f

    plain_body : (os : List Arg) → (Body P N0) all os b → Fit ((Known P N0) all) (λ g z. (Known P N0) all g z × Every (NotChosen z) os) (λ o. Unit {0}) (Unit {0}) true [] b
    plain_body os f = fit_map (λ g z u. u.0) (λ g z u. u) (λ o u. u) (λ u. u) b true [] f

    bare_body : (os : List Arg) → (Body P N0) all os b → Fit ((Known P N0) all) (λ g z. (Known P N0) all g z × Every (NotChosen z) []) (λ o. Unit {0}) (Unit {0}) true [] b
    bare_body os f = fit_map (λ g z u. u.0) (λ g z u. (u.0, tt)) (λ o u. u) (λ u. u) b true [] f

    abbrev Whole : (Name → Term) → List Arg → Term
    Whole σ os = Let (names_of os) (args_of os) (sub σ [] b)

    abbrev Parts : (Name → Term) → List Arg → Term
    Parts σ os = Let (names_of (rest os)) (args_of (rest os)) (sub (choose os σ) [] b)

    first : (σ : Name → Term) (N : ℕ) (x : Name) (a : Term) (fr : List Name) (c : Bool) (os : List Arg) → N0 ≤ N → Every (Own P N0) (arg x a fr c ∷ os) → Distinct (arg x a fr c ∷ os) → ((z : Name) → has z all ≡ true → (Stands P N0) σ N (arg x a fr c ∷ os) z) → has x all ≡ true → (Body P N0) all (arg x a fr c ∷ os) b
        → Mean P free A zero (Whole σ (arg x a fr c ∷ os)) (Let (spare N ∷ []) a (Whole ((put_in P N0) x (Local (spare N)) σ) os))
    first σ N x a fr c os l own d s k f =
        let r = args_expr os own.1 in
        peels x (spare N) (names_of os) d.0 ((names_low P N0) os (spare N) own.1 l) P free A (sub σ [] b) (sub ((put_in P N0) x (Local (spare N)) σ) [] b)
        ((renamed P N0) all x (spare N) (names_of os) d.0 ((names_low P N0) os (spare N) own.1 l) own.0.3 l σ [] tt tt refl (stands_here σ N x a fr c os (s x k)) (stands_peel σ N x a fr c os l own.0.3 s) (λ o. Unit {0}) (Unit {0}) b (bare_body (arg x a fr c ∷ os) f))
        a (args_of os) own.0.0 r.0 r.1 (in_aside (spare N) os l own.1)

    pub chosen_set : (os : List Arg) (σ : Name → Term) (N : ℕ) → N0 ≤ N → Every (Own P N0) os → Distinct os → Every (λ o. has (elim o as (λ o. Name) [ arg x a fr c ↦ x ]) all ≡ true) os → ((z : Name) → has z all ≡ true → (Stands P N0) σ N os z) → Choice b os → (Body P N0) all os b
        → Mean P free A zero (Whole σ os) (Parts σ os)
    chosen_set [] σ N l own d k s ch f = mean_refl P free A zero (Whole σ [])
    chosen_set (arg x a fr true ∷ os) σ N l own d k s ch f =
        let σ1 = (put_in P N0) x (Local (spare N)) σ in
        let one = first σ N x a fr true os l own d s k.0 f in
        let ih = chosen_set os σ1 (N + 1) (omega arith) own.1 d.1 k.1 (λ z h. (next P N0) σ N x a fr true os z l d.0 (s z h)) ch.2 (tail_body x a fr true os f) in
        let two = mean_let P free A zero (spare N ∷ []) a (Whole σ1 os) (Parts σ1 os) ih in
        let step = move b (spare N) l σ1 x a fr os own.0 own.1 d.0 ch.0 ((put_hit P N0) x (Local (spare N)) σ x (name_self x)) (stands_move σ N x a fr os l own.0.2 ch.0 s) f ch.1 in
        let three = subst (λ τ. Mean P free A zero (Let (spare N ∷ []) a (Parts σ1 os)) (Let (names_of (rest os)) (args_of (rest os)) (sub τ [] b))) ((pointwise P N0) ((put_in P N0) x a (choose os σ1)) (choose (arg x a fr true ∷ os) σ) ((agree P N0) x (spare N) a fr σ os)) step in
        mean_trans P free A zero (Whole σ (arg x a fr true ∷ os)) (Let (spare N ∷ []) a (Parts σ1 os)) (Parts σ (arg x a fr true ∷ os)) (mean_trans P free A zero (Whole σ (arg x a fr true ∷ os)) (Let (spare N ∷ []) a (Whole σ1 os)) (Let (spare N ∷ []) a (Parts σ1 os)) one two) three
    chosen_set (arg x a fr false ∷ os) σ N l own d k s ch f =
        let σ1 = (put_in P N0) x (Local (spare N)) σ in
        let one = first σ N x a fr false os l own d s k.0 f in
        let ih = chosen_set os σ1 (N + 1) (omega arith) own.1 d.1 k.1 (λ z h. (next P N0) σ N x a fr false os z l d.0 (s z h)) ch.1 (tail_body x a fr false os f) in
        let two = mean_let P free A zero (spare N ∷ []) a (Whole σ1 os) (Parts σ1 os) ih in
        let own_rest = every_rest (Own P N0) os own.1 in
        let r = args_expr (rest os) own_rest in
        let back = peels x (spare N) (names_of (rest os)) (rest_has os x d.0) ((names_low P N0) (rest os) (spare N) own_rest l) P free A (sub (choose os σ) [] b) (sub (choose os σ1) [] b)
        ((renamed P N0) all x (spare N) (names_of (rest os)) (rest_has os x d.0) ((names_low P N0) (rest os) (spare N) own_rest l) own.0.3 l σ os own.1 ch.0 d.0 (stands_here σ N x a fr false os (s x k.0)) (stands_peel σ N x a fr false os l own.0.3 s) (λ o. Unit {0}) (Unit {0}) b (plain_body os (tail_body x a fr false os f)))
        a (args_of (rest os)) own.0.0 r.0 r.1 (in_aside (spare N) (rest os) l own_rest) in
        mean_trans P free A zero (Whole σ (arg x a fr false ∷ os)) (Let (spare N ∷ []) a (Parts σ1 os)) (Parts σ (arg x a fr false ∷ os)) (mean_trans P free A zero (Whole σ (arg x a fr false ∷ os)) (Let (spare N ∷ []) a (Whole σ1 os)) (Let (spare N ∷ []) a (Parts σ1 os)) one two)
        (mean_sym P free A zero (Parts σ (arg x a fr false ∷ os)) (Let (spare N ∷ []) a (Parts σ1 os)) back)

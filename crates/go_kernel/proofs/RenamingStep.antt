-- The step in which a parameter gets a new name and is bound before the others.
use Rattle.std.proofs.Common.{◌≡◌, ℕ, ◌≤◌, ◌<◌, List, [], ◌∷◌, ◌++◌, Bool, true, false, true≢false, None, refl, sym, ap, ◌∙◌, subst, arith}
use Rattle.std.specs.Prelude.{bytes_eq}
use Rattle.go_kernel.specs.Kernel.{Name, Op, Term, Local, Program}
use Rattle.go_kernel.specs.Scope.{has}
use Rattle.go_kernel.specs.Substitution.{name_of, sub}
use Rattle.go_kernel.specs.Arguments.{Arg, names_of, choose}
use Rattle.go_kernel.proofs.FreshNames.{height, name_neq, name_true}
use Rattle.go_kernel.proofs.FrameFacts.{by_has, has_none}
use Rattle.go_kernel.proofs.TermConditions.{Fit, lift}
use Rattle.go_kernel.proofs.WithinProgram as Sim
use Rattle.go_kernel.proofs.WithinProgram.{Way, Moves, All}
use Rattle.go_kernel.proofs.Parameters.{Every, Unread, NotChosen, below_neq, Cases, hit, miss, choose_cases, choose_none, choose_unchosen, every_both, Own, Known, put_in, put_hit, put_miss, arg_keeps, name_keeps, moves_by, all_by}
use Rattle.go_kernel.proofs.BindFirst as Peel
use Rattle.go_kernel.proofs.BindFirst.{peeled}

module _ (P : Program) (N0 : ℕ) where
  -- the step in which a parameter gets a new name y and is bound before the others
  module _ (all : List Name) (x y : Name) (xs : List Name) (x_new : has x xs ≡ false) (y_new : has y xs ≡ false) (x_low : height x < N0) (y_high : N0 ≤ height y) (σ : Name → Term) (os : List Arg) (own : Every (Own P N0) os) (unread : Every (Unread x) os)
      (x_other : has x (names_of os) ≡ false) (at_x : σ x ≡ Local x)
      (stands : (z : Name) → has z all ≡ true → bytes_eq z x ≡ false → (w : Name) × (σ z ≡ Local w) × (bytes_eq w x ≡ false) × (bytes_eq w y ≡ false)) where
    abbrev pub new : Name → Term
    new = (put_in P N0) x (Local y) σ

    abbrev pub way' : Way
    way' = peeled x y xs x_new y_new

    abbrev Good' : Name → Type 0
    Good' w = (bytes_eq w x ≡ false) × (bytes_eq w y ≡ false)

    reads' : (g : List Name) (w : Name) → has w g ≡ false → Good' w → Peel.Names x y xs x_new y_new g w
    reads' g w h q = Peel.other h q.0 q.1

    at_new : (z : Name) → bytes_eq z x ≡ true → (τ : Name → Term) → choose os τ z ≡ τ z
    at_new z e τ = choose_none os z τ (subst (λ w. has w (names_of os) ≡ false) (sym (name_true z x e)) x_other)

    uses' : (r : Bool) (g : List Name) (z : Name) → has z g ≡ false → (Known P N0) all g z → Moves way' None None r (g ++ []) (choose os σ z) (choose os new z)
    uses' r g z h u = by_has (bytes_eq z x) same other'
      where
        same : bytes_eq z x ≡ true → Moves way' None None r (g ++ []) (choose os σ z) (choose os new z)
        same e =
            let here = at_new z e σ ∙ ap σ (name_true z x e) ∙ at_x in
            let there = at_new z e new ∙ (put_hit P N0) x (Local y) σ z e in
            let clear : has x (g ++ []) ≡ false = has_none x g [] (subst (λ w. has w g ≡ false) (name_true z x e) h) refl in
            (moves_by P N0) _ _ (Local x) (Local y) here there (Sim.base (Peel.use_x clear (has_none y g [] (u.1 y y_high) refl)))

        other' : bytes_eq z x ≡ false → Moves way' None None r (g ++ []) (choose os σ z) (choose os new z)
        other' e = go (choose_cases (λ o. (Own P N0) o × Unread x o) os (every_both (Own P N0) (Unread x) os own unread) z) (stands z u.0 e)
          where
            go : Cases (λ o. (Own P N0) o × Unread x o) os z → (w : Name) × (σ z ≡ Local w) × (bytes_eq w x ≡ false) × (bytes_eq w y ≡ false) → Moves way' None None r (g ++ []) (choose os σ z) (choose os new z)
            go (hit z' a fr q d f) s =
                (moves_by P N0) _ _ a a (f σ) (f new) ((arg_keeps P N0) way' (λ g x h. Peel.bound h) (λ g x h. Peel.bound h) (λ o. tt) tt Good' reads' false r (λ e. absurd (true≢false (sym e))) (g ++ []) a fr q.0.1
                (λ w m. (name_neq w x (λ e. true≢false (sym m ∙ subst (λ v. has v fr ≡ false) (sym e) (q.1 refl))), let l : height w < N0 = q.0.2 w m in below_neq w y (omega arith))))
            go (miss f) s = (moves_by P N0) _ _ (Local s.0) (Local s.0) (f σ ∙ s.1) (f new ∙ (put_miss P N0) x (Local y) σ z e ∙ s.1) ((name_keeps P N0) way' (λ g x h. Peel.bound h) (λ g x h. Peel.bound h) (λ o. tt) tt Good' reads' r (g ++ []) s.0 (s.2, s.3))

    assign' : (g : List Name) (z : Name) (bs cs : List Name) → has z g ≡ false → (Known P N0) all g z × Every (NotChosen z) os → All way' None None (g ++ []) bs cs → All way' None None (g ++ []) (name_of (choose os σ z) z ∷ bs) (name_of (choose os new z) z ∷ cs)
    assign' g z bs cs h u m = by_has (bytes_eq z x) same other'
      where
        same : bytes_eq z x ≡ true → All way' None None (g ++ []) (name_of (choose os σ z) z ∷ bs) (name_of (choose os new z) z ∷ cs)
        same e =
            let here = ap (λ t. name_of t z) (choose_unchosen os z σ u.1 ∙ ap σ (name_true z x e) ∙ at_x) in
            let there = ap (λ t. name_of t z) (choose_unchosen os z new u.1 ∙ (put_hit P N0) x (Local y) σ z e) in
            let clear : has x (g ++ []) ≡ false = has_none x g [] (subst (λ w. has w g ≡ false) (name_true z x e) h) refl in
            (all_by P N0) _ _ x y here there (Sim.and_pair (Peel.both clear (has_none y g [] (u.0.1 y y_high) refl)) m)

        other' : bytes_eq z x ≡ false → All way' None None (g ++ []) (name_of (choose os σ z) z ∷ bs) (name_of (choose os new z) z ∷ cs)
        other' e =
            let s = stands z u.0.0 e in
            let here = ap (λ t. name_of t z) (choose_unchosen os z σ u.1 ∙ s.1) in
            let there = ap (λ t. name_of t z) (choose_unchosen os z new u.1 ∙ (put_miss P N0) x (Local y) σ z e ∙ s.1) in
            (all_by P N0) _ _ s.0 s.0 here there (Sim.and_set (by_has (has s.0 (g ++ [])) (λ h. Peel.bound h) (λ h. Peel.other h s.2 s.3)) m)

    pub renamed : (O : Op → Type 0) (K : Type 0) (b : Term) → Fit ((Known P N0) all) (λ g z. (Known P N0) all g z × Every (NotChosen z) os) O K true [] b → Moves way' None None true [] (sub (choose os σ) [] b) (sub (choose os new) [] b)
    renamed O K b f = lift way' None None (λ g x h. Peel.bound h) (λ g x h. Peel.bound h) ((Known P N0) all) (λ g z. (Known P N0) all g z × Every (NotChosen z) os) O K (λ o q. tt) (λ q. tt) [] (choose os σ) (choose os new) uses' assign' b true [] f

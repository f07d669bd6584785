-- The step in which a chosen argument takes the place of its parameter's new name.
use Rattle.std.proofs.Common.{◌≡◌, ℕ, ◌≤◌, List, [], ◌∷◌, ◌++◌, Bool, true, false, None, refl, sym, ap, ◌∙◌, subst}
use Rattle.std.specs.Prelude.{bytes_eq}
use Rattle.go_kernel.specs.Kernel.{Name, Op, Term, Local, Program}
use Rattle.go_kernel.specs.Scope.{has}
use Rattle.go_kernel.specs.Substitution.{name_of, names_at, sub}
use Rattle.go_kernel.specs.Arguments.{Arg, arg, names_of, rest, choose}
use Rattle.go_kernel.proofs.FreshNames.{height, name_true}
use Rattle.go_kernel.proofs.FrameFacts.{by_has, has_none}
use Rattle.go_kernel.proofs.TermConditions as Fits
use Rattle.go_kernel.proofs.TermConditions.{Fit, lift}
use Rattle.go_kernel.proofs.WithinProgram as Sim
use Rattle.go_kernel.proofs.WithinProgram.{Way, Moves, All}
use Rattle.go_kernel.proofs.Parameters.{Every, Unbound, NotChosen, Cases, hit, miss, choose_cases, choose_none, choose_unchosen, rest_clear, Known, put_in, put_hit, put_miss, moves_by, all_by}

module _ (P : Program) (N0 : ℕ) where
  -- the step in which a chosen argument takes the place of the new name
  module _ (all : List Name) (x y : Name) (a : Term) (fr : List Name) (y_high : N0 ≤ height y) (σ : Name → Term) (os : List Arg) (x_other : has x (names_of os) ≡ false) (unbound : Every (Unbound fr) os) (y_rest : has y (names_of (rest os)) ≡ false) (at_y : σ x ≡ Local y)
      (stands : (z : Name) → has z all ≡ true → bytes_eq z x ≡ false → (w : Name) × (σ z ≡ Local w) × (bytes_eq w y ≡ false) × (bytes_eq y w ≡ false) × (Every (NotChosen z) os → has w fr ≡ false)) where
    abbrev pub old : Name → Term
    old = choose os σ

    abbrev pub moved : Name → Term
    moved = (put_in P N0) x a (choose os σ)

    abbrev pub under : List Name
    under = names_of (rest os) ++ []

    -- 'fine' says that a chosen argument may stand where it is used, 'V' that x may be used
    abbrev pub OnUse : (Arg → Type 0) → Name → Arg → Type 0
    OnUse fine z (arg x a fr c) = c ≡ true → bytes_eq z x ≡ true → fine (arg x a fr c)

    abbrev pub MayUse : (Arg → Type 0) → Type 0 → List Name → Name → Type 0
    MayUse fine V g z = (Known P N0) all g z × (bytes_eq z x ≡ true → V × ((w : Name) → has w fr ≡ true → has w g ≡ false)) × Every (OnUse fine z) os

    abbrev pub MaySet : List Name → Name → Type 0
    MaySet g z = (Known P N0) all g z × (bytes_eq z x ≡ false) × Every (NotChosen z) os

    module _ (W : Way) (bound_read : (g : List Name) (x : Name) → has x g ≡ true → W.Reads g x) (bound_set : (g : List Name) (x : Name) → has x g ≡ true → W.Sets g x)
        (reads : (g : List Name) (w : Name) → has w g ≡ false → bytes_eq w y ≡ false → W.Reads g w) (sets : (g : List Name) (w : Name) → has w g ≡ false → bytes_eq w y ≡ false → bytes_eq y w ≡ false → has w fr ≡ false → W.Sets g w)
        (O : Op → Type 0) (K : Type 0) (does : (o : Op) → O o → W.Does o) (writes : K → W.Writes)
        (V : Type 0) (here : V → (r : Bool) (g : List Name) → has y g ≡ false → ((w : Name) → has w fr ≡ true → has w g ≡ false) → Moves W None None r g (Local y) a)
        (fine : Arg → Type 0) (stays : (z : Name) (b : Term) (f : List Name) → fine (arg z b f true) → (r : Bool) (g : List Name) → Moves W None None r g b b) where
      use_moves : (r : Bool) (g : List Name) (z : Name) → has z g ≡ false → MayUse fine V g z → Moves W None None r (g ++ under) (old z) (moved z)
      use_moves r g z h u = by_has (bytes_eq z x) same other'
        where
          same : bytes_eq z x ≡ true → Moves W None None r (g ++ under) (old z) (moved z)
          same e =
              let q = u.1 e in
              let left = choose_none os z σ (subst (λ w. has w (names_of os) ≡ false) (sym (name_true z x e)) x_other) ∙ ap σ (name_true z x e) ∙ at_y in
              let none : has y under ≡ false = has_none y (names_of (rest os)) [] y_rest refl in
              (moves_by P N0) _ _ (Local y) a left ((put_hit P N0) x a old z e) (here q.0 r (g ++ under) (has_none y g under (u.0.1 y y_high) none)
              (λ w m. has_none w g under (q.1 w m) (has_none w (names_of (rest os)) [] (rest_clear fr os unbound w m) refl)))

          other' : bytes_eq z x ≡ false → Moves W None None r (g ++ under) (old z) (moved z)
          other' e = go (choose_cases (OnUse fine z) os u.2 z) (stands z u.0.0 e)
            where
              go : Cases (OnUse fine z) os z → (w : Name) × (σ z ≡ Local w) × (bytes_eq w y ≡ false) × (bytes_eq y w ≡ false) × (Every (NotChosen z) os → has w fr ≡ false) → Moves W None None r (g ++ under) (old z) (moved z)
              go (hit z' b f q d p) s = (moves_by P N0) _ _ b b (p σ) ((put_miss P N0) x a old z e ∙ p σ) (stays z' b f (q refl d) r (g ++ under))
              go (miss p) s = (moves_by P N0) _ _ (Local s.0) (Local s.0) (p σ ∙ s.1) ((put_miss P N0) x a old z e ∙ p σ ∙ s.1) (Sim.local (by_has (has s.0 (g ++ under)) (λ h. bound_read _ _ h) (λ h. reads _ _ h s.2)))

      set_moves : (g : List Name) (z : Name) (bs cs : List Name) → has z g ≡ false → MaySet g z → All W None None (g ++ under) bs cs → All W None None (g ++ under) (name_of (old z) z ∷ bs) (name_of (moved z) z ∷ cs)
      set_moves g z bs cs h u m =
          let s = stands z u.0.0 u.1 in
          let left = ap (λ t. name_of t z) (choose_unchosen os z σ u.2 ∙ s.1) in
          let right = ap (λ t. name_of t z) ((put_miss P N0) x a old z u.1 ∙ choose_unchosen os z σ u.2 ∙ s.1) in
          (all_by P N0) _ _ s.0 s.0 left right (Sim.and_set (by_has (has s.0 (g ++ under)) (λ h. bound_set _ _ h) (λ h. sets _ _ h s.2 s.3 (s.4 u.2))) m)

      pub all_move : (g bs : List Name) → Fits.Sets (MayUse fine V) MaySet O K g bs → All W None None (g ++ under) (names_at old g bs) (names_at moved g bs)
      all_move g bs f = Fits.assigned W None None bound_read bound_set (MayUse fine V) MaySet O K does writes under old moved use_moves set_moves g bs f

      pub part_moves : (t : Term) (r : Bool) (g : List Name) → Fit (MayUse fine V) MaySet O K r g t → Moves W None None r (g ++ under) (sub old g t) (sub moved g t)
      part_moves t r g f = lift W None None bound_read bound_set (MayUse fine V) MaySet O K does writes under old moved use_moves set_moves t r g f

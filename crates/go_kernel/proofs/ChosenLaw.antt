-- The law of the chosen set, from the body as it stands.
use Rattle.std.proofs.Common.{◌≡◌, ℕ, zero, ◌<◌, List, [], ◌∷◌, ◌++◌, Bool, true, false, true≢false, if◌then◌else◌, None, refl, sym, ap, ◌∙◌, subst, arith}
use Rattle.std.specs.Prelude.{bytes_eq}
use Rattle.go_kernel.proofs.FreshNames.{height, name_true, true_name}
use Rattle.go_kernel.specs.Kernel.{Name, FuncName, Term, Local, Let, Program}
use Rattle.std.proofs.lemmas.List.{append-nil}
use Rattle.go_kernel.proofs.WithinProgram as Sim
use Rattle.go_kernel.proofs.WithinProgram.{Moves, All}
use Rattle.go_kernel.proofs.BindAgain as Rebind
use Rattle.go_kernel.proofs.BindAgain.{rebound, rebinds, locals_of}
use Rattle.go_kernel.proofs.Means.{Mean, mean_sym, mean_trans}
use Rattle.go_kernel.proofs.FrameFacts.{by_has}
use Rattle.go_kernel.specs.Substitution.{name_of, sub}
use Rattle.go_kernel.specs.Scope.{has}
use Rattle.go_kernel.proofs.ChosenSet.{chosen_set}
use Rattle.go_kernel.proofs.Movability.{Choice}
use Rattle.go_kernel.proofs.Parameters.{Body, BodySet, BodyUse, Cases, Distinct, Every, NotChosen, Own, choose_cases, choose_none, choose_unchosen, hit, mine, miss}
use Rattle.go_kernel.specs.Arguments.{Arg, arg, args_of, choose, names_of, rest}
use Rattle.go_kernel.proofs.TermConditions.{keep, lift, sub_self, sub_under}

module _ (P : Program) (N : ℕ) where
  name_low : (os : List Arg) (z : Name) → Every (Own P N) os → has z (names_of os) ≡ true → height z < N
  name_low [] z q h = absurd (true≢false (sym h))
  name_low (arg x a fr c ∷ os) z q h = go (bytes_eq z x) refl h (name_low os z q.1)
    where
      go : (b : Bool) → bytes_eq z x ≡ b → (if b then true else has z (names_of os)) ≡ true → (has z (names_of os) ≡ true → height z < N) → height z < N
      go true e h r = subst (λ w. height w < N) (sym (name_true z x e)) q.0.3
      go false e h r = r h

  known : (os : List Arg) (all : List Name) → ((z : Name) → has z (names_of os) ≡ true → has z all ≡ true) → Every (λ o. has (elim o as (λ o. Name) [ arg x a fr c ↦ x ]) all ≡ true) os
  known [] all h = tt
  known (arg x a fr c ∷ os) all h = (h x (ap (λ b. if b then true else has x (names_of os)) (true_name x x refl)), known os all (λ z m. h z (under z m)))
    where
      under : (z : Name) → has z (names_of os) ≡ true → (if bytes_eq z x then true else has z (names_of os)) ≡ true
      under z m = go (bytes_eq z x)
        where
          go : (b : Bool) → (if b then true else has z (names_of os)) ≡ true
          go true = refl
          go false = m

  module _ (free : FuncName → Bool) (A : ℕ) (b : Term) (os : List Arg) where
    pub chosen_law : Every (Own P N) os → Distinct os → Choice b os → Body P N (names_of os) os b
        → Mean P free A zero (Let (names_of os) (args_of os) b) (Let (names_of (rest os)) (args_of (rest os)) (sub (choose os (λ z. Local z)) [] b))
    chosen_law own d c f =
        subst (λ t. Mean P free A zero (Let (names_of os) (args_of os) t) (Let (names_of (rest os)) (args_of (rest os)) (sub (choose os (λ z. Local z)) [] b))) (sub_self b [])
        (chosen_set P N free A (names_of os) b os (λ z. Local z) N (omega arith) own d (known os (names_of os) (λ z h. h)) (λ z h. mine h (name_low os z own h) refl) c f)

  -- unchosen parameters that the body assigns: they are bound again in front of it, so that its assignments are to variables of its own
  pub rest_known : (os : List Arg) (z : Name) → has z (names_of os) ≡ true → Every (NotChosen z) os → has z (names_of (rest os)) ≡ true
  rest_known [] z h n = h
  rest_known (arg x a fr c ∷ os) z h n = go (bytes_eq z x) refl h c n.0 (λ k. rest_known os z k n.1)
    where
      go : (b : Bool) → bytes_eq z x ≡ b → (if b then true else has z (names_of os)) ≡ true → (c : Bool) → (c ≡ true → bytes_eq z x ≡ false) → (has z (names_of os) ≡ true → has z (names_of (rest os)) ≡ true) → has z (names_of (rest (arg x a fr c ∷ os))) ≡ true
      go true e h true n r = absurd (true≢false (sym e ∙ n refl))
      go true e h false n r = ap (λ b. if b then true else has z (names_of (rest os))) e
      go false e h true n r = r h
      go false e h false n r = ap (λ b. if b then true else has z (names_of (rest os))) e ∙ r h

  pub rest_in : (os : List Arg) (z : Name) → has z (names_of (rest os)) ≡ true → has z (names_of os) ≡ true
  rest_in [] z h = h
  rest_in (arg x a fr true ∷ os) z h = go (bytes_eq z x) (rest_in os z h)
    where
      go : (b : Bool) → has z (names_of os) ≡ true → (if b then true else has z (names_of os)) ≡ true
      go true r = refl
      go false r = r
  rest_in (arg x a fr false ∷ os) z h = go (bytes_eq z x) h (rest_in os z)
    where
      go : (b : Bool) → (if b then true else has z (names_of (rest os))) ≡ true → (has z (names_of (rest os)) ≡ true → has z (names_of os) ≡ true) → (if b then true else has z (names_of os)) ≡ true
      go true h r = refl
      go false h r = r h

  pub rest_self : (os : List Arg) (z : Name) (σ : Name → Term) → Distinct os → has z (names_of (rest os)) ≡ true → choose os σ z ≡ σ z
  rest_self [] z σ d h = refl
  rest_self (arg x a fr true ∷ os) z σ d h = ap (λ c. if c then a else choose os σ z) (apart' (bytes_eq z x) refl) ∙ rest_self os z σ d.1 h
    where
      apart' : (b : Bool) → bytes_eq z x ≡ b → bytes_eq z x ≡ false
      apart' true e = absurd (true≢false (sym (rest_in os z h) ∙ subst (λ w. has w (names_of os) ≡ false) (sym (name_true z x e)) d.0))
      apart' false e = e
  rest_self (arg x a fr false ∷ os) z σ d h = go (bytes_eq z x) refl h (rest_self os z σ d.1)
    where
      go : (b : Bool) → bytes_eq z x ≡ b → (if b then true else has z (names_of (rest os))) ≡ true → (has z (names_of (rest os)) ≡ true → choose os σ z ≡ σ z) → choose os σ z ≡ σ z
      go true e h r = choose_none os z σ (subst (λ w. has w (names_of os) ≡ false) (sym (name_true z x e)) d.0)
      go false e h r = r h

  pub locals_self : (os : List Arg) (xs : List Name) → Distinct os → ((z : Name) → has z xs ≡ true → has z (names_of (rest os)) ≡ true) → sub (choose os (λ z. Local z)) [] (locals_of xs) ≡ locals_of xs
  locals_self os [] d h = refl
  locals_self os (x ∷ xs) d h = cc (rest_self os x (λ z. Local z) d (h x (ap (λ b. if b then true else has x xs) (true_name x x refl))), locals_self os xs d (λ z m. h z (go z (bytes_eq z x) m)))
    where
      go : (z : Name) (b : Bool) → has z xs ≡ true → (if b then true else has z xs) ≡ true
      go z true m = refl
      go z false m = m

  module _ (free : FuncName → Bool) (A : ℕ) (b : Term) (os : List Arg) where
    -- the body with the parameters that stay bound again at its front
    abbrev pub front_bound : Term
    front_bound = Let (names_of (rest os)) (locals_of (names_of (rest os))) b

    pub first_again : Body P N (names_of os) os b → Moves (rebound (names_of os) (names_of (rest os)) (rest_in os)) None None true [] b b
    first_again f =
        keep (rebound (names_of os) (names_of (rest os)) (rest_in os)) None None (λ g x h. tt) (λ g x h. Rebind.bound h) (BodyUse P N (names_of os) os) (BodySet P N (names_of os) os) (λ o. Unit {0}) (Unit {0}) (λ o u. tt) (λ u. tt) []
        (λ h x m u. tt) (λ h x m u. by_has (has x (h ++ [])) (λ e. Rebind.bound e) (λ e. Rebind.again e (rest_known os x u.0.0 u.1))) b true true (λ z. z) [] f

    pub last_again : Every (Own P N) os → Body P N (names_of os) os b → Moves (rebound (names_of (rest os)) (names_of (rest os)) (λ z h. h)) None None true [] (sub (choose os (λ z. Local z)) [] b) (sub (choose os (λ z. Local z)) [] b)
    last_again own f =
        lift (rebound (names_of (rest os)) (names_of (rest os)) (λ z h. h)) None None (λ g x h. tt) (λ g x h. Rebind.bound h) (BodyUse P N (names_of os) os) (BodySet P N (names_of os) os) (λ o. Unit {0}) (Unit {0}) (λ o u. tt) (λ u. tt) []
        (choose os (λ z. Local z)) (choose os (λ z. Local z)) use_self set_self b true [] f
      where
        use_self : (r : Bool) (g : List Name) (z : Name) → has z g ≡ false → BodyUse P N (names_of os) os g z → Moves (rebound (names_of (rest os)) (names_of (rest os)) (λ z h. h)) None None r (g ++ []) (choose os (λ z. Local z) z) (choose os (λ z. Local z) z)
        use_self r g z h u = go (choose_cases (Own P N) os own z)
          where
            go : Cases (Own P N) os z → Moves (rebound (names_of (rest os)) (names_of (rest os)) (λ z h. h)) None None r (g ++ []) (choose os (λ z. Local z) z) (choose os (λ z. Local z) z)
            go (hit x a fr q e p) =
                subst (λ t. Moves (rebound (names_of (rest os)) (names_of (rest os)) (λ z h. h)) None None r (g ++ []) t t) (sym (p (λ z. Local z)))
                (keep (rebound (names_of (rest os)) (names_of (rest os)) (λ z h. h)) None None (λ g x h. tt) (λ g x h. Rebind.bound h) (λ h w. has w fr ≡ true) (λ h w. ⊥) (λ o. Unit {0}) (Unit {0}) (λ o u. tt) (λ u. tt) (g ++ []) (λ k x m u. tt) (λ k x m s. absurd s) a false r (λ e. absurd (true≢false (sym e))) [] q.1)
            go (miss p) = subst (λ t. Moves (rebound (names_of (rest os)) (names_of (rest os)) (λ z h. h)) None None r (g ++ []) t t) (sym (p (λ z. Local z))) (Sim.local tt)

        set_self : (g : List Name) (z : Name) (xs ys : List Name) → has z g ≡ false → BodySet P N (names_of os) os g z → All (rebound (names_of (rest os)) (names_of (rest os)) (λ z h. h)) None None (g ++ []) xs ys
            → All (rebound (names_of (rest os)) (names_of (rest os)) (λ z h. h)) None None (g ++ []) (name_of (choose os (λ z. Local z) z) z ∷ xs) (name_of (choose os (λ z. Local z) z) z ∷ ys)
        set_self g z xs ys h u m =
            subst (λ n. All (rebound (names_of (rest os)) (names_of (rest os)) (λ z h. h)) None None (g ++ []) (n ∷ xs) (n ∷ ys)) (sym (ap (λ t. name_of t z) (choose_unchosen os z (λ z. Local z) u.1)))
            (Sim.and_set (by_has (has z (g ++ [])) (λ e. Rebind.bound e) (λ e. Rebind.again e (rest_known os z u.0.0 u.1))) m)

    -- the law, where the conditions on the uses are asked of the body with its unchosen parameters bound at its front
    pub chosen_law_bound : Every (Own P N) os → Distinct os → Choice front_bound os → Body P N (names_of os) os front_bound → Body P N (names_of os) os b
        → Mean P free A zero (Let (names_of os) (args_of os) b) (Let (names_of (rest os)) (args_of (rest os)) (sub (choose os (λ z. Local z)) [] b))
    chosen_law_bound own d c f f' =
        let xs = names_of (rest os) in
        let τ' = choose os (λ z. Local z) in
        let one = rebinds (names_of os) xs (rest_in os) P free A (args_of os) b (first_again f') in
        let two = chosen_law free A front_bound os own d c f in
        let three = rebinds xs xs (λ z h. h) P free A (args_of (rest os)) (sub τ' [] b) (last_again own f') in
        let same : sub τ' [] front_bound ≡ Let xs (locals_of xs) (sub τ' [] b) = cc (locals_self os xs d (λ z h. h), ap (λ g. sub τ' g b) (append-nil xs) ∙ sub_under xs τ' (λ z h. rest_self os z (λ z. Local z) d h) b []) in
        let two' = subst (λ t. Mean P free A zero (Let (names_of os) (args_of os) front_bound) (Let xs (args_of (rest os)) t)) same two in
        mean_trans P free A zero (Let (names_of os) (args_of os) b) (Let xs (args_of (rest os)) (Let xs (locals_of xs) (sub τ' [] b))) (Let xs (args_of (rest os)) (sub τ' [] b))
        (mean_trans P free A zero (Let (names_of os) (args_of os) b) (Let (names_of os) (args_of os) front_bound) (Let xs (args_of (rest os)) (Let xs (locals_of xs) (sub τ' [] b))) one two')
        (mean_sym P free A zero (Let xs (args_of (rest os)) (sub τ' [] b)) (Let xs (args_of (rest os)) (Let xs (locals_of xs) (sub τ' [] b))) three)

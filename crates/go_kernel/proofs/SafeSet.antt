-- A safe set of arguments takes its parameters' places, the others stay bound.
use Rattle.std.proofs.Common.{⊎_elim, ◌≡◌, ℕ, zero, ◌+◌, ◌≤◌, List, [], ◌∷◌, ◌++◌, Bool, true, false, true≢false, if◌then◌else◌, Option, Some, None, refl, sym, ap, ◌∙◌, subst, arith}
use Rattle.std.specs.Prelude.{bytes_eq}
use Rattle.std.proofs.lemmas.List.{append-nil}
use Rattle.std.proofs.lemmas.Bool.{eqb-true}
use Rattle.go_kernel.specs.Kernel.{Name, FuncName, Op, effect, no_func, Term, Local, Let, Program}
use Rattle.go_kernel.specs.Scope.{has}
use Rattle.go_kernel.specs.Substitution.{sub}
use Rattle.go_kernel.specs.Arguments.{Arg, arg, names_of, args_of, rest, chosen}
use Rattle.go_kernel.specs.Classes.{Looks, Acts, steady, looks}
use Rattle.go_kernel.specs.Items.{Item, Param, is_stop, items, uses, writes}
use Rattle.go_kernel.specs.Conditions.{width, no_spares, none_in}
use Rattle.go_kernel.specs.Choosing.{Row, is_use, is_write, uses_before, Solo, Later, NamesMoveAll, Safe, names_only, all_name_only, IsRow, AreRows, distinct, is_one, well_named, closed}
use Rattle.go_kernel.proofs.FreshNames.{height, name_self, name_true}
use Rattle.go_kernel.proofs.FrameFacts.{by_has, has_none, has_right}
use Rattle.go_kernel.proofs.TermConditions.{Fit, fit_map, fit_both, sub_self}
use Rattle.go_kernel.proofs.ComputedConditions.{test_fit, width_is, spare_height, low_is, none_above, none_is}
use Rattle.go_kernel.proofs.DeepItems.{deep, seen, clean, seen_join, both_true, not_true}
use Rattle.go_kernel.proofs.BindAgain.{locals_of}
use Rattle.go_kernel.proofs.Means.{Mean, mean_refl}
use Rattle.go_kernel.proofs.Parameters.{Every, Distinct, Unread, Unbound, Clear, NotChosen, rest_clear, every_map, every_both, Own, Known, Body, BodyUse, BodySet, names_low, every_rest}
use Rattle.go_kernel.proofs.Movability.{no_look, no_look_stop, no_act, no_act_stop, acting_at, unsteady_at, NoWrite, NoFreeSet, Movable, steady_one, looks_first, looks_all, acts_first, Choice}
use Rattle.go_kernel.proofs.ChosenLaw
use Rattle.go_kernel.proofs.ChosenLaw.{chosen_law_bound, rest_in}
use Rattle.go_kernel.proofs.UsesBefore.{nothing, before_total, before_unwritten, total_le, seen_is, listed_deep, seen_under, uses_under}
use Rattle.go_kernel.proofs.Shapes.{Shape, fit_under, no_write_is}
use Rattle.go_kernel.proofs.SafeOrder.{row_unsteady, row_acts, calm, scan, before_looking, still, before_acting}

-- ---- nothing chosen

abbrev pub any : List Arg → Bool
any [] = false
any (arg x a fr true ∷ os) = true
any (arg x a fr false ∷ os) = any os

pub none_rest : (os : List Arg) → any os ≡ false → rest os ≡ os
none_rest [] h = refl
none_rest (arg x a fr true ∷ os) h = absurd (true≢false h)
none_rest (arg x a fr false ∷ os) h = ap (λ z. arg x a fr false ∷ z) (none_rest os h)

pub none_chosen : (os : List Arg) → any os ≡ false → (z : Name) → chosen os z ≡ Local z
none_chosen [] h z = refl
none_chosen (arg x a fr true ∷ os) h z = absurd (true≢false h)
none_chosen (arg x a fr false ∷ os) h z = none_chosen os h z

abbrev no_program : Program
no_program f = no_func

-- ---- names

pub distinct_is : (os : List Arg) → distinct os ≡ true → Distinct os
distinct_is [] h = tt
distinct_is (arg x a f c ∷ os) h = let q = not_true _ _ h in (q.0, distinct_is os q.1)

-- a name that none of them has
never : (os : List Arg) (z : Name) → has z (names_of os) ≡ false → Every (NotChosen z) os
never [] z h = tt
never (arg x a fr c ∷ os) z h = go (bytes_eq z x) refl h (never os z)
  where
    go : (b : Bool) → bytes_eq z x ≡ b → (if b then true else has z (names_of os)) ≡ false → (has z (names_of os) ≡ false → Every (NotChosen z) os) → Every (NotChosen z) (arg x a fr c ∷ os)
    go true e h r = absurd (true≢false h)
    go false e h r = ((λ c. e), r h)

-- a name that stays bound isn't chosen
rest_unchosen : (os : List Arg) → Distinct os → (z : Name) → has z (names_of (rest os)) ≡ true → Every (NotChosen z) os
rest_unchosen [] d z h = tt
rest_unchosen (arg x a fr true ∷ os) d z h = ((λ e. other), rest_unchosen os d.1 z h)
  where
    other : bytes_eq z x ≡ false
    other = by_has (bytes_eq z x) (λ e. absurd (true≢false (sym (rest_in no_program 0 os z h) ∙ subst (λ w. has w (names_of os) ≡ false) (sym (name_true z x e)) d.0))) (λ e. e)
rest_unchosen (arg x a fr false ∷ os) d z h = go (bytes_eq z x) refl h (rest_unchosen os d.1 z)
  where
    go : (b : Bool) → bytes_eq z x ≡ b → (if b then true else has z (names_of (rest os))) ≡ true → (has z (names_of (rest os)) ≡ true → Every (NotChosen z) os) → Every (NotChosen z) (arg x a fr false ∷ os)
    go true e h r = ((λ c. absurd (true≢false (sym c))), never os z (subst (λ w. has w (names_of os) ≡ false) (sym (name_true z x e)) d.0))
    go false e h r = ((λ c. absurd (true≢false (sym c))), r h)

-- the free names of a chosen argument and the name of one that stays bound
pub Apart' : Arg → Arg → Type 0
Apart' (arg x a fr c) (arg z b fr' c') = c ≡ true → c' ≡ false → has z fr ≡ false

ApartAll : List Arg → Arg → Type 0
ApartAll os o = Every (Apart' o) os

apart_self : (o : Arg) → Apart' o o
unfolding Apart'
apart_self (arg x a fr c) = λ e d. absurd (true≢false (sym e ∙ d))

pub firsts : (o : Arg) (os : List Arg) → NamesMoveAll o os → Every (Apart' o) os
unfolding Apart'
firsts (arg x a fr c) [] h = tt
firsts (arg x a fr c) (arg z b fr' c' ∷ os) h = (h.0.0, firsts (arg x a fr c) os h.1)

pub seconds : (o : Arg) (os : List Arg) → NamesMoveAll o os → Every (λ p. Apart' p o) os
unfolding Apart'
seconds (arg x a fr c) [] h = tt
seconds (arg x a fr c) (arg z b fr' c' ∷ os) h = (h.0.1, seconds (arg x a fr c) os h.1)

abbrev pub Pairs : List Arg → Type 0
Pairs [] = Unit {0}
Pairs (o ∷ os) = NamesMoveAll o os × Pairs os

all_apart : (os : List Arg) → Pairs os → Every (ApartAll os) os
unfolding ApartAll
all_apart [] p = tt
all_apart (o ∷ os) p = ((apart_self o, firsts o os p.0), every_map os (λ q h. h) (every_both (λ q. Apart' q o) (λ q. Every (Apart' q) os) os (seconds o os p.0) (all_apart os p.1)))

pub pairs_of : (I : List Item) (w : Bool) (rows : List Row) (os : List Arg) (all : List Arg) (g : List Name) (t : Term) → AreRows all g t os rows → Safe I w rows os → Pairs os
pairs_of I w [] [] all g t q s = tt
pairs_of I w (r ∷ rows) [] all g t q s = tt
pairs_of I w [] (o ∷ os) all g t q s = absurd q
pairs_of I w (r ∷ rows) (arg x a fr c ∷ os) all g t q s = (s.1, pairs_of I w rows os all g t q.1 s.2)

pub unbound_is : (fr : List Name) (x : Name) (a : Term) (os : List Arg) → Every (Apart' (arg x a fr true)) os → Every (Unbound fr) os
unfolding Apart'
unbound_is fr x a [] h = tt
unbound_is fr x a (arg z b fr' c ∷ os) h = ((λ e. h.0 refl e), unbound_is fr x a os h.1)

pub unread_is : (x : Name) (a : Term) (fr : List Name) (os : List Arg) → Every (λ p. Apart' p (arg x a fr false)) os → Every (Unread x) os
unfolding Apart'
unread_is x a fr [] h = tt
unread_is x a fr (arg z b fr' c ∷ os) h = ((λ e. h.0 e refl), unread_is x a fr os h.1)

-- the body binds the parameters that stay bound, and so hides none of a chosen argument's names
FrClear : List Name → Arg → Type 0
FrClear k (arg x a fr c) = c ≡ true → (w : Name) → has w fr ≡ true → has w k ≡ false

fr_clear : (all os : List Arg) → Every (ApartAll all) os → Every (FrClear (names_of (rest all))) os
unfolding ApartAll FrClear
fr_clear all [] h = tt
fr_clear all (arg x a fr true ∷ os) h = ((λ e. rest_clear fr all (unbound_is fr x a all h.0)), fr_clear all os h.1)
fr_clear all (arg x a fr false ∷ os) h = ((λ e. absurd (true≢false (sym e))), fr_clear all os h.1)

clear_nil : (z : Name) (os : List Arg) → Every (Clear [] z) os
clear_nil z [] = tt
clear_nil z (arg x a fr c ∷ os) = ((λ e q w h. refl), clear_nil z os)

clear_under : (k h : List Name) (z : Name) (os : List Arg) → Every (FrClear k) os → Every (Clear h z) os → Every (Clear (h ++ k) z) os
unfolding FrClear
clear_under k h z [] f q = tt
clear_under k h z (arg x a fr c ∷ os) f q = ((λ e d w m. has_none w h k (q.0 e d w m) (f.0 e w m)), clear_under k h z os f.1 q.1)

module _ (P : Program) (all : List Arg) (g : List Name) (t b : Term) (shape : Shape g t b) where
  abbrev pub xs : List Name
  xs = names_of all

  abbrev pub k : List Name
  k = names_of (rest all)

  abbrev pub I : List Item
  I = items g t

  abbrev pub again : Term
  again = Let (names_of (rest all)) (locals_of (names_of (rest all))) b

  known_is : (h : List Name) (z : Name) → (if has z (names_of all) then no_spares h else false) ≡ true → Known P 1 (names_of all) h z
  known_is h z e = let q = both_true _ _ e in (q.0, none_above h q.1)

  -- ---- the body

  abbrev pub FitsBody : List Arg → Type 0
  FitsBody os = Fit (BodyUse P 1 (names_of all) os) (BodySet P 1 (names_of all) os) (λ o. Unit {0}) (Unit {0}) true g t

  use_more : (x : Name) (a : Term) (fr : List Name) (os : List Arg) (h : List Name) (z : Name) → (bytes_eq z x ≡ true → (w : Name) → has w fr ≡ true → has w h ≡ false) → BodyUse P 1 (names_of all) os h z → BodyUse P 1 (names_of all) (arg x a fr true ∷ os) h z
  use_more x a fr os h z c q = (q.0, ((λ e d w m. c d w m), q.1))

  captured_is : (x : Name) (fr h : List Name) (z : Name) → (if bytes_eq z x then none_in fr h else true) ≡ true → bytes_eq z x ≡ true → (w : Name) → has w fr ≡ true → has w h ≡ false
  captured_is x fr h z e d = none_is fr h (sym (ap (λ c. if c then none_in fr h else true) d) ∙ e)

  set_is : (x z : Name) → (if bytes_eq z x then false else true) ≡ true → bytes_eq z x ≡ false
  set_is x z e = (not_true _ _ e).0

  pub body_of : closed (names_of all) g t ≡ true → (w : Bool) (os : List Arg) (rows : List Row) → AreRows all g t os rows → Safe I w rows os → FitsBody os
  body_of c w [] rows q s =
      test_fit (λ h z. if has z (names_of all) then no_spares h else false) (λ h z. if has z (names_of all) then no_spares h else false) (BodyUse P 1 (names_of all) []) (BodySet P 1 (names_of all) [])
      (λ h z e. (known_is h z e, tt)) (λ h z e. (known_is h z e, tt)) t true g c
  body_of c w (o ∷ os) [] q s = absurd q
  body_of c w (arg x a fr false ∷ os) (r ∷ rows) q s =
      fit_map (λ h z u. (u.0, ((λ e. absurd (true≢false (sym e))), u.1))) (λ h z u. (u.0, ((λ e. absurd (true≢false (sym e))), u.1))) (λ o u. u) (λ u. u) t true g (body_of c w os rows q.1 s.2)
  body_of c w (arg x a fr true ∷ os) (r ∷ rows) q s =
      let bars = q.0.2 (s.0 refl).0.free in
      let assigned = test_fit (λ h z. true) (λ h z. if bytes_eq z x then false else true) (λ h z. Unit {0}) (λ h z. bytes_eq z x ≡ false) (λ h z e. tt) (λ h z e. set_is x z e) t true g bars.0 in
      let captured = test_fit (λ h z. if bytes_eq z x then none_in fr h else true) (λ h z. true) (λ h z. bytes_eq z x ≡ true → (w : Name) → has w fr ≡ true → has w h ≡ false) (λ h z. Unit {0}) (λ h z e. captured_is x fr h z e) (λ h z e. tt) t true g bars.1 in
      fit_map (λ h z u. use_more x a fr os h z u.0.1 u.1) (λ h z u. (u.1.0, ((λ e. u.0.0), u.1.1))) (λ o u. tt) (λ u. tt) t true g
      (fit_both (λ h z. Unit {0} × (bytes_eq z x ≡ true → (w : Name) → has w fr ≡ true → has w h ≡ false)) (λ h z. (bytes_eq z x ≡ false) × Unit {0}) (BodyUse P 1 (names_of all) os) (BodySet P 1 (names_of all) os) (λ o. Unit {0} × Unit {0}) (λ o. Unit {0}) (Unit {0} × Unit {0}) (Unit {0}) t true g
      (fit_both (λ h z. Unit {0}) (λ h z. bytes_eq z x ≡ false) (λ h z. bytes_eq z x ≡ true → (w : Name) → has w fr ≡ true → has w h ≡ false) (λ h z. Unit {0}) (λ o. Unit {0}) (λ o. Unit {0}) (Unit {0}) (Unit {0}) t true g assigned captured) (body_of c w os rows q.1 s.2))

  -- ---- the arguments

  pub own_of : well_named P all ≡ true → (os : List Arg) → well_named P os ≡ true → all_name_only os ≡ true → (w : Bool) (rows : List Row) → AreRows all g t os rows → Safe I w rows os → Every (Own P 1) os
  own_of n [] h m w rows q s = tt
  own_of n (o ∷ os) h m w [] q s = absurd q
  own_of n (arg x a fr c ∷ os) h m w (r ∷ rows) q s =
      let h1 = both_true _ _ h in let h2 = not_true _ _ h1.1 in let h3 = both_true _ _ h2.1 in let m1 = both_true _ _ m in
      ((width_is P 1 a (one_is (width P a) h1.0), named c refl m1.0, low_is fr h3.0, spare_height x h2.0), own_of n os h3.1 m1.1 w rows q.1 s.2)
    where
      one_is : (w : Option ℕ) → is_one w ≡ true → w ≡ Some 1
      one_is (Some k) h = ap Some (eqb-true k 1 h)
      one_is None h = absurd (true≢false (sym h))

      named : (d : Bool) → c ≡ d → names_only true fr a ≡ true → Fit (λ h w. has w fr ≡ true) (λ h w. ⊥) (λ o. Unit {0}) (Unit {0}) (if c then false else true) [] a
      named true e m = subst (λ d. Fit (λ h w. has w fr ≡ true) (λ h w. ⊥) (λ o. Unit {0}) (Unit {0}) (if d then false else true) [] a) (sym e)
          (test_fit (λ h w. has w fr) (λ h w. false) (λ h w. has w fr ≡ true) (λ h w. ⊥) (λ h w u. u) (λ h w u. absurd (true≢false (sym u))) a false [] (q.0.2 (s.0 e).0.free).2)
      named false e m = subst (λ d. Fit (λ h w. has w fr ≡ true) (λ h w. ⊥) (λ o. Unit {0}) (Unit {0}) (if d then false else true) [] a) (sym e)
          (test_fit (λ h w. has w fr) (λ h w. false) (λ h w. has w fr ≡ true) (λ h w. ⊥) (λ h w u. u) (λ h w u. absurd (true≢false (sym u))) a true [] m)

  -- where one is chosen, no argument assigns a variable that it doesn't declare
  pub names_of_any : (os : List Arg) → any os ≡ true → (w : Bool) (rows : List Row) → AreRows all g t os rows → Safe I w rows os → all_name_only all ≡ true
  names_of_any [] h w rows q s = absurd (true≢false (sym h))
  names_of_any (o ∷ os) h w [] q s = absurd q
  names_of_any (arg x a fr true ∷ os) h w (r ∷ rows) q s = (q.0.2 (s.0 refl).0.free).3
  names_of_any (arg x a fr false ∷ os) h w (r ∷ rows) q s = names_of_any os h w rows q.1 s.2

  -- ---- the body with the parameters that stay bound at its front

  locals_fit : (U S : List Name → Name → Type 0) (O : Op → Type 0) (K : Type 0) (zs : List Name) → ((z : Name) → has z zs ≡ true → U [] z) → Fit U S O K true [] (locals_of zs)
  locals_fit U S O K [] h = tt
  locals_fit U S O K (z ∷ zs) h = ((λ e. h z (ap (λ c. if c then true else has z zs) (name_self z))), locals_fit U S O K zs (λ w m. h w (later w m)))
    where
      later : (w : Name) → has w zs ≡ true → (if bytes_eq w z then true else has w zs) ≡ true
      later w m = go (bytes_eq w z)
        where
          go : (c : Bool) → (if c then true else has w zs) ≡ true
          go true = refl
          go false = m

  again_fit : (U S U' S' : List Name → Name → Type 0) (O : Op → Type 0) (K : Type 0) → ((h : List Name) (z : Name) → has z (h ++ names_of (rest all)) ≡ false → U h z → U' (h ++ names_of (rest all)) z)
      → ((h : List Name) (z : Name) → has z (h ++ names_of (rest all)) ≡ false → S h z → S' (h ++ names_of (rest all)) z) → ((z : Name) → has z (names_of (rest all)) ≡ true → U' [] z) → Fit U S O K true g t → Fit U' S' O K true [] again
  again_fit U S U' S' O K u s l f =
      (locals_fit U' S' O K (names_of (rest all)) l, subst (λ z. Fit U' S' O K true z b) (sym (append-nil (names_of (rest all)))) (fit_under U S U' S' O K (names_of (rest all)) u s b true [] (shape.fits U S O K f)))

  module _ (distinct' : Distinct all) (own : Every (Own P 1) all) (pairs : Pairs all) (fits : FitsBody all) where
    no_high : (w : Name) → 1 ≤ height w → has w (names_of (rest all)) ≡ false
    no_high w h = names_low P 1 (rest all) w (every_rest (Own P 1) all own) h

    known_under : (h : List Name) (z : Name) → Known P 1 (names_of all) h z → Known P 1 (names_of all) (h ++ names_of (rest all)) z
    known_under h z q = (q.0, λ w m. has_none w h (names_of (rest all)) (q.1 w m) (no_high w m))

    pub body_again : Body P 1 (names_of all) all again
    body_again =
        again_fit (BodyUse P 1 (names_of all) all) (BodySet P 1 (names_of all) all) (BodyUse P 1 (names_of all) all) (BodySet P 1 (names_of all) all) (λ o. Unit {0}) (Unit {0})
        (λ h z e u. (known_under h z u.0, clear_under (names_of (rest all)) h z all (fr_clear all all (all_apart all pairs)) u.1)) (λ h z e u. (known_under h z u.0, u.1))
        (λ z m. ((rest_in P 1 all z m, (λ w l. refl)), clear_nil z all)) fits

    free_of_sets : NoFreeSet again
    free_of_sets =
        again_fit (BodyUse P 1 (names_of all) all) (BodySet P 1 (names_of all) all) (λ h z. Unit {0}) (λ h z. ⊥) (λ o. Unit {0}) (Unit {0})
        (λ h z e u. tt) (λ h z e u. absurd (true≢false (sym (has_right z h (names_of (rest all)) (ChosenLaw.rest_known P 1 all z u.0.0 u.1)) ∙ e))) (λ z m. tt) fits

    free_of_writes : writes t ≡ false → NoWrite again
    free_of_writes w =
        again_fit (BodyUse P 1 (names_of all) all) (BodySet P 1 (names_of all) all) (λ h z. Unit {0}) (λ h z. Unit {0}) (λ o. (effect o).writes ≡ false) ⊥ (λ h z e u. tt) (λ h z e u. tt) (λ z m. tt)
        (no_write_is (BodyUse P 1 (names_of all) all) (BodySet P 1 (names_of all) all) t true g w fits)

    -- ---- items

    module _ (hard : Item → Bool) (sh : (i : Item) → is_stop i ≡ true → hard i ≡ true) (x : Name) (soft : (z : Name) → has z (names_of (rest all)) ≡ true → (hard (Param z) ≡ false) × (bytes_eq z x ≡ false)) where
      locals_clean : (zs : List Name) → ((z : Name) → has z zs ≡ true → (hard (Param z) ≡ false) × (bytes_eq z x ≡ false)) → (clean hard sh x (deep [] (locals_of zs)) ≡ true) × (seen hard sh x (deep [] (locals_of zs)) ≡ 0)
      locals_clean [] h = (refl, refl)
      locals_clean (z ∷ zs) h = at (is_stop (Param z)) (h z (ap (λ c. if c then true else has z zs) (name_self z))) (locals_clean zs (λ w m. h w (later w m)))
        where
          later : (w : Name) → has w zs ≡ true → (if bytes_eq w z then true else has w zs) ≡ true
          later w m = go (bytes_eq w z)
            where
              go : (c : Bool) → (if c then true else has w zs) ≡ true
              go true = refl
              go false = m

          at : (c : Bool) → (hard (Param z) ≡ false) × (bytes_eq z x ≡ false) → (clean hard sh x (deep [] (locals_of zs)) ≡ true) × (seen hard sh x (deep [] (locals_of zs)) ≡ 0)
              → (clean hard sh x (deep [] (locals_of (z ∷ zs))) ≡ true) × (seen hard sh x (deep [] (locals_of (z ∷ zs))) ≡ 0)
          at c q r = (
            ap (λ c. if c then false else clean hard sh x (deep [] (locals_of zs))) q.0 ∙ r.0,
            ap (λ c. if c then 0 else (if bytes_eq z x then 1 else 0) + seen hard sh x (deep [] (locals_of zs))) q.0 ∙ ap (λ c. (if c then 1 else 0) + seen hard sh x (deep [] (locals_of zs))) q.1 ∙ (let e = r.1 in omega (arith, e)),
          )

      seen_again : seen hard sh x (deep [] again) ≡ seen hard sh x (deep g t)
      seen_again =
          let l = locals_clean (names_of (rest all)) soft in
          let j = seen_join hard sh x (deep [] (locals_of (names_of (rest all)))) (deep (names_of (rest all) ++ []) b) l.0 in
          let m = ap (λ z. seen hard sh x (deep z b)) (append-nil (names_of (rest all))) ∙ seen_under hard sh x (names_of (rest all)) b [] soft ∙ shape.sees hard sh x in
          let z = l.1 in
          omega (arith, j, m, z)

    uses_again : (x : Name) → has x (names_of (rest all)) ≡ false → uses x [] again ≡ uses x g t
    uses_again x n =
        let a = none_used (names_of (rest all)) n in
        let c = ap (λ z. uses x z b) (append-nil (names_of (rest all))) ∙ uses_under (names_of (rest all)) x n b [] ∙ shape.uses' x in
        omega (arith, a, c)
      where
        none_used : (zs : List Name) → has x zs ≡ false → uses x [] (locals_of zs) ≡ 0
        none_used [] h = refl
        none_used (z ∷ zs) h = go (bytes_eq x z) refl h (none_used zs)
          where
            go : (c : Bool) → bytes_eq x z ≡ c → (if c then true else has x zs) ≡ false → (has x zs ≡ false → uses x [] (locals_of zs) ≡ 0) → (if bytes_eq z x then 1 else 0) + uses x [] (locals_of zs) ≡ 0
            go true e h r = absurd (true≢false h)
            go false e h r = let d : bytes_eq z x ≡ false = by_has (bytes_eq z x) (λ k. absurd (true≢false (sym (ap (λ w. bytes_eq w z) (sym (name_true z x k)) ∙ name_self z) ∙ e))) (λ k. k) in let q = r h in ap (λ c. (if c then 1 else 0) + uses x [] (locals_of zs)) d ∙ omega (arith, q)

    acting_none : (z : Name) (os : List Arg) → Every (NotChosen z) os → acting_at os z ≡ false
    acting_none z [] h = refl
    acting_none z (arg x a fr true ∷ os) h = ap (λ c. if c then (if looks a then acting_at os z else true) else acting_at os z) (h.0 refl) ∙ acting_none z os h.1
    acting_none z (arg x a fr false ∷ os) h = acting_none z os h.1

    unsteady_none : (z : Name) (os : List Arg) → Every (NotChosen z) os → unsteady_at os z ≡ false
    unsteady_none z [] h = refl
    unsteady_none z (arg x a fr true ∷ os) h = ap (λ c. if c then (if steady a then unsteady_at os z else true) else unsteady_at os z) (h.0 refl) ∙ unsteady_none z os h.1
    unsteady_none z (arg x a fr false ∷ os) h = unsteady_none z os h.1

    -- ---- one chosen argument, with the later ones os

    module _ (x : Name) (a : Term) (fr : List Name) (r : Row) (row : IsRow all g t (arg x a fr true) r) (solo : Solo r x I (writes t)) (os : List Arg) (rows : List Row) (are : AreRows all g t os rows) (later : Later r x I rows os)
        (unchosen : (z : Name) → has z (names_of (rest all)) ≡ true → Every (NotChosen z) (arg x a fr true ∷ os)) where
      x_rest : has x (names_of (rest all)) ≡ false
      x_rest = by_has (has x (names_of (rest all))) (λ e. absurd (true≢false (sym (name_self x) ∙ (unchosen x e).0 refl))) (λ e. e)

      total : uses_before nothing x I ≤ r.uses
      total = let e = total_le x t g in let u = row.1 in omega (arith, e, u)

      listed : (hard : Item → Bool) (sh : (i : Item) → is_stop i ≡ true → hard i ≡ true) → ((z : Name) → has z (names_of (rest all)) ≡ true → (hard (Param z) ≡ false) × (bytes_eq z x ≡ false)) → uses_before hard x I ≡ r.uses → seen hard sh x (deep [] again) ≡ uses x [] again
      listed hard sh soft e = seen_again hard sh x soft ∙ listed_deep hard sh x t g (seen_is hard sh x hard (λ i s. refl) I ∙ e ∙ row.1) ∙ sym (uses_again x x_rest)

      soft_look : (z : Name) → has z (names_of (rest all)) ≡ true → (no_look os (Param z) ≡ false) × (bytes_eq z x ≡ false)
      soft_look z h = let q = unchosen z h in (acting_none z os q.1, q.0 refl)

      soft_act : (z : Name) → has z (names_of (rest all)) ≡ true → (no_act os (Param z) ≡ false) × (bytes_eq z x ≡ false)
      soft_act z h = let q = unchosen z h in (unsteady_none z os q.1, q.0 refl)

      movable : Movable again x a os
      movable = by_has (steady a) (λ s. steady_one s) (λ s. by_has (looks a) (λ l. ⊎_elim (λ c. looking l c) (λ c. acting c) (row_unsteady r.class a row.0 s)) (λ l. acting (row_acts r.class a row.0 l)))
        where
          by_writes : looks a ≡ true → r.class ≡ Looks → uses_before is_write x I ≡ r.uses → Movable again x a os
          by_writes l c w = looks_first l (calm all g t x r I total c os rows are later) (listed (no_look os) (no_look_stop os) soft_look (before_looking all g t x r I total c os rows are later w))

          all_listed : (z : Name) → uses_before (is_use z) x I ≡ r.uses → writes t ≡ false → uses_before is_write x I ≡ r.uses
          all_listed z e w = let m = before_total x (is_use z) I in before_unwritten x t g w ∙ omega (arith, m, e, total)

          looking : looks a ≡ true → r.class ≡ Looks → Movable again x a os
          looking l c =
              ⊎_elim (λ w. ⊎_elim (λ y. looks_all l y (free_of_writes w)) (λ z. by_writes l c (all_listed z.0 z.1 w)) (scan all g t x r I total c os rows are later)) (λ w. by_writes l c w) (solo.looking c)

          acting : r.class ≡ Acts → Movable again x a os
          acting c =
              let q = solo.acting c in
              let u : uses x [] again ≡ 1 = uses_again x x_rest ∙ sym row.1 ∙ q.0 in
              acts_first (still all g t x r I total c os rows are later) (listed (no_act os) (no_act_stop os) soft_act (before_acting all g t x r I total c os rows are later (q.1 ∙ sym q.0)) ∙ u) u free_of_sets

    choice : (os : List Arg) (rows : List Row) → AreRows all g t os rows → Safe I (writes t) rows os → ((z : Name) → has z (names_of (rest all)) ≡ true → Every (NotChosen z) os) → Choice again os
    choice [] rows q s n = tt
    choice (o ∷ os) [] q s n = absurd q
    choice (arg x a fr true ∷ os) (r ∷ rows) q s n =
        let m = s.0 refl in
        (unbound_is fr x a os (firsts (arg x a fr true) os s.1), movable x a fr r q.0 m.0 os rows q.1 m.1 n, choice os rows q.1 s.2 (λ z h. (n z h).1))
    choice (arg x a fr false ∷ os) (r ∷ rows) q s n = (unread_is x a fr os (seconds (arg x a fr false) os s.1), choice os rows q.1 s.2 (λ z h. (n z h).1))

  -- the law
  module _ (free : FuncName → Bool) (A : ℕ) where
    pub safe_set : (rows : List Row) → well_named P all ≡ true → distinct all ≡ true → closed (names_of all) g t ≡ true → AreRows all g t all rows → Safe I (writes t) rows all
        → Mean P free A zero (Let (names_of all) (args_of all) b) (Let (names_of (rest all)) (args_of (rest all)) (sub (chosen all) [] b))
    safe_set rows n d c q s = by_has (any all) some nothing_chosen
      where
        nothing_chosen : any all ≡ false → Mean P free A zero (Let (names_of all) (args_of all) b) (Let (names_of (rest all)) (args_of (rest all)) (sub (chosen all) [] b))
        nothing_chosen e =
            subst (λ os. Mean P free A zero (Let (names_of all) (args_of all) b) (Let (names_of os) (args_of os) (sub (chosen all) [] b))) (sym (none_rest all e))
            (subst (λ u. Mean P free A zero (Let (names_of all) (args_of all) b) (Let (names_of all) (args_of all) u)) (sym (ap (λ τ. sub τ [] b) (λ i z. none_chosen all e z i) ∙ sub_self b [])) (mean_refl P free A zero (Let (names_of all) (args_of all) b)))

        some : any all ≡ true → Mean P free A zero (Let (names_of all) (args_of all) b) (Let (names_of (rest all)) (args_of (rest all)) (sub (chosen all) [] b))
        some e =
            let m = names_of_any all e (writes t) rows q s in
            let own = own_of n all n m (writes t) rows q s in
            let dd = distinct_is all d in
            let pairs = pairs_of I (writes t) rows all all g t q s in
            let fits = body_of c (writes t) all rows q s in
            chosen_law_bound P 1 free A b all own dd (choice dd own pairs fits all rows q s (λ z h. rest_unchosen all dd z h)) (body_again dd own pairs fits) (shape.fits (BodyUse P 1 (names_of all) all) (BodySet P 1 (names_of all) all) (λ o. Unit {0}) (Unit {0}) fits)

-- Facts on frames: looking up, putting, pushing and popping in a frame of several parts.
use Rattle.std.proofs.Common.{◌≡◌, List, [], ◌∷◌, ◌++◌, Bool, true, false, true≢false, if◌then◌else◌, refl, sym, ap, ◌∙◌, subst, arith}
use Rattle.std.specs.Prelude.{bytes_eq}
use Rattle.std.proofs.lemmas.List.{append-nil}
use Rattle.go_kernel.proofs.FreshNames.{name_self, name_true}
use Rattle.go_kernel.specs.Kernel.{Name, Value, Nil, Frame, lookup, put, put_all, push, pop}
use Rattle.go_kernel.specs.Scope.{names, has, has_all}

-- by whether a name is bound
pub by_has : {A : Type 0} (b : Bool) → (b ≡ true → A) → (b ≡ false → A) → A
by_has true y n = y refl
by_has false y n = n refl

pub has_self : (y : Name) → has y (y ∷ []) ≡ true
has_self y = rw (name_self y)

pub has_left : (y : Name) (g h : List Name) → has y g ≡ true → has y (g ++ h) ≡ true
has_left y [] h q = absurd (true≢false (sym q))
has_left y (x ∷ g) h q = go (bytes_eq y x) q (has_left y g h)
  where
    go : (c : Bool) → (if c then true else has y g) ≡ true → (has y g ≡ true → has y (g ++ h) ≡ true) → (if c then true else has y (g ++ h)) ≡ true
    go true q r = refl
    go false q r = r q

pub has_right : (y : Name) (g h : List Name) → has y h ≡ true → has y (g ++ h) ≡ true
has_right y [] h q = q
has_right y (x ∷ g) h q = go (bytes_eq y x) (has_right y g h q)
  where
    go : (c : Bool) → has y (g ++ h) ≡ true → (if c then true else has y (g ++ h)) ≡ true
    go true r = refl
    go false r = r

pub has_none : (y : Name) (g h : List Name) → has y g ≡ false → has y h ≡ false → has y (g ++ h) ≡ false
has_none y [] h q r = r
has_none y (x ∷ g) h q r = go (bytes_eq y x) q (has_none y g h)
  where
    go : (c : Bool) → (if c then true else has y g) ≡ false → (has y g ≡ false → has y h ≡ false → has y (g ++ h) ≡ false) → (if c then true else has y (g ++ h)) ≡ false
    go true q n = absurd (true≢false q)
    go false q n = n q r

-- y is not z, if a list has y and has not z
pub apart_of : (y z : Name) (g : List Name) → has y g ≡ true → has z g ≡ false → bytes_eq y z ≡ false
apart_of y z g h k = go (bytes_eq y z) refl
  where
    go : (c : Bool) → bytes_eq y z ≡ c → c ≡ false
    go true e = absurd (true≢false (sym (subst (λ w. has w g ≡ true) (name_true y z e) h) ∙ k))
    go false e = refl

pub lookup_front : (x : Name) (f F : Frame) → has x (names f) ≡ true → lookup x (f ++ F) ≡ lookup x f
lookup_front x [] F h = absurd (true≢false (sym h))
lookup_front x (b ∷ f) F h = go (bytes_eq x b.0) h (lookup_front x f F)
  where
    go : (c : Bool) → (if c then true else has x (names f)) ≡ true → (has x (names f) ≡ true → lookup x (f ++ F) ≡ lookup x f) → (if c then b.1 else lookup x (f ++ F)) ≡ (if c then b.1 else lookup x f)
    go true h r = refl
    go false h r = r h

pub put_front : (x : Name) (v : Value) (f F : Frame) → has x (names f) ≡ true → put x v (f ++ F) ≡ put x v f ++ F
put_front x v [] F h = absurd (true≢false (sym h))
put_front x v (b ∷ f) F h = go (bytes_eq x b.0) h (put_front x v f F)
  where
    go : (c : Bool) → (if c then true else has x (names f)) ≡ true → (has x (names f) ≡ true → put x v (f ++ F) ≡ put x v f ++ F) → (if c then (b.0, v) ∷ (f ++ F) else b ∷ put x v (f ++ F)) ≡ (if c then (b.0, v) ∷ f else b ∷ put x v f) ++ F
    go true h r = refl
    go false h r = ap (λ z. b ∷ z) (r h)

-- what a name means behind a front that does not bind it
pub lookup_behind : (y : Name) (f F : Frame) → has y (names f) ≡ false → lookup y (f ++ F) ≡ lookup y F
lookup_behind y [] F h = refl
lookup_behind y (b ∷ f) F h = go (bytes_eq y b.0) h (lookup_behind y f F)
  where
    go : (c : Bool) → (if c then true else has y (names f)) ≡ false → (has y (names f) ≡ false → lookup y (f ++ F) ≡ lookup y F) → (if c then b.1 else lookup y (f ++ F)) ≡ lookup y F
    go true h r = absurd (true≢false h)
    go false h r = r h

pub put_behind : (y : Name) (v : Value) (f F : Frame) → has y (names f) ≡ false → put y v (f ++ F) ≡ f ++ put y v F
put_behind y v [] F h = refl
put_behind y v (b ∷ f) F h = go (bytes_eq y b.0) h (put_behind y v f F)
  where
    go : (c : Bool) → (if c then true else has y (names f)) ≡ false → (has y (names f) ≡ false → put y v (f ++ F) ≡ f ++ put y v F) → (if c then (b.0, v) ∷ (f ++ F) else b ∷ put y v (f ++ F)) ≡ b ∷ (f ++ put y v F)
    go true h r = absurd (true≢false h)
    go false h r = ap (λ z. b ∷ z) (r h)

pub names_put : (x : Name) (v : Value) (f : Frame) → names (put x v f) ≡ names f
names_put x v [] = refl
names_put x v (b ∷ f) = go (bytes_eq x b.0) (names_put x v f)
  where
    go : (c : Bool) → names (put x v f) ≡ names f → names (if c then (b.0, v) ∷ f else b ∷ put x v f) ≡ b.0 ∷ names f
    go true r = refl
    go false r = ap (λ z. b.0 ∷ z) r

pub names_put_all : (xs : List Name) (v : List Value) (f : Frame) → names (put_all xs v f) ≡ names f
names_put_all [] v f = refl
names_put_all (x ∷ xs) [] f = refl
names_put_all (x ∷ xs) (w ∷ v) f = names_put_all xs v (put x w f) ∙ names_put x w f

pub put_all_front : (xs : List Name) (v : List Value) (f F : Frame) → has_all xs (names f) → put_all xs v (f ++ F) ≡ put_all xs v f ++ F
put_all_front [] v f F h = refl
put_all_front (x ∷ xs) [] f F h = refl
put_all_front (x ∷ xs) (w ∷ v) f F h =
    ap (put_all xs v) (put_front x w f F h.0) ∙ put_all_front xs v (put x w f) F (subst (has_all xs) (sym (names_put x w f)) h.1)

pub names_push : (xs : List Name) (v : List Value) (f : Frame) → names (push xs v f) ≡ xs ++ names f
names_push [] v f = refl
names_push (x ∷ xs) [] f = ap (λ z. x ∷ z) (names_push xs [] f)
names_push (x ∷ xs) (w ∷ v) f = ap (λ z. x ∷ z) (names_push xs v f)

pub push_front : (xs : List Name) (v : List Value) (f F : Frame) → push xs v (f ++ F) ≡ push xs v f ++ F
push_front [] v f F = refl
push_front (x ∷ xs) [] f F = ap (λ z. (x, Nil) ∷ z) (push_front xs [] f F)
push_front (x ∷ xs) (w ∷ v) f F = ap (λ z. (x, w) ∷ z) (push_front xs v f F)

pub pop_front : (xs g : List Name) (f F : Frame) → names f ≡ xs ++ g → (names (pop xs f) ≡ g) × (pop xs (f ++ F) ≡ pop xs f ++ F)
pop_front [] g f F e = (e, refl)
pop_front (x ∷ xs) g [] F e = absurd (grind (arith, e))
pop_front (x ∷ xs) g (b ∷ f) F e = pop_front xs g f F (grind (arith, e))

pub empty_names : (f : Frame) → names f ≡ [] → f ≡ []
empty_names [] e = refl
empty_names (b ∷ f) e = absurd (grind (arith, e))

pub pop_all : (xs : List Name) (ws F : Frame) → names ws ≡ xs → pop xs (ws ++ F) ≡ F
pop_all xs ws F e =
    let p = pop_front xs [] ws F (e ∙ sym (append-nil xs)) in
    p.1 ∙ ap (λ z. z ++ F) (empty_names (pop xs ws) p.0)

pub pop_push : (xs : List Name) (v : List Value) (f : Frame) → pop xs (push xs v f) ≡ f
pop_push [] v f = refl
pop_push (x ∷ xs) [] f = pop_push xs [] f
pop_push (x ∷ xs) (w ∷ v) f = pop_push xs v f

pub lookup_skip : (y x : Name) (v : Value) (ys F : Frame) → bytes_eq y x ≡ false → lookup y (ys ++ (x, v) ∷ F) ≡ lookup y (ys ++ F)
lookup_skip y x v [] F h = ap (λ c. if c then v else lookup y F) h
lookup_skip y x v (b ∷ ys) F h = ap (λ z. if bytes_eq y b.0 then b.1 else z) (lookup_skip y x v ys F h)

pub lookup_put_other : (y z : Name) (v : Value) (F : Frame) → bytes_eq y z ≡ false → lookup y (put z v F) ≡ lookup y F
lookup_put_other y z v [] h = refl
lookup_put_other y z v (b ∷ F) h = go (bytes_eq z b.0) refl (lookup_put_other y z v F h)
  where
    other : bytes_eq z b.0 ≡ true → bytes_eq y b.0 ≡ false
    other e = subst (λ w. bytes_eq y w ≡ false) (name_true z b.0 e) h

    go : (c : Bool) → bytes_eq z b.0 ≡ c → lookup y (put z v F) ≡ lookup y F → lookup y (if c then (b.0, v) ∷ F else b ∷ put z v F) ≡ (if bytes_eq y b.0 then b.1 else lookup y F)
    go true e r = rw (other e)
    go false e r = ap (λ w. if bytes_eq y b.0 then b.1 else w) r

pub lookup_put_same : (z : Name) (v : Value) (f : Frame) → has z (names f) ≡ true → lookup z (put z v f) ≡ v
lookup_put_same z v [] h = absurd (true≢false (sym h))
lookup_put_same z v (b ∷ f) h = go (bytes_eq z b.0) refl h (lookup_put_same z v f)
  where
    go : (c : Bool) → bytes_eq z b.0 ≡ c → (if c then true else has z (names f)) ≡ true → (has z (names f) ≡ true → lookup z (put z v f) ≡ v) → lookup z (if c then (b.0, v) ∷ f else b ∷ put z v f) ≡ v
    go true e h r = ap (λ c. if c then v else lookup z f) e
    go false e h r = ap (λ c. if c then b.1 else lookup z (put z v f)) e ∙ r h

-- a variable that is bound in front
pub lookup_here : (x : Name) (v : Value) (F : Frame) → lookup x ((x, v) ∷ F) ≡ v
lookup_here x v F = ap (λ c. if c then v else lookup x F) (name_self x)

pub has_one : (z x : Name) → bytes_eq z x ≡ false → has z (x ∷ []) ≡ false
has_one z x h = ap (λ b. if b then true else false) h

pub one_has : (z x : Name) → has z (x ∷ []) ≡ false → bytes_eq z x ≡ false
one_has z x h = go (bytes_eq z x) h
  where
    go : (c : Bool) → (if c then true else false) ≡ false → c ≡ false
    go true h = absurd (true≢false h)
    go false h = refl

-- A called literal that is all that a return returns is the block of its body with its returns turned.
use Rattle.std.proofs.Common.{◌≡◌, ℕ, zero, suc, List, [], ◌∷◌, ◌++◌, length, Bool, true, false, true≢false, if◌then◌else◌, Option, Some, None, refl, sym, ap, ◌∙◌, subst, arith}
use Rattle.std.specs.Prelude.{bytes_eq}
use Rattle.std.proofs.lemmas.List.{append-nil}
use Rattle.std.proofs.lemmas.Bool.{eqb-true}
use Rattle.go_kernel.specs.Kernel.{return_label, Name, Label, FuncName, Value, Reason, Term, Vals, Local, Set, Both, Prim as Prim', If, Let, Loop, Leave, Catch, Within, Alone, Recover, Call, Defer, DeferLit, Frame, Deferred, Store, read_slots, push, Program}
use Rattle.go_kernel.specs.Scope.{names, has}
use Rattle.go_kernel.specs.Conditions.{width, each_free, none_in}
use Rattle.go_kernel.specs.Forms.{in_frames, distinct_names, never, same_names, is_return, sets_slots, returned, turned, retarget, has_width, may_read, may_set, works, returns, returns_or, turns}
use Rattle.go_kernel.proofs.FreshNames.{name_true, name_self}
use Rattle.go_kernel.proofs.FrameFacts.{by_has, lookup_here}
use Rattle.go_kernel.proofs.TermConditions.{keep}
use Rattle.go_kernel.proofs.Inserted
use Rattle.go_kernel.proofs.DeepItems.{both_true, not_true}
use Rattle.go_kernel.proofs.PlacedAlike.{Expr}
use Rattle.go_kernel.proofs.ComputedConditions.{test_fit, width_is}
use Rattle.go_kernel.proofs.Tail.{Apart, DistinctNames, Sink, Tail, slots_apart, ws, ws_names, tail_is_return, ret, work, let', both, if', loop, catch}
use Rattle.go_kernel.proofs.Never.{tidy_is, nothing_follows}
use Rattle.go_kernel.proofs.Means.{Mean, mean_trans}
use Rattle.go_kernel.proofs.WithinProgram.{Moves}

pub distinct_is : (xs : List Name) → distinct_names xs ≡ true → DistinctNames xs
distinct_is [] h = tt
distinct_is (x ∷ xs) h = let q = not_true _ _ h in (q.0, distinct_is xs q.1)

pub apart_is : (xs g : List Name) → none_in xs g ≡ true → Apart xs g
apart_is [] g h = tt
apart_is (x ∷ xs) g h = let q = not_true _ _ h in (q.0, apart_is xs g q.1)

names_is : (xs ys : List Name) → same_names xs ys ≡ true → xs ≡ ys
names_is [] [] h = refl
names_is [] (y ∷ ys) h = absurd (true≢false (sym h))
names_is (x ∷ xs) [] h = absurd (true≢false (sym h))
names_is (x ∷ xs) (y ∷ ys) h = let q : (bytes_eq x y ≡ true) × (same_names xs ys ≡ true) = both_true (bytes_eq x y) (same_names xs ys) h in cc (name_true x y q.0, names_is xs ys q.1)

is_return_is : (b : Term) → is_return b ≡ true → b ≡ Leave return_label
is_return_is (Leave l) h = ap Leave (name_true l return_label h)
is_return_is _ h = absurd (true≢false (sym h))

sets_slots_is : (ss : List Name) (a e : Term) → sets_slots ss a ≡ Some e → a ≡ Set ss e
sets_slots_is ss (Set xs e') e h = go (same_names xs ss) refl h
  where
    go : (b : Bool) → same_names xs ss ≡ b → (if b then Some e' else None) ≡ Some e → Set xs e' ≡ Set ss e
    go true k h = let m : e' ≡ e = grind (arith, h) in cc (names_is xs ss k, m)
    go false k h = absurd (grind (arith, h))
sets_slots_is ss _ e h = absurd (grind (arith, h))

returned_is : (ss xs : List Name) (a b e : Term) → returned ss xs a b ≡ Some e → Let xs a b ≡ Let [] (Set ss e) (Leave return_label)
returned_is ss [] a b e h = go (is_return b) refl h
  where
    go : (c : Bool) → is_return b ≡ c → (if c then sets_slots ss a else None) ≡ Some e → Let [] a b ≡ Let [] (Set ss e) (Leave return_label)
    go true k h = cc (sets_slots_is ss a e h, is_return_is b k)
    go false k h = absurd (grind (arith, h))
returned_is ss (x ∷ xs) a b e h = absurd (grind (arith, h))

-- slots that were just pushed
read_skip : (x : Name) (w : Value) (xs : List Name) (f : Frame) (c : Store) → has x xs ≡ false → read_slots (in_frames xs) ((x, w) ∷ f) c ≡ read_slots (in_frames xs) f c
read_skip x w [] f c h = refl
read_skip x w (y ∷ xs) f c h = go (bytes_eq x y) refl h (read_skip x w xs f c)
  where
    go : (b : Bool) → bytes_eq x y ≡ b → (if b then true else has x xs) ≡ false → (has x xs ≡ false → read_slots (in_frames xs) ((x, w) ∷ f) c ≡ read_slots (in_frames xs) f c) → read_slots (in_frames (y ∷ xs)) ((x, w) ∷ f) c ≡ read_slots (in_frames (y ∷ xs)) f c
    go true e h r = absurd (true≢false h)
    go false e h r =
        let d : bytes_eq y x ≡ false = by_has (bytes_eq y x) (λ k. absurd (true≢false (sym (ap (λ w. bytes_eq w y) (sym (name_true y x k)) ∙ name_self y) ∙ e))) (λ k. k) in
        cc (d, r h)

read_pushed : (xs : List Name) (v : List Value) (F : Frame) (c : Store) → DistinctNames xs → length v ≡ length xs → read_slots (in_frames xs) (push xs v [] ++ F) c ≡ v
read_pushed [] [] F c d l = refl
read_pushed [] (w ∷ v) F c d l = absurd (grind (arith, l))
read_pushed (x ∷ xs) [] F c d l = absurd (grind (arith, l))
read_pushed (x ∷ xs) (w ∷ v) F c d l = cc (lookup_here x w (push xs v [] ++ F), read_skip x w xs (push xs v [] ++ F) c d.0 ∙ read_pushed xs v F c d.1 (grind (arith, l)))

module _ (P : Program) (free : FuncName → Bool) (A : ℕ) (ps ss : List Name) (K : Sink P free A (length ss) ps) (clear : List Name → Bool) (clear_is : (g : List Name) → clear g ≡ true → K.Clear g) where
  module _ (ws F : Frame) (ws_names : names ws ≡ ss) (p : Option Reason) (ds : List Deferred) where
    moves : (g : List Name) (t : Term) → each_free (may_read P ps ss clear) (may_set P ps ss clear) false g t ≡ true → Moves (slots_apart P free A ps ss K ws F ws_names p ds) None p false g t t
    moves g t h =
        let W = slots_apart P free A ps ss K ws F ws_names p ds in
        subst (λ z. Moves W None p false z t t) (append-nil g)
        (keep W None p (λ g x h. Inserted.bound h) (λ g x h. Inserted.bound h) (λ g x. has x ss ≡ false) (λ g x. (has x ss ≡ false) × (has x ps ≡ true)) (λ o. Unit {0}) (Unit {0}) (λ o u. tt) (λ u. tt) []
        (λ k x m u. by_has (has x (k ++ [])) (λ e. Inserted.bound e) (λ e. Inserted.other e (subst (λ g. has x g ≡ false) (sym ws_names) u)))
        (λ k x m u. by_has (has x (k ++ [])) (λ e. Inserted.bound e) (λ e. Inserted.other e (subst (λ g. has x g ≡ false) (sym ws_names) u.0) u.1)) t false false (λ z. z) g
        (test_fit (may_read P ps ss clear) (may_set P ps ss clear) (λ g x. has x ss ≡ false) (λ g x. (has x ss ≡ false) × (has x ps ≡ true)) (λ g x k. (not_true (has x ss) true k).0) (λ g x k. not_true (has x ss) (has x ps) k) t false g h))

    abbrev Tails : List Label → List Name → Term → Term → Type 0
    Tails = Tail P free A ps ss K ws F ws_names p ds

    works_is : (ls : List Label) (g : List Name) (t : Term) → works P ps ss clear ls g t ≡ true → Tails ls g t t
    works_is ls g t h = let q = both_true _ _ h in work (moves g t q.0) (tidy_is t ls q.1)

    width_of : (e : Term) (w : Option ℕ) → width P e ≡ w → has_width w (length ss) ≡ true → Expr P (length ss) e
    width_of e (Some k) q h = width_is P (length ss) e (q ∙ ap Some (eqb-true k (length ss) h))
    width_of e None q h = absurd (true≢false (sym h))

    returns_is : (ls : List Label) (g : List Name) (e : Term) → returns P ps ss clear g e ≡ true → Tails ls g (Let [] (Set ss e) (Leave return_label)) (Let [] (K.sink e) (Leave return_label))
    returns_is ls g e h =
        let q = both_true _ _ h in let m = both_true _ _ q.0 in let n = both_true _ _ q.1 in
        ret (moves g e m.0) (width_of e (width P e) refl m.1) (apart_is ss g n.0) (clear_is g n.1)

    let_tail : (ls : List Label) (g xs : List Name) (a b : Term) (o : Option Term) → returned ss xs a b ≡ o → returns_or P ps ss clear o g (if turns P ps ss clear ls g a then turns P ps ss clear ls (xs ++ g) b else false) ≡ true
        → (turns P ps ss clear ls g a ≡ true → Tails ls g a (retarget ss K.sink a)) → (turns P ps ss clear ls (xs ++ g) b ≡ true → Tails ls (xs ++ g) b (retarget ss K.sink b)) → Tails ls g (Let xs a b) (turned K.sink o (Let xs (retarget ss K.sink a) (retarget ss K.sink b)))
    let_tail ls g xs a b (Some e) q h i j = subst (λ t. Tails ls g t (Let [] (K.sink e) (Leave return_label))) (sym (returned_is ss xs a b e q)) (returns_is ls g e h)
    let_tail ls g xs a b None q h i j = let k = both_true _ _ h in let' (i k.0) (j k.1)

    pub tail_is : (t : Term) (ls : List Label) (g : List Name) → turns P ps ss clear ls g t ≡ true → Tails ls g t (retarget ss K.sink t)
    tail_is (Let xs a b) ls g h = let_tail ls g xs a b (returned ss xs a b) refl h (tail_is a ls g) (tail_is b ls (xs ++ g))
    tail_is (Both a b) ls g h = let q = both_true _ _ h in both (tail_is a ls g q.0) (tail_is b ls g q.1)
    tail_is (If c a b) ls g h = let q = both_true _ _ h in let m = both_true _ _ q.1 in let n = both_true _ _ q.0 in if' (moves g c n.0) (tidy_is c ls n.1) (tail_is a ls g m.0) (tail_is b ls g m.1)
    tail_is (Loop c b) ls g h = let q = both_true _ _ h in let n = both_true _ _ q.0 in loop (moves g c n.0) (tidy_is c ls n.1) (tail_is b ls g q.1)
    tail_is (Catch l a) ls g h = let q = not_true _ _ h in catch q.0 (tail_is a (l ∷ ls) g q.1)
    tail_is (Vals v) ls g h = works_is ls g (Vals v) h
    tail_is (Local x) ls g h = works_is ls g (Local x) h
    tail_is (Set xs a) ls g h = works_is ls g (Set xs a) h
    tail_is (Prim' o a) ls g h = works_is ls g (Prim' o a) h
    tail_is (Leave l) ls g h = works_is ls g (Leave l) h
    tail_is (Within a rs') ls g h = works_is ls g (Within a rs') h
    tail_is (Alone a) ls g h = works_is ls g (Alone a) h
    tail_is Recover ls g h = works_is ls g Recover h
    tail_is (Call f a) ls g h = works_is ls g (Call f a) h
    tail_is (Defer f a) ls g h = works_is ls g (Defer f a) h
    tail_is (DeferLit xs a b) ls g h = works_is ls g (DeferLit xs a b) h

  module _ (zs : List Value) (body a : Term) (k : ℕ) (gives : width P a ≡ Some k) (distinct : distinct_names ss ≡ true) (zeros : length zs ≡ length ss) (turns' : turns P ps ss clear [] [] body ≡ true) (never' : never (retarget ss K.sink body) ≡ true) where
    slots_length : (xs : List Name) → length (in_frames xs) ≡ length xs
    slots_length [] = refl
    slots_length (x ∷ xs) = ap suc (slots_length xs)

    pub tail_is_block : Mean P free A zero (Let [] (K.sink (Let ps a (Alone (Let ss (Vals zs) (Within body (in_frames ss)))))) (Leave return_label)) (Let ps a (retarget ss K.sink body))
    tail_is_block =
        let d = distinct_is ss distinct in
        let body' = retarget ss K.sink body in
        let whole = Let ps a (Alone (Let ss (Vals zs) (Within body (in_frames ss)))) in
        let one = tail_is_return P free A ps ss K d zs zeros body body' (λ F p ds. tail_is (ws P free A ps ss K d zs zeros) F (ws_names P free A ps ss K d zs zeros) p ds body [] [] turns') (λ F c. read_pushed ss zs F c d zeros) a
        ((k, width_is P k a gives), ((length zs, refl), slots_length ss)) in
        let last = Let [] (K.sink (Vals zs)) (Leave return_label) in
        mean_trans P free A zero (Let [] (K.sink whole) (Leave return_label)) (Let [] (Let ps a body') last) (Let ps a body') one (nothing_follows P free A (Let ps a body') last (either_never (never a)))
      where
        either_never : (c : Bool) → (if c then true else never (retarget ss K.sink body)) ≡ true
        either_never true = refl
        either_never false = never'

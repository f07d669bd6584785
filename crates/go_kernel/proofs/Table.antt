-- The table of primitives holds: each fact is read off the kind of a primitive's definition.
use Rattle.std.proofs.Common.{◌≡◌, ◌≢◌, ℕ, zero, suc, ℤ, pos, negsuc, List, [], ◌∷◌, ◌++◌, length, Bool, true, false, true≢false, refl, sym, ap, ◌∙◌, subst, arith, nat_eq}
use Rattle.std.proofs.lemmas.Bool.{eqb-true}
use Rattle.std.specs.Prelude.{codes}
use Rattle.go_kernel.specs.Values.{Kind, Value, Number, Reason, runtime_error}
use Rattle.go_kernel.specs.Numbers.{int_eq, wrap, division}
use Rattle.go_kernel.specs.Store.{Store, empty_store}
use Rattle.go_kernel.specs.Ops.{Op, Arith, Divide, Shift, Negate, Complement, Convert, Not, Compare, Concat, ByteAt, BytesOfString, StringOfBytes, Field, SetField, StructLit, ReadGlobal, GlobalAddress, Load, Save, Address, Alloc, SliceLit, MakeSlice, Element, ElementAddress, Len, Cap, Copy, Append, Slicing, MapLit, MakeMap, MapLen, MapSet, MapDelete, MapGet, MapTry, RangeMap, RangeNext, Emit, Fail, Check, Checked, Unchecked, Division, Direction}
use Rattle.go_kernel.specs.Actions.{Answer, Ok, Fails, Attempt, Done, Panics, Outcome, Changes, Refuses, Action, Compute, Read, Try, TryRead, Write, TryWrite, Draw, exactly, of_attempt, of_outcome, perform, values_done}
use Rattle.go_kernel.specs.Prims.{action, gives, prim}
use Rattle.go_kernel.specs.Effects.{Effect, computes, looks, changes, chooses, or_panics, effect, values_of, IsPure, IsLook, SeesMemory, IsCalm, KeepsMemory, Keeps, Makes}

-- what an action may do
abbrev pub effect_of : Action → Effect
effect_of (Compute f) = computes
effect_of (Read f) = looks
effect_of (Try f) = or_panics computes
effect_of (TryRead f) = or_panics looks
effect_of (Write f) = changes
effect_of (TryWrite f) = or_panics changes
effect_of (Draw f) = chooses

pub effect_is : (o : Op) → effect o ≡ effect_of (action o)
effect_is (Arith o k) = refl
effect_is (Divide Checked o k) = refl
effect_is (Divide Unchecked o k) = refl
effect_is (Shift Checked d k) = refl
effect_is (Shift Unchecked d k) = refl
effect_is (Negate k) = refl
effect_is (Complement k) = refl
effect_is (Convert k) = refl
effect_is Not = refl
effect_is (Compare o) = refl
effect_is Concat = refl
effect_is ByteAt = refl
effect_is BytesOfString = refl
effect_is StringOfBytes = refl
effect_is (Field i) = refl
effect_is (SetField is) = refl
effect_is (StructLit z is) = refl
effect_is (ReadGlobal p n) = refl
effect_is (GlobalAddress p n) = refl
effect_is (Load Checked) = refl
effect_is (Load Unchecked) = refl
effect_is (Save Checked) = refl
effect_is (Save Unchecked) = refl
effect_is (Address Checked is) = refl
effect_is (Address Unchecked is) = refl
effect_is Alloc = refl
effect_is (SliceLit z is) = refl
effect_is (MakeSlice z) = refl
effect_is Element = refl
effect_is ElementAddress = refl
effect_is Len = refl
effect_is Cap = refl
effect_is Copy = refl
effect_is (Append z) = refl
effect_is (Slicing low high) = refl
effect_is MapLit = refl
effect_is MakeMap = refl
effect_is MapLen = refl
effect_is MapSet = refl
effect_is MapDelete = refl
effect_is (MapGet z) = refl
effect_is (MapTry z) = refl
effect_is RangeMap = refl
effect_is RangeNext = refl
effect_is (Emit p) = refl
effect_is (Fail t) = refl

-- ---- of each action

act_pure : (k : ℕ) (a : Action) (vs : List Value) (c : Store) → (effect_of a).may_panic ≡ false → (effect_of a).reads ≡ false → perform k a vs c ≡ Ok (values_of (perform k a vs (empty_store []))) c []
act_pure k (Compute f) vs c p r = refl
act_pure k (Read f) vs c p r = absurd (true≢false r)
act_pure k (Try f) vs c p r = absurd (true≢false p)
act_pure k (TryRead f) vs c p r = absurd (true≢false p)
act_pure k (Write f) vs c p r = absurd (true≢false r)
act_pure k (TryWrite f) vs c p r = absurd (true≢false p)
act_pure k (Draw f) vs c p r = absurd (true≢false r)

act_look : (k : ℕ) (a : Action) (vs : List Value) (c : Store) → (effect_of a).may_panic ≡ false → (effect_of a).writes ≡ false → (effect_of a).draws ≡ false → perform k a vs c ≡ Ok (values_of (perform k a vs c)) c []
act_look k (Compute f) vs c p w d = refl
act_look k (Read f) vs c p w d = refl
act_look k (Try f) vs c p w d = absurd (true≢false p)
act_look k (TryRead f) vs c p w d = absurd (true≢false p)
act_look k (Write f) vs c p w d = absurd (true≢false w)
act_look k (TryWrite f) vs c p w d = absurd (true≢false p)
act_look k (Draw f) vs c p w d = absurd (true≢false d)

attempt_values : (k : ℕ) (r : Attempt) (c d : Store) → values_of (of_attempt k r c) ≡ values_of (of_attempt k r d)
attempt_values k (Done vs) c d = refl
attempt_values k (Panics p) c d = refl

outcome_values : (k : ℕ) (r : Outcome) (c d : Store) → values_of (of_outcome k r c) ≡ values_of (of_outcome k r d)
outcome_values k (Changes r) c d = refl
outcome_values k (Refuses p) c d = refl

act_sees : (k : ℕ) (a : Action) (vs : List Value) (c d : Store) → (effect_of a).draws ≡ false → c.memory ≡ d.memory → values_of (perform k a vs c) ≡ values_of (perform k a vs d)
act_sees k (Compute f) vs c d q e = refl
act_sees k (Read f) vs c d q e = ap (λ m. exactly k (f vs m)) e
act_sees k (Try f) vs c d q e = attempt_values k (f vs) c d
act_sees k (TryRead f) vs c d q e = ap (λ m. values_of (of_attempt k (f vs m) c)) e ∙ attempt_values k (f vs d.memory) c d
act_sees k (Write f) vs c d q e = ap (λ m. exactly k (f vs m).values) e
act_sees k (TryWrite f) vs c d q e = ap (λ m. values_of (of_outcome k (f vs m) c)) e ∙ outcome_values k (f vs d.memory) c d
act_sees k (Draw f) vs c d q e = absurd (true≢false q)

abbrev IsFault : Answer → Bool
IsFault (Ok vs c e) = false
IsFault (Fails p) = true

act_calm : (k : ℕ) (a : Action) (vs : List Value) (c : Store) → (effect_of a).may_panic ≡ false → IsFault (perform k a vs c) ≡ false
act_calm k (Compute f) vs c p = refl
act_calm k (Read f) vs c p = refl
act_calm k (Try f) vs c p = absurd (true≢false p)
act_calm k (TryRead f) vs c p = absurd (true≢false p)
act_calm k (Write f) vs c p = refl
act_calm k (TryWrite f) vs c p = absurd (true≢false p)
act_calm k (Draw f) vs c p = refl

-- the store and the events of an answer that is no panic
abbrev Kept : Store → Answer → Type 0
Kept c (Ok vs d e) = (d ≡ c) × (e ≡ [])
Kept c (Fails p) = Unit {0}

attempt_keeps : (k : ℕ) (r : Attempt) (c : Store) → Kept c (of_attempt k r c)
attempt_keeps k (Done vs) c = (refl, refl)
attempt_keeps k (Panics p) c = tt

act_keeps : (k : ℕ) (a : Action) (vs : List Value) (c : Store) → (effect_of a).writes ≡ false → (effect_of a).draws ≡ false → Kept c (perform k a vs c)
act_keeps k (Compute f) vs c w d = (refl, refl)
act_keeps k (Read f) vs c w d = (refl, refl)
act_keeps k (Try f) vs c w d = attempt_keeps k (f vs) c
act_keeps k (TryRead f) vs c w d = attempt_keeps k (f vs c.memory) c
act_keeps k (Write f) vs c w d = absurd (true≢false w)
act_keeps k (TryWrite f) vs c w d = absurd (true≢false w)
act_keeps k (Draw f) vs c w d = absurd (true≢false d)

abbrev MemoryKept : Store → Answer → Type 0
MemoryKept c (Ok vs d e) = (d.memory ≡ c.memory) × (e ≡ [])
MemoryKept c (Fails p) = Unit {0}

attempt_keeps_memory : (k : ℕ) (r : Attempt) (c : Store) → MemoryKept c (of_attempt k r c)
attempt_keeps_memory k (Done vs) c = (refl, refl)
attempt_keeps_memory k (Panics p) c = tt

act_keeps_memory : (k : ℕ) (a : Action) (vs : List Value) (c : Store) → (effect_of a).writes ≡ false → MemoryKept c (perform k a vs c)
act_keeps_memory k (Compute f) vs c w = (refl, refl)
act_keeps_memory k (Read f) vs c w = (refl, refl)
act_keeps_memory k (Try f) vs c w = attempt_keeps_memory k (f vs) c
act_keeps_memory k (TryRead f) vs c w = attempt_keeps_memory k (f vs c.memory) c
act_keeps_memory k (Write f) vs c w = absurd (true≢false w)
act_keeps_memory k (TryWrite f) vs c w = absurd (true≢false w)
act_keeps_memory k (Draw f) vs c w = (refl, refl)

pub length_exactly : (k : ℕ) (vs : List Value) → length (exactly k vs) ≡ k
length_exactly zero vs = refl
length_exactly (suc k) [] = ap suc (length_exactly k [])
length_exactly (suc k) (v ∷ vs) = ap suc (length_exactly k vs)

abbrev HasLength : ℕ → Answer → Type 0
HasLength k (Ok vs d e) = length vs ≡ k
HasLength k (Fails p) = Unit {0}

attempt_length : (k : ℕ) (r : Attempt) (c : Store) → HasLength k (of_attempt k r c)
attempt_length k (Done vs) c = length_exactly k vs
attempt_length k (Panics p) c = tt

outcome_length : (k : ℕ) (r : Outcome) (c : Store) → HasLength k (of_outcome k r c)
outcome_length k (Changes r) c = length_exactly k r.values
outcome_length k (Refuses p) c = tt

act_length : (k : ℕ) (a : Action) (vs : List Value) (c : Store) → HasLength k (perform k a vs c)
act_length k (Compute f) vs c = length_exactly k (f vs)
act_length k (Read f) vs c = length_exactly k (f vs c.memory)
act_length k (Try f) vs c = attempt_length k (f vs) c
act_length k (TryRead f) vs c = attempt_length k (f vs c.memory) c
act_length k (Write f) vs c = length_exactly k (f vs c.memory).values
act_length k (TryWrite f) vs c = outcome_length k (f vs c.memory) c
act_length k (Draw f) vs c = length_exactly k (f vs c.memory c.choices).values

-- ---- of each primitive

panic_same : (o : Op) → (effect o).may_panic ≡ false → (effect_of (action o)).may_panic ≡ false
panic_same o p = sym (ap (λ e. e.may_panic) (effect_is o)) ∙ p

reads_same : (o : Op) → (effect o).reads ≡ false → (effect_of (action o)).reads ≡ false
reads_same o r = sym (ap (λ e. e.reads) (effect_is o)) ∙ r

writes_same : (o : Op) → (effect o).writes ≡ false → (effect_of (action o)).writes ≡ false
writes_same o w = sym (ap (λ e. e.writes) (effect_is o)) ∙ w

draws_same : (o : Op) → (effect o).draws ≡ false → (effect_of (action o)).draws ≡ false
draws_same o d = sym (ap (λ e. e.draws) (effect_is o)) ∙ d

pub pure_is : (o : Op) → (effect o).may_panic ≡ false → (effect o).reads ≡ false → IsPure o
unfolding IsPure prim
pure_is o p r vs c = act_pure (gives o) (action o) vs c (panic_same o p) (reads_same o r)

pub look_is : (o : Op) → (effect o).may_panic ≡ false → (effect o).writes ≡ false → (effect o).draws ≡ false → IsLook o
unfolding IsLook prim
look_is o p w d vs c = act_look (gives o) (action o) vs c (panic_same o p) (writes_same o w) (draws_same o d)

pub sees_memory : (o : Op) → (effect o).draws ≡ false → SeesMemory o
unfolding SeesMemory prim
sees_memory o d vs c c' e = act_sees (gives o) (action o) vs c c' (draws_same o d) e

pub calm_is : (o : Op) → (effect o).may_panic ≡ false → IsCalm o
unfolding IsCalm prim
calm_is o p vs c q e = absurd (true≢false (sym (ap IsFault e) ∙ act_calm (gives o) (action o) vs c (panic_same o p)))

pub keeps_memory_is : (o : Op) → (effect o).writes ≡ false → KeepsMemory o
unfolding KeepsMemory prim
keeps_memory_is o w vs ws c d e z = subst (MemoryKept c) z (act_keeps_memory (gives o) (action o) vs c (writes_same o w))

pub keeps_is : (o : Op) → (effect o).writes ≡ false → (effect o).draws ≡ false → Keeps o
unfolding Keeps prim
keeps_is o w r vs ws c d e z = subst (Kept c) z (act_keeps (gives o) (action o) vs c (writes_same o w) (draws_same o r))

pub makes : (o : Op) → Makes o (gives o)
unfolding Makes prim
makes o vs ws c d e z = subst (HasLength (gives o)) z (act_length (gives o) (action o) vs c)

-- ---- constant operands

known_quotient : (r s : List Value) (c : Store) (p : Reason) (b : Bool) → b ≡ false → of_attempt 1 (elim b [ true ↦ Panics p | false ↦ Done r ]) c ≡ perform 1 (Compute (λ vs. values_done (elim b [ true ↦ Panics p | false ↦ Done r ]))) s c
known_quotient r s c p true e = absurd (true≢false e)
known_quotient r s c p false e = refl

int_eq_zero : (b : ℤ) → b ≢ pos 0 → int_eq b (pos 0) ≡ false
int_eq_zero (pos zero) h = absurd (h refl)
int_eq_zero (pos (suc n)) h = go (nat_eq (suc n) 0) refl
  where
    go : (b : Bool) → nat_eq (suc n) 0 ≡ b → b ≡ false
    go true e = let k : suc n ≡ 0 = eqb-true (suc n) 0 e in let no : ⊥ = omega (arith, k) in absurd no
    go false e = refl
int_eq_zero (negsuc n) h = refl

-- where a division or shift with this last operand doesn't panic, checked and unchecked are the same
abbrev Same : (Check → Op) → List Value → Store → Type 0
Same o vs c = prim (o Checked) vs c ≡ prim (o Unchecked) vs c

divide_numbers : (o : Division) (j k l : Kind) (a b : ℤ) (c : Store) → b ≢ pos 0 → Same (λ z. Divide z o k) (Number j a ∷ Number l b ∷ []) c
unfolding prim
divide_numbers o j k l a b c h = known_quotient (Number k (wrap k (division o a b)) ∷ []) (Number j a ∷ Number l b ∷ []) c (runtime_error (codes "divide")) (int_eq b (pos 0)) (int_eq_zero b h)

divide_more : (o : Division) (k : Kind) (x y z : Value) (vs : List Value) (c : Store) → Same (λ z. Divide z o k) (x ∷ y ∷ z ∷ vs) c
unfolding prim
divide_more o k (Number j a) (Number l b) z vs c = refl
divide_more o k x y z vs c = refl

pub divide_same : (o : Division) (k l : Kind) (b : ℤ) (vs : List Value) (c : Store) → b ≢ pos 0 → Same (λ z. Divide z o k) (vs ++ Number l b ∷ []) c
unfolding prim
divide_same o k l b [] c h = refl
divide_same o k l b (Number j a ∷ []) c h = divide_numbers o j k l a b c h
divide_same o k l b (v ∷ []) c h = refl
divide_same o k l b (x ∷ y ∷ []) c h = divide_more o k x y (Number l b) [] c
divide_same o k l b (x ∷ y ∷ z ∷ vs) c h = divide_more o k x y z (vs ++ Number l b ∷ []) c

shift_more : (d : Direction) (k : Kind) (x y z : Value) (vs : List Value) (c : Store) → Same (λ z. Shift z d k) (x ∷ y ∷ z ∷ vs) c
unfolding prim
shift_more d k (Number j a) (Number l (pos n)) z vs c = refl
shift_more d k (Number j a) (Number l (negsuc n)) z vs c = refl
shift_more d k x y z vs c = refl

pub shift_same : (d : Direction) (k l : Kind) (n : ℕ) (vs : List Value) (c : Store) → Same (λ z. Shift z d k) (vs ++ Number l (pos n) ∷ []) c
unfolding prim
shift_same d k l n [] c = refl
shift_same d k l n (Number j a ∷ []) c = refl
shift_same d k l n (v ∷ []) c = refl
shift_same d k l n (x ∷ y ∷ []) c = shift_more d k x y (Number l (pos n)) [] c
shift_same d k l n (x ∷ y ∷ z ∷ vs) c = shift_more d k x y z (vs ++ Number l (pos n) ∷ []) c

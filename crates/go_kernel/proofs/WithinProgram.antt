-- One simulation for all moves of parts within a program: frames may differ by a relation, parts by base pairs.
use Rattle.std.proofs.Common.{◌≡◌, ℕ, zero, suc, List, [], ◌∷◌, ◌++◌, Bool, true, false, if◌then◌else◌, Option, Some, None, refl, subst}
use Rattle.std.specs.Prelude.{bytes_eq}
use Rattle.go_kernel.specs.Kernel.{Name, Label, FuncName, Value, Truth, Op, Term, Vals, Local, Set, Both, Prim as Prim', If, Let, Loop, Leave, Catch, Within, Alone, Recover, Call, Defer, DeferLit, Slot, InFrame, InCell, Frame, Deferred, Store, State, Exit, Gone, Panic, Result, Gives, Leaves, Cuts, Level, after, lookup, put, put_all, push, pop, Answer, Ok, Fails, prim, answered, on_truth, popped, caught_by, entered, back, called, ending, panic_of, run_one, unwind, resumed, unwound, read_slots, with_pending, is_pending, Program, eval, cut, picks, chain, free_level, Event, Reason}

-- what two runs may differ in
pub record Way : Type 1 where
  -- the frames of two runs, under the names bound since, and the store
  pub R : List Name → Frame → Store → Frame → Type 0
  pub Reads : List Name → Name → Type 0
  pub Sets : List Name → Name → Type 0
  -- names of one variable that differ
  pub Pairs : List Name → Name → Name → Type 0
  pub Does : Op → Type 0
  pub Writes : Type 0
  pub Base : List Name → Term → Term → Type 0
  pub on_read : (g : List Name) (f : Frame) (c : Store) (f' : Frame) (x : Name) → R g f c f' → Reads g x → lookup x f ≡ lookup x f'
  pub on_set : (g : List Name) (f : Frame) (c : Store) (f' : Frame) (x : Name) (v : Value) → R g f c f' → Sets g x → R g (put x v f) c (put x v f')
  pub on_pair : (g : List Name) (f : Frame) (c : Store) (f' : Frame) (x x' : Name) (v : Value) → R g f c f' → Pairs g x x' → R g (put x v f) c (put x' v f')
  pub on_push : (g : List Name) (f : Frame) (c : Store) (f' : Frame) (xs : List Name) (v : List Value) → R g f c f' → R (xs ++ g) (push xs v f) c (push xs v f')
  pub on_pop : (g : List Name) (f : Frame) (c : Store) (f' : Frame) (xs : List Name) → R (xs ++ g) f c f' → R g (pop xs f) c (pop xs f')
  pub on_ok : (g : List Name) (f : Frame) (c : Store) (f' : Frame) (o : Op) (v w : List Value) (c' : Store) (e : List Event) → R g f c f' → Does o → prim o v c ≡ Ok w c' e → R g f c' f'
  pub on_writes : (g : List Name) (f : Frame) (c c' : Store) (f' : Frame) → R g f c f' → Writes → R g f c' f'

-- with the same pending panic, or, where 'recover' does not stand, with two given ones
pub data Pend (p0 p0' : Option Reason) : Bool → Option Reason → Option Reason → Type 0 where
  equal : {p : Option Reason} → Pend p0 p0' true p p
  apart : Pend p0 p0' false p0 p0'

module _ (W : Way) (p0 p0' : Option Reason) where
  pub data All : List Name → List Name → List Name → Type 0 where
    no_sets : {g : List Name} → All g [] []
    and_set : {g : List Name} {x : Name} {xs xs' : List Name} → W.Sets g x → All g xs xs' → All g (x ∷ xs) (x ∷ xs')
    and_pair : {g : List Name} {x x' : Name} {xs xs' : List Name} → W.Pairs g x x' → All g xs xs' → All g (x ∷ xs) (x' ∷ xs')

  pub data Slots : List Name → List Slot → Type 0 where
    no_slots : {g : List Name} → Slots g []
    in_frame : {g : List Name} {x : Name} {rs : List Slot} → W.Reads g x → Slots g rs → Slots g (InFrame x ∷ rs)
    in_cell : {g : List Name} {x : Name} {rs : List Slot} → W.Reads g x → Slots g rs → Slots g (InCell x ∷ rs)

  -- two terms, whether 'recover' may stand in them, and the names bound since
  pub data Moves : Bool → List Name → Term → Term → Type 0 where
    vals : {r : Bool} {g : List Name} {v : List Value} → Moves r g (Vals v) (Vals v)
    local : {r : Bool} {g : List Name} {x : Name} → W.Reads g x → Moves r g (Local x) (Local x)
    set : {r : Bool} {g xs xs' : List Name} {a a' : Term} → All g xs xs' → Moves r g a a' → Moves r g (Set xs a) (Set xs' a')
    both : {r : Bool} {g : List Name} {a a' b b' : Term} → Moves r g a a' → Moves r g b b' → Moves r g (Both a b) (Both a' b')
    prim' : {r : Bool} {g : List Name} {o : Op} {a a' : Term} → W.Does o → Moves r g a a' → Moves r g (Prim' o a) (Prim' o a')
    if' : {r : Bool} {g : List Name} {a a' b b' c c' : Term} → Moves r g a a' → Moves r g b b' → Moves r g c c' → Moves r g (If a b c) (If a' b' c')
    let' : {r : Bool} {g xs : List Name} {a a' b b' : Term} → Moves r g a a' → Moves r (xs ++ g) b b' → Moves r g (Let xs a b) (Let xs a' b')
    loop : {r : Bool} {g : List Name} {a a' b b' : Term} → Moves r g a a' → Moves r g b b' → Moves r g (Loop a b) (Loop a' b')
    leave : {r : Bool} {g : List Name} {l : Label} → Moves r g (Leave l) (Leave l)
    catch : {r : Bool} {g : List Name} {l : Label} {a a' : Term} → Moves r g a a' → Moves r g (Catch l a) (Catch l a')
    within : {r : Bool} {g : List Name} {a a' : Term} {rs : List Slot} → Slots g rs → Moves r g a a' → Moves r g (Within a rs) (Within a' rs)
    alone : {r : Bool} {g : List Name} {a a' : Term} → Moves true g a a' → Moves r g (Alone a) (Alone a')
    recover : {g : List Name} → Moves true g Recover Recover
    call : {r : Bool} {g : List Name} {f : FuncName} {a a' : Term} → W.Writes → Moves r g a a' → Moves r g (Call f a) (Call f a')
    defer : {r : Bool} {g : List Name} {f : FuncName} {a a' : Term} → W.Writes → Moves r g a a' → Moves r g (Defer f a) (Defer f a')
    defer_lit : {r : Bool} {g xs : List Name} {a a' b b' : Term} → W.Writes → Moves r g a a' → Moves true (xs ++ g) b b' → Moves r g (DeferLit xs a b) (DeferLit xs a' b')
    base : {r : Bool} {g : List Name} {a a' : Term} → W.Base g a a' → Moves r g a a'

  -- deferred calls
  pub data Behind : Deferred → Deferred → Type 0 where
    inner : {g : List Name} {f f' : Frame} {b b' : Term} → W.Writes → ((c : Store) → W.R g f c f') → Moves true g b b' → Behind (record { frame = f; body = b }) (record { frame = f'; body = b' })
    outer : {d : Deferred} → W.Writes → Behind d d

  pub data Upon (B B' : List Deferred) : List Deferred → List Deferred → Type 0 where
    base : Upon B B' B B'
    more : {d d' : Deferred} {ds ds' : List Deferred} → Behind d d' → Upon B B' ds ds' → Upon B B' (d ∷ ds) (d' ∷ ds')

  pub data Fits (B B' : List Deferred) (r : Bool) (g : List Name) : State → State → Type 0 where
    fits : {f f' : Frame} {c : Store} {p p' : Option Reason} {o : List Event} {ds ds' : List Deferred} → W.R g f c f' → Pend p0 p0' r p p' → Upon B B' ds ds'
        → Fits B B' r g (record { frame = f; store = c; pending = p; defers = ds; out = o }) (record { frame = f'; store = c; pending = p'; defers = ds'; out = o })

  pub data Acts (B B' : List Deferred) (r : Bool) (g : List Name) : Result → Result → Type 0 where
    gives : {v : List Value} {s s' : State} → Fits B B' r g s s' → Acts B B' r g (Gives v s) (Gives v s')
    leaves : {e : Exit} {s s' : State} → Fits B B' r g s s' → Acts B B' r g (Leaves e s) (Leaves e s')
    cuts : {o : List Event} → Acts B B' r g (Cuts o) (Cuts o)

  abbrev pub Follows : Level → Type 0
  Follows l = (B B' : List Deferred) (r : Bool) (g : List Name) (t t' : Term) → Moves r g t t' → (s s' : State) → Fits B B' r g s s' → Acts B B' r g (l t s) (l t' s')

  module _ {X X' B B' : List Deferred} {q r : Bool} {g h : List Name} where
    pub after_acts : {a a' : Result} {k k' : List Value → State → Result} {x x' : Exit → State → Result} → Acts X X' q g a a'
        → ((v : List Value) (s s' : State) → Fits X X' q g s s' → Acts B B' r h (k v s) (k' v s')) → ((e : Exit) (s s' : State) → Fits X X' q g s s' → Acts B B' r h (x e s) (x' e s'))
        → Acts B B' r h (after a k x) (after a' k' x')
    after_acts (gives n) K H = K _ _ _ n
    after_acts (leaves n) K H = H _ _ _ n
    after_acts cuts K H = cuts

  pub put_all_moves : {g : List Name} {xs xs' : List Name} (v : List Value) {f f' : Frame} {c : Store} → All g xs xs' → W.R g f c f' → W.R g (put_all xs v f) c (put_all xs' v f')
  put_all_moves v no_sets e = e
  put_all_moves [] (and_set q a) e = e
  put_all_moves [] (and_pair q a) e = e
  put_all_moves (w ∷ v) (and_set {x = x} q a) e = put_all_moves v a (W.on_set _ _ _ _ x w e q)
  put_all_moves (w ∷ v) (and_pair {x = x} {x' = x'} q a) e = put_all_moves v a (W.on_pair _ _ _ _ x x' w e q)

  slots_move : {g : List Name} (rs : List Slot) {f f' : Frame} (c : Store) → Slots g rs → W.R g f c f' → read_slots rs f c ≡ read_slots rs f' c
  slots_move [] c no_slots e = refl
  slots_move (InFrame x ∷ rs) c (in_frame h q) e = cc (W.on_read _ _ _ _ x e h, slots_move rs c q e)
  slots_move (InCell x ∷ rs) c (in_cell h q) e = cc (W.on_read _ _ _ _ x e h, slots_move rs c q e)

  module _ {B B' : List Deferred} {r : Bool} {g : List Name} where
    pub go_on : (e : Exit) (s s' : State) → Fits B B' r g s s' → Acts B B' r g (Leaves e s) (Leaves e s')
    go_on e s s' n = leaves n

    pub each : {s s' : State} → Fits B B' r g s s' → Upon B B' s.defers s'.defers
    each (fits e p d) = d

    pub on_put : {xs xs' : List Name} (v : List Value) {s s' : State} → All g xs xs' → Fits B B' r g s s' → Fits B B' r g (record s { frame = put_all xs v s.frame }) (record s' { frame = put_all xs' v s'.frame })
    on_put v h (fits e p d) = fits (put_all_moves v h e) p d

    pub on_push : (xs : List Name) (v : List Value) {s s' : State} → Fits B B' r g s s' → Fits B B' r (xs ++ g) (record s { frame = push xs v s.frame }) (record s' { frame = push xs v s'.frame })
    on_push xs v (fits e p d) = fits (W.on_push _ _ _ _ xs v e) p d

    pub on_pop : (xs : List Name) {s s' : State} → Fits B B' r (xs ++ g) s s' → Fits B B' r g (record s { frame = pop xs s.frame }) (record s' { frame = pop xs s'.frame })
    on_pop xs (fits e p d) = fits (W.on_pop _ _ _ _ xs e) p d

    pub looked : (x : Name) {s s' : State} → W.Reads g x → Fits B B' r g s s' → Acts B B' r g (Gives (lookup x s.frame ∷ []) s) (Gives (lookup x s'.frame ∷ []) s')
    looked x h (fits {f = f} {f' = f'} {c = c} {p = p} {p' = p'} {o = o} {ds = ds} {ds' = ds'} e q d) =
        let s : State = record { frame = f; store = c; pending = p; defers = ds; out = o } in
        let s' : State = record { frame = f'; store = c; pending = p'; defers = ds'; out = o } in
        subst (λ z. Acts B B' r g (Gives (lookup x f ∷ []) s) (Gives (z ∷ []) s')) (W.on_read _ _ _ _ x e h) (gives (fits e q d))

    pub slotted : (rs : List Slot) {s s' : State} → Slots g rs → Fits B B' r g s s' → Acts B B' r g (Gives (read_slots rs s.frame s.store) s) (Gives (read_slots rs s'.frame s'.store) s')
    slotted rs h (fits {f = f} {f' = f'} {c = c} {p = p} {p' = p'} {o = o} {ds = ds} {ds' = ds'} e q d) =
        let s : State = record { frame = f; store = c; pending = p; defers = ds; out = o } in
        let s' : State = record { frame = f'; store = c; pending = p'; defers = ds'; out = o } in
        subst (λ z. Acts B B' r g (Gives (read_slots rs f c) s) (Gives z s')) (slots_move rs c h e) (gives (fits e q d))

    pub primed : (o : Op) (v : List Value) {s s' : State} → W.Does o → Fits B B' r g s s' → Acts B B' r g (answered (prim o v s.store) s) (answered (prim o v s'.store) s')
    primed o v h (fits {f = f} {f' = f'} {c = c} {p = p} {p' = p'} {o = out} {ds = ds} {ds' = ds'} e q d) = go (prim o v c) refl
      where
        go : (a : Answer) → prim o v c ≡ a → Acts B B' r g (answered a (record { frame = f; store = c; pending = p; defers = ds; out = out })) (answered a (record { frame = f'; store = c; pending = p'; defers = ds'; out = out }))
        go (Ok w c' y) z = gives (fits (W.on_ok _ _ _ _ o v w c' y e h z) q d)
        go (Fails w) z = leaves (fits e q d)

    pub on_truth_acts : {a a' b b' : Result} (v : List Value) → Acts B B' r g a a' → Acts B B' r g b b' → Acts B B' r g (on_truth v a b) (on_truth v a' b')
    on_truth_acts (Truth true ∷ []) A B = A
    on_truth_acts _ A B = B

    pub popped_acts : {a a' : Result} (xs : List Name) → Acts B B' r (xs ++ g) a a' → Acts B B' r g (popped xs a) (popped xs a')
    popped_acts xs C = after_acts C (λ v s s' n. gives (on_pop xs n)) (λ e s s' n. leaves (on_pop xs n))

    pub caught_acts : (l : Label) (e : Exit) (s s' : State) → Fits B B' r g s s' → Acts B B' r g (caught_by l e s) (caught_by l e s')
    caught_acts l (Panic p) s s' n = leaves n
    caught_acts l (Gone m) s s' n = go (bytes_eq l m)
      where
        go : (b : Bool) → Acts B B' r g (if b then Gives [] s else Leaves (Gone m) s) (if b then Gives [] s' else Leaves (Gone m) s')
        go true = gives n
        go false = leaves n

    -- what is called sees nothing of the frames, and one result serves both
    pub called_acts : {s s' : State} (a : Result) → W.Writes → Fits B B' r g s s' → Acts B B' r g (called s a) (called s' a)
    called_acts (Gives v t) w (fits e p d) = gives (fits (W.on_writes _ _ _ _ _ e w) p d)
    called_acts (Leaves x t) w (fits e p d) = leaves (fits (W.on_writes _ _ _ _ _ e w) p d)
    called_acts (Cuts o) w n = cuts

    pub call_acts : (l : Level) (x : Frame) (t : Term) {s s' : State} → W.Writes → Fits B B' r g s s' → Acts B B' r g (called s (l t (entered x None s))) (called s' (l t (entered x None s')))
    call_acts l x t w (fits {f = f} {f' = f'} {c = c} {p = p} {p' = p'} {o = o} {ds = ds} {ds' = ds'} e q d) =
        called_acts {s = record { frame = f; store = c; pending = p; defers = ds; out = o }} {s' = record { frame = f'; store = c; pending = p'; defers = ds'; out = o }} (l t (record { frame = x; store = c; pending = None; defers = []; out = o })) w (fits e q d)

  -- a deferred call leaves one panic, whatever was pending
  pub data Fits' (B B' : List Deferred) (g : List Name) : State → State → Type 0 where
    fits' : {f f' : Frame} {c : Store} {p : Option Reason} {o : List Event} {ds ds' : List Deferred} → W.R g f c f' → Upon B B' ds ds'
        → Fits' B B' g (record { frame = f; store = c; pending = p; defers = ds; out = o }) (record { frame = f'; store = c; pending = p; defers = ds'; out = o })

  pub data Acts' (B B' : List Deferred) (g : List Name) : Result → Result → Type 0 where
    gives' : {s s' : State} → Fits' B B' g s s' → Acts' B B' g (Gives [] s) (Gives [] s')
    cuts' : {o : List Event} → Acts' B B' g (Cuts o) (Cuts o)

  module _ (below : Level) (follows : Follows below) where
    run_acts : {B B' : List Deferred} {r : Bool} {g : List Name} {d d' : Deferred} → Behind d d' → (e : Option Reason) (s s' : State) → Fits B B' r g s s' → Acts' B B' g (run_one below d e s) (run_one below d' e s')
    run_acts {B} {B'} {r} {g} (inner {g = h} {f = x} {f' = x'} {b = b} {b' = b'} w y q) z _ _ (fits {f = f} {f' = f'} {c = c} {p = p} {p' = p'} {o = o} {ds = ds} {ds' = ds'} e u d) =
        go (follows [] [] true h b b' q (record { frame = x; store = c; pending = z; defers = []; out = o }) (record { frame = x'; store = c; pending = z; defers = []; out = o }) (fits (y c) equal base))
      where
        S : State
        S = record { frame = f; store = c; pending = p; defers = ds; out = o }

        S' : State
        S' = record { frame = f'; store = c; pending = p'; defers = ds'; out = o }

        go : {a a' : Result} → Acts [] [] true h a a'
            → Acts' B B' g (after a (λ v s1. Gives [] (record (back S s1) { pending = s1.pending })) (λ x s1. Gives [] (record (back S s1) { pending = panic_of s1.pending x })))
            (after a' (λ v s1. Gives [] (record (back S' s1) { pending = s1.pending })) (λ x s1. Gives [] (record (back S' s1) { pending = panic_of s1.pending x })))
        go (gives (fits _ equal _)) = gives' (fits' (W.on_writes _ _ _ _ _ e w) d)
        go (leaves (fits _ equal _)) = gives' (fits' (W.on_writes _ _ _ _ _ e w) d)
        go cuts = cuts'
    run_acts {B} {B'} {r} {g} (outer {d = k} w) z _ _ (fits {f = f} {f' = f'} {c = c} {p = p} {p' = p'} {o = o} {ds = ds} {ds' = ds'} e u d) =
        go (below k.body (record { frame = k.frame; store = c; pending = z; defers = []; out = o }))
      where
        S : State
        S = record { frame = f; store = c; pending = p; defers = ds; out = o }

        S' : State
        S' = record { frame = f'; store = c; pending = p'; defers = ds'; out = o }

        go : (a : Result)
            → Acts' B B' g (after a (λ v s1. Gives [] (record (back S s1) { pending = s1.pending })) (λ x s1. Gives [] (record (back S s1) { pending = panic_of s1.pending x })))
            (after a (λ v s1. Gives [] (record (back S' s1) { pending = s1.pending })) (λ x s1. Gives [] (record (back S' s1) { pending = panic_of s1.pending x })))
        go (Gives v t) = gives' (fits' (W.on_writes _ _ _ _ _ e w) d)
        go (Leaves x t) = gives' (fits' (W.on_writes _ _ _ _ _ e w) d)
        go (Cuts o) = cuts'

    ending_acts : {B B' : List Deferred} {r : Bool} {g : List Name} (e : Option Reason) (s s' : State) → Fits B B' r g s s' → Acts B B' r g (ending e s) (ending e s')
    ending_acts None s s' n = gives n
    ending_acts (Some p) s s' n = leaves n

    pub pend_of : {B B' : List Deferred} {r : Bool} {g : List Name} {s s' : State} → Fits B B' r g s s' → Pend p0 p0' r s.pending s'.pending
    pend_of (fits e p d) = p

    after_run : {B B' : List Deferred} {r : Bool} {g : List Name} (ds ds' : List Deferred) {p p' : Option Reason} {a a' : Result} → Pend p0 p0' r p p'
        → ((e : Option Reason) (s s' : State) → Fits B B' r g s s' → Acts B B' r g (unwind below ds e s) (unwind below ds' e s')) → Acts' B B' g a a'
        → Acts B B' r g (after a (λ v s1. unwind below ds s1.pending (record s1 { pending = p })) Leaves) (after a' (λ v s1. unwind below ds' s1.pending (record s1 { pending = p' })) Leaves)
    after_run ds ds' q U (gives' (fits' {p = e} y d)) = U e _ _ (fits y q d)
    after_run ds ds' q U cuts' = cuts

    unwind_acts : {B B' : List Deferred} {r : Bool} {g : List Name} {ds ds' : List Deferred} → Upon [] [] ds ds' → (e : Option Reason) (s s' : State) → Fits B B' r g s s' → Acts B B' r g (unwind below ds e s) (unwind below ds' e s')
    unwind_acts base e s s' n = ending_acts e s s' n
    unwind_acts (more {ds = ds} {ds' = ds'} q w) e s s' n = after_run ds ds' (pend_of n) (unwind_acts w) (run_acts q e s s' n)

    pub unwound_acts : {r : Bool} {g : List Name} {a a' : Result} → Acts [] [] r g a a' → Acts [] [] r g (unwound below a) (unwound below a')
    unwound_acts C = after_acts C (λ v s s' n. unwind_acts (each n) None s s' n) (λ e s s' n. unwind_acts (each n) (panic_of None e) s s' n)

    pub on_defers : {X X' B B' : List Deferred} {r : Bool} {g : List Name} {ds ds' : List Deferred} {s s' : State} → Upon B B' ds ds' → Fits X X' r g s s' → Fits B B' r g (record s { defers = ds }) (record s' { defers = ds' })
    on_defers e (fits n p d) = fits n p e

    pub resumed_acts : {X X' B B' : List Deferred} {r : Bool} {g : List Name} {ds ds' : List Deferred} {a a' : Result} → Upon B B' ds ds' → Acts X X' r g a a' → Acts B B' r g (resumed ds a) (resumed ds' a')
    resumed_acts d C = after_acts C (λ v s s' n. gives (on_defers d n)) (λ e s s' n. leaves (on_defers d n))

    pub on_alone : {B B' : List Deferred} {r : Bool} {g : List Name} {s s' : State} → Fits B B' r g s s' → Fits B B' true g (record s { pending = None }) (record s' { pending = None })
    on_alone (fits e p d) = fits e equal d

    pub put_pending : {B B' : List Deferred} {r q : Bool} {g : List Name} {p p' : Option Reason} {s s' : State} → Pend p0 p0' r p p' → Fits B B' q g s s' → Fits B B' r g (record s { pending = p }) (record s' { pending = p' })
    put_pending p (fits e x d) = fits e p d

    pub with_pending_acts : {B B' : List Deferred} {r : Bool} {g : List Name} {s s' : State} {a a' : Result} → Fits B B' r g s s' → Acts B B' true g a a' → Acts B B' r g (with_pending s.pending a) (with_pending s'.pending a')
    with_pending_acts n C = after_acts C (λ v t t' m. gives (put_pending (pend_of n) m)) (λ e t t' m. leaves (put_pending (pend_of n) m))

    recovered : {B B' : List Deferred} {g : List Name} {s s' : State} → Fits B B' true g s s' → Acts B B' true g (Gives (is_pending s.pending ∷ []) (record s { pending = None })) (Gives (is_pending s'.pending ∷ []) (record s' { pending = None }))
    recovered (fits e equal d) = gives (fits e equal d)

    defer_acts : {B B' : List Deferred} {r : Bool} {g : List Name} (d : Deferred) {s s' : State} → W.Writes → Fits B B' r g s s' → Acts B B' r g (Gives [] (record s { defers = d ∷ s.defers })) (Gives [] (record s' { defers = d ∷ s'.defers }))
    defer_acts d w (fits e p ds) = gives (fits e p (more (outer w) ds))

    lit_acts : {B B' : List Deferred} {r : Bool} {g : List Name} (xs : List Name) (v : List Value) {b b' : Term} → W.Writes → Moves true (xs ++ g) b b' → {s s' : State} → Fits B B' r g s s'
        → Acts B B' r g (Gives [] (record s { defers = (record { frame = push xs v s.frame; body = b }) ∷ s.defers })) (Gives [] (record s' { defers = (record { frame = push xs v s'.frame; body = b' }) ∷ s'.defers }))
    lit_acts xs v w q (fits e p d) = gives (fits e p (more (inner w (λ c. W.on_push _ _ _ _ xs v (W.on_writes _ _ _ _ _ e w)) q) d))

    module _ (P : Program) (pick : FuncName → Level)
        (base_acts : (B B' : List Deferred) (r : Bool) (g : List Name) (t t' : Term) → W.Base g t t' → (s s' : State) → Fits B B' r g s s' → Acts B B' r g (eval P pick below t s) (eval P pick below t' s')) where
      pub eval_acts : {B B' : List Deferred} {r : Bool} {g : List Name} {t t' : Term} → Moves r g t t' → (s s' : State) → Fits B B' r g s s' → Acts B B' r g (eval P pick below t s) (eval P pick below t' s')
      eval_acts vals s s' n = gives n
      eval_acts (local {x = x} q) s s' n = looked x q n
      eval_acts (set h a) s s' n = after_acts (eval_acts a s s' n) (λ v s s' n. gives (on_put v h n)) go_on
      eval_acts (both a b) s s' n = after_acts (eval_acts a s s' n) (λ v s s' n. after_acts (eval_acts b s s' n) (λ w s s' n. gives n) go_on) go_on
      eval_acts (prim' {o = o} h a) s s' n = after_acts (eval_acts a s s' n) (λ v s s' n. primed o v h n) go_on
      eval_acts (if' c a b) s s' n = after_acts (eval_acts c s s' n) (λ v s s' n. on_truth_acts v (eval_acts a s s' n) (eval_acts b s s' n)) go_on
      eval_acts (let' {xs = xs} a b) s s' n = after_acts (eval_acts a s s' n) (λ v s s' n. popped_acts xs (eval_acts b _ _ (on_push xs v n))) go_on
      eval_acts (loop c b) s s' n =
          after_acts (eval_acts c s s' n) (λ v s s' n. on_truth_acts v (follows _ _ _ _ _ _ (let' b (loop c b)) s s' n) (gives n)) go_on
      eval_acts leave s s' n = leaves n
      eval_acts (catch {l = l} a) s s' n = after_acts (eval_acts a s s' n) (λ v s s' n. gives n) (caught_acts l)
      eval_acts (within {rs = rs} h a) s s' n =
          after_acts (resumed_acts (each n) (unwound_acts (eval_acts a _ _ (on_defers base n)))) (λ v s s' n. slotted rs h n) go_on
      eval_acts (alone a) s s' n = with_pending_acts n (eval_acts a _ _ (on_alone n))
      eval_acts recover s s' n = recovered n
      eval_acts (call {f = f} w a) s s' n = after_acts (eval_acts a s s' n) (λ v s s' n. call_acts (pick f) _ _ w n) go_on
      eval_acts (defer w a) s s' n = after_acts (eval_acts a s s' n) (λ v s s' n. defer_acts _ w n) go_on
      eval_acts (defer_lit {xs = xs} w a b) s s' n = after_acts (eval_acts a s s' n) (λ v s s' n. lit_acts xs v w b n) go_on
      eval_acts (base q) s s' n = base_acts _ _ _ _ _ _ q s s' n

  cut_follows : Follows cut
  cut_follows B B' r g t t' q s s' n = go n
    where
      go : {s s' : State} → Fits B B' r g s s' → Acts B B' r g (Cuts s.out) (Cuts s'.out)
      go (fits e p d) = cuts

  module _ (P : Program) (free : FuncName → Bool) (A : ℕ)
      (base_acts : (below : Level) (pick : FuncName → Level) (B B' : List Deferred) (r : Bool) (g : List Name) (t t' : Term) → W.Base g t t' → (s s' : State) → Fits B B' r g s s' → Acts B B' r g (eval P pick below t s) (eval P pick below t' s')) where
    pub level_follows : (n : ℕ) → Follows (free_level P free A n)
    level_follows zero B B' r g t t' q s s' f = cut_follows B B' r g t t' q s s' f
    level_follows (suc n) B B' r g t t' q s s' f =
        let b = free_level P free A n in eval_acts b (level_follows n) P (picks P free b A) (base_acts b (picks P free b A)) q s s' f

    pub chain_follows : (n k : ℕ) → Follows (chain P free (free_level P free A n) k)
    chain_follows n k B B' r g t t' q s s' f =
        let b = free_level P free A n in eval_acts b (level_follows n) P (picks P free b k) (base_acts b (picks P free b k)) q s s' f

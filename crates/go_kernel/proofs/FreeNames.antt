-- A term moves as it stands where its free names may be read and set.
use Rattle.std.proofs.Common.{◌≡◌, List, [], ◌∷◌, ◌++◌, true, false, Option}
use Rattle.go_kernel.specs.Kernel.{Name, Reason, Op, Slot, InFrame, InCell, Term, Vals, Local, Set, Both, Prim, If, Let, Loop, Leave, Catch, Within, Alone, Recover, Call, Defer, DeferLit}
use Rattle.go_kernel.specs.Scope.{has, FreeNames, FreeSlots, Free}
use Rattle.go_kernel.proofs.FrameFacts.{by_has}
use Rattle.go_kernel.proofs.WithinProgram as Sim
use Rattle.go_kernel.proofs.WithinProgram.{Way, Moves, All, Slots}

module _ (W : Way) (p0 p0' : Option Reason) (does : (o : Op) → W.Does o) (writes : W.Writes) (Q : Name → Type 0)
    (bound_read : (g : List Name) (x : Name) → has x g ≡ true → W.Reads g x) (bound_set : (g : List Name) (x : Name) → has x g ≡ true → W.Sets g x)
    (free_read : (g : List Name) (x : Name) → has x g ≡ false → Q x → W.Reads g x) (free_set : (g : List Name) (x : Name) → has x g ≡ false → Q x → W.Sets g x) where
  reads : (g : List Name) (x : Name) → (has x g ≡ false → Q x) → W.Reads g x
  reads g x q = by_has (has x g) (λ e. bound_read g x e) (λ e. free_read g x e (q e))

  sets : (g xs : List Name) → FreeNames Q g xs → All W p0 p0' g xs xs
  sets g [] q = Sim.no_sets
  sets g (x ∷ xs) q = Sim.and_set (by_has (has x g) (λ e. bound_set g x e) (λ e. free_set g x e (q.0 e))) (sets g xs q.1)

  slots : (g : List Name) (rs : List Slot) → FreeSlots Q g rs → Slots W p0 p0' g rs
  slots g [] q = Sim.no_slots
  slots g (InFrame x ∷ rs) q = Sim.in_frame (reads g x q.0) (slots g rs q.1)
  slots g (InCell x ∷ rs) q = Sim.in_cell (reads g x q.0) (slots g rs q.1)

  pub free_moves : (t : Term) (g : List Name) → Free Q g t → Moves W p0 p0' true g t t
  free_moves (Vals v) g q = Sim.vals
  free_moves (Local x) g q = Sim.local (reads g x q)
  free_moves (Set xs a) g q = Sim.set (sets g xs q.0) (free_moves a g q.1)
  free_moves (Both a b) g q = Sim.both (free_moves a g q.0) (free_moves b g q.1)
  free_moves (Prim o a) g q = Sim.prim' (does o) (free_moves a g q)
  free_moves (If c a b) g q = Sim.if' (free_moves c g q.0) (free_moves a g q.1) (free_moves b g q.2)
  free_moves (Let xs a b) g q = Sim.let' (free_moves a g q.0) (free_moves b (xs ++ g) q.1)
  free_moves (Loop c b) g q = Sim.loop (free_moves c g q.0) (free_moves b g q.1)
  free_moves (Leave l) g q = Sim.leave
  free_moves (Catch l a) g q = Sim.catch (free_moves a g q)
  free_moves (Within a rs) g q = Sim.within (slots g rs q.1) (free_moves a g q.0)
  free_moves (Alone a) g q = Sim.alone (free_moves a g q)
  free_moves Recover g q = Sim.recover
  free_moves (Call f a) g q = Sim.call writes (free_moves a g q)
  free_moves (Defer f a) g q = Sim.defer writes (free_moves a g q)
  free_moves (DeferLit xs a b) g q = Sim.defer_lit writes (free_moves a g q.0) (free_moves b (xs ++ g) q.1)

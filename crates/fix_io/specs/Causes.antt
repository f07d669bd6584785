-- What the outside counts and remembers of its failures, and why a call answers one.
use Rattle.std.specs.Prelude.{◌≡◌, ℕ, ◌+◌, ◌-◌, ◌^◌, ◌≤◌, min, OnErr, OnOk, IsErrOf, Result}
use Rattle.std.specs.Prelude.{Ok, Err, Option, Some}
use Rattle.fix_io.specs.declared.tree.Call.{Call}
use Rattle.fix_io.specs.declared.tree.Failed.{Failed as Fault}
use Rattle.fix_io.specs.declared.tree.TreeFault.{TreeFault}
use Rattle.fix_io.specs.declared.tree.TreeFault.TheVariants.{Failed}

-- a count after one more, which stays at 2 ^ 64 - 1
abbrev pub one_more : ℕ → ℕ
one_more count = min (count + 1) (2 ^ 64 - 1)

-- A count of faults has risen in a call, or stood at its end before.
abbrev pub Rose : ℕ → ℕ → Type 0
Rose before now = one_more before ≤ now

-- a fact for each answer but that the outside failed
abbrev pub UnlessFailed : {T : Type 0} → Result T TreeFault → Type 0 → Type 0
UnlessFailed (Err Failed) P = Unit {0}
UnlessFailed _ P = P

-- A count of faults never falls and stays at its end; it rises where `Failed` is answered, and only there.
pub record HasCause {T : Type 0} (before now : ℕ) (result : Result T TreeFault) : Type 0 where
  pub later : before ≤ now
  pub stays : before ≡ 2 ^ 64 - 1 → now ≡ 2 ^ 64 - 1
  pub failed : IsErrOf result Failed → Rose before now
  pub quiet : UnlessFailed result (now ≡ before)

-- The same of a call that has no other refusal.
pub record HasPlainCause {T : Type 0} (before now : ℕ) (result : Result T Fault) : Type 0 where
  pub later : before ≤ now
  pub stays : before ≡ 2 ^ 64 - 1 → now ≡ 2 ^ 64 - 1
  pub failed : OnErr result (Rose before now)
  pub quiet : OnOk result (now ≡ before)

-- the call that failed last, after a call
abbrev pub last_failed : {T : Type 0} → Call → Option Call → Result T TreeFault → Option Call
last_failed call before (Err Failed) = Some call
last_failed call before _ = before

-- the same of a call that has no other refusal
abbrev pub last_plain_failed : {T : Type 0} → Call → Option Call → Result T Fault → Option Call
last_plain_failed call before (Err _) = Some call
last_plain_failed call before (Ok _) = before

-- the count of faults after a call that counts its own failure and nothing else
abbrev pub counted : {T : Type 0} → ℕ → Result T TreeFault → ℕ
counted before (Err Failed) = one_more before
counted before _ = before

-- the same of a call that has no other refusal
abbrev pub plain_counted : {T : Type 0} → ℕ → Result T Fault → ℕ
plain_counted before (Err _) = one_more before
plain_counted before (Ok _) = before

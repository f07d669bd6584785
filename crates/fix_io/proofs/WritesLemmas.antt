-- What writes to the files of a tree leave.
use Rattle.std.proofs.Common.{◌≡◌, ◌≢◌, List, [], ◌∷◌, ◌++◌, ℕ, zero, suc, ◌+◌, ◌<◌, ◌∙◌, length, get_or, map, take, refl, ap, sym, inl, inr, arith, append_assoc, length-append}
use Rattle.std.specs.Prelude.{Bool, true, false, ◌⊎◌, if◌then◌else◌, Option, Some, None, IfSome, IsSomeAnd}
use Rattle.std.specs.Option.{option_map}
use Rattle.std.specs.Str.{bytes_eq}
use Rattle.std.proofs.Math.Seq.{set-append_seam, get_or-append_seam}
use Rattle.std.proofs.lemmas.List.{append-nil}
use Rattle.std.proofs.lemmas.Slice.Eq.{bytes_eq-Decides}
use Rattle.fix_io.specs.Files.{HeldFile, no_file, bytes_at, with_bytes}
use Rattle.fix_io.specs.Writes.{written, with_texts, write_of, writes_from, AreNewUpTo}

pub written-append : (vs ws : List (ℕ × List ℕ)) (files : List HeldFile) → written (vs ++ ws) files ≡ written ws (written vs files)
written-append [] ws files = refl
written-append (v ∷ vs) ws files = written-append vs ws (with_bytes files v.0 v.1)

pub written-none : (held : Option (List HeldFile)) (ws : List (ℕ × List ℕ)) → held ≡ option_map (written (take 0 ws)) held
written-none None ws = refl
written-none (Some files) ws = refl

-- one more write, where the files are told
pub told_more : (before mid now : Option (List HeldFile)) (ws : List (ℕ × List ℕ)) (i : ℕ) (bytes : List ℕ)
    → mid ≡ option_map (written ws) before → now ≡ option_map (λ files. with_bytes files i bytes) mid
    → now ≡ option_map (written (ws ++ (i, bytes) ∷ [])) before
told_more None mid now ws i bytes was is = rw (is, was) refl
told_more (Some files) mid now ws i bytes was is = rw (is, was) (ap Some (sym (written-append ws ((i, bytes) ∷ []) files)))

abbrev write_if : Bool → ℕ → List ℕ → List (ℕ × List ℕ)
write_if same i new = if same then [] else (i, new) ∷ []

by_test : (i : ℕ) (old new : List ℕ) (b : Bool) → (b ≡ true → new ≡ old) × (new ≡ old → b ≡ true)
    → ((new ≡ old) × (write_if b i new ≡ [])) ⊎ ((new ≢ old) × (write_if b i new ≡ (i, new) ∷ []))
by_test i old new true d = inl (d.0 refl, refl)
by_test i old new false d = inr ((λ e. let f : false ≡ true = d.1 e in cc), refl)

-- a text is left alone exactly where it stays the same
pub write_of-cases : (i : ℕ) (old new : List ℕ) → ((new ≡ old) × (write_of i old new ≡ [])) ⊎ ((new ≢ old) × (write_of i old new ≡ (i, new) ∷ []))
write_of-cases i old new = by_test i old new (bytes_eq new old) (bytes_eq-Decides new old)

-- one more text
pub writes_from-append : (n : ℕ) (olds news : List (List ℕ)) (old new : List ℕ) → length news ≡ length olds
    → writes_from n (olds ++ old ∷ []) (news ++ new ∷ []) ≡ writes_from n olds news ++ write_of (n + length olds) old new
writes_from-append n [] [] old new e = rw (append-nil (write_of n old new)) (let f : n ≡ n + 0 = omega arith in ap (λ m. write_of m old new) f)
writes_from-append n [] (u ∷ us) old new e = absurd (omega arith)
writes_from-append n (t ∷ ts) [] old new e = absurd (omega arith)
writes_from-append n (t ∷ ts) (u ∷ us) old new e =
    let f : suc n + length ts ≡ n + suc (length ts) = omega arith in
    rw (writes_from-append (suc n) ts us old new (omega arith), f)
    (sym (append_assoc (write_of n t u) (writes_from (suc n) ts us) (write_of (n + suc (length ts)) old new)))

-- each write is of one of the texts
pub writes_from-below : (n : ℕ) (olds news : List (List ℕ)) (k : ℕ) → k < length (writes_from n olds news) → (get_or (writes_from n olds news) k (0, [])).0 < n + length olds
writes_from-below n [] news k h = absurd (omega arith)
writes_from-below n (t ∷ ts) [] k h = absurd (omega arith)
writes_from-below n (t ∷ ts) (u ∷ us) k h =
    elim (write_of-cases n t u) [
      | inl same ↦
          let fewer : k < length (writes_from (suc n) ts us) = rw same.1 at h in
          rw same.1 (omega (arith, writes_from-below (suc n) ts us k fewer))
      | inr other ↦
          let more : k < suc (length (writes_from (suc n) ts us)) = rw other.1 at h in
          rw other.1 (or_first n u (writes_from (suc n) ts us) (length ts) k (λ j l. writes_from-below (suc n) ts us j l) more)
    ]
  where
    or_first : (n : ℕ) (t : List ℕ) (ws : List (ℕ × List ℕ)) (len k : ℕ) → ((j : ℕ) → j < length ws → (get_or ws j (0, [])).0 < suc n + len) → k < suc (length ws) → (get_or ((n, t) ∷ ws) k (0, [])).0 < n + suc len
    or_first n t ws len zero rest l = omega arith
    or_first n t ws len (suc k) rest l = omega (arith, rest k (omega arith))

put_at : (pre fs : List HeldFile) (f : HeldFile) (bytes : List ℕ) → with_bytes (pre ++ f ∷ fs) (length pre) bytes ≡ pre ++ record { path = f.path; bytes = bytes } ∷ fs
put_at pre fs f bytes = rw (get_or-append_seam pre f fs no_file) (set-append_seam pre f fs (record { path = f.path; bytes = bytes }))

same_file : (f : HeldFile) (t : List ℕ) → t ≡ f.bytes → record { path = f.path; bytes = t } ≡ f
same_file f t e = ap (λ bytes. let g : HeldFile = record { path = f.path; bytes = bytes } in g) e

-- the write of one file, if there is one, leaves the new text there
one_written : (n : ℕ) (pre fs : List HeldFile) (f : HeldFile) (t : List ℕ) (ws : List (ℕ × List ℕ)) → length pre ≡ n
    → written (write_of n f.bytes t ++ ws) (pre ++ f ∷ fs) ≡ written ws ((pre ++ record { path = f.path; bytes = t } ∷ []) ++ fs)
one_written n pre fs f t ws e =
    elim (write_of-cases n f.bytes t) [
      | inl same ↦ rw (same.1, same_file f t same.0, append_assoc pre (f ∷ []) fs) refl
      | inr other ↦ rw (other.1, ← e, append_assoc pre (record { path = f.path; bytes = t } ∷ []) fs) (ap (written ws) (put_at pre fs f t))
    ]

pub all_written : (n : ℕ) (pre fs : List HeldFile) (news : List (List ℕ)) → length pre ≡ n
    → written (writes_from n (map (λ f. f.bytes) fs) news) (pre ++ fs) ≡ pre ++ with_texts fs news
all_written n pre [] news e = refl
all_written n pre (f ∷ fs) [] e = refl
all_written n pre (f ∷ fs) (t ∷ ts) e =
    one_written n pre fs f t (writes_from (suc n) (map (λ g. g.bytes) fs) ts) e
    ∙ all_written (suc n) (pre ++ record { path = f.path; bytes = t } ∷ []) fs ts (omega (arith, length-append pre (record { path = f.path; bytes = t } ∷ [])))
    ∙ append_assoc pre (record { path = f.path; bytes = t } ∷ []) (with_texts fs ts)

-- the files when the k-th write is due: it is that of the m-th of the files after the first n
pub record Found (n k : ℕ) (ws : List (ℕ × List ℕ)) (pre fs : List HeldFile) (news : List (List ℕ)) : Type 0 where
  pub m : ℕ
  pub is : (get_or ws k (0, [])).0 ≡ n + m
  pub within : m < length fs
  pub differs : get_or news m [] ≢ bytes_at fs m
  pub left : written (take k ws) (pre ++ fs) ≡ pre ++ with_texts fs (take m news)

later : (n k : ℕ) (ws : List (ℕ × List ℕ)) (pre fs : List HeldFile) (f : HeldFile) (t : List ℕ) (ts : List (List ℕ))
    → Found (suc n) k ws (pre ++ record { path = f.path; bytes = t } ∷ []) fs ts
    → (vs : List (ℕ × List ℕ)) (j : ℕ) → (get_or vs j (0, [])).0 ≡ (get_or ws k (0, [])).0
    → written (take j vs) (pre ++ f ∷ fs) ≡ written (take k ws) ((pre ++ record { path = f.path; bytes = t } ∷ []) ++ fs)
    → Found n j vs pre (f ∷ fs) (t ∷ ts)
later n k ws pre fs f t ts found vs j same leaves =
    let more : n + suc found.m ≡ suc n + found.m = omega arith in
    record {
      m = suc found.m;
      is = same ∙ found.is ∙ sym more;
      within = omega (arith, found.within);
      differs = found.differs;
      left = leaves ∙ found.left ∙ append_assoc pre (record { path = f.path; bytes = t } ∷ []) (with_texts fs (take found.m ts));
    }

with_none : (pre fs : List HeldFile) → pre ++ fs ≡ pre ++ with_texts fs []
with_none pre [] = refl
with_none pre (f ∷ fs) = refl

first_write : (n k : ℕ) (ws : List (ℕ × List ℕ)) (pre fs : List HeldFile) (f : HeldFile) (t : List ℕ) (ts : List (List ℕ)) → length pre ≡ n → t ≢ f.bytes
    → ((j : ℕ) → j < length ws → Found (suc n) j ws (pre ++ record { path = f.path; bytes = t } ∷ []) fs ts)
    → k < suc (length ws) → Found n k ((n, t) ∷ ws) pre (f ∷ fs) (t ∷ ts)
first_write n zero ws pre fs f t ts e ne rest h =
    record { m = 0; is = omega arith; within = omega arith; differs = ne; left = with_none pre (f ∷ fs) }
first_write n (suc k) ws pre fs f t ts e ne rest h =
    later n k ws pre fs f t ts (rest k (omega arith)) ((n, t) ∷ ws) (suc k) refl
    (rw (← e, append_assoc pre (record { path = f.path; bytes = t } ∷ []) fs) (ap (written (take k ws)) (put_at pre fs f t)))

pub found_write : (n : ℕ) (pre fs : List HeldFile) (news : List (List ℕ)) (k : ℕ) → length pre ≡ n
    → k < length (writes_from n (map (λ f. f.bytes) fs) news) → Found n k (writes_from n (map (λ f. f.bytes) fs) news) pre fs news
found_write n pre [] news k e h = absurd (omega arith)
found_write n pre (f ∷ fs) [] k e h = absurd (omega arith)
found_write n pre (f ∷ fs) (t ∷ ts) k e h =
    let ws : List (ℕ × List ℕ) = writes_from (suc n) (map (λ g. g.bytes) fs) ts in
    let rest = λ (j : ℕ) (l : j < length ws). found_write (suc n) (pre ++ record { path = f.path; bytes = t } ∷ []) fs ts j (omega (arith, length-append pre (record { path = f.path; bytes = t } ∷ []))) l in
    elim (write_of-cases n f.bytes t) [
      | inl same ↦
          let fewer : k < length ws = rw same.1 at h in
          rw same.1 (later n k ws pre fs f t ts (rest k fewer) ws k refl (rw (same_file f t same.0, append_assoc pre (f ∷ []) fs) refl))
      | inr other ↦
          let more : k < suc (length ws) = rw other.1 at h in
          rw other.1 (first_write n k ws pre fs f t ts e other.0 rest more)
    ]

-- after all writes, where the files are told
pub all_left : (before now : Option (List HeldFile)) (ws : List (ℕ × List ℕ)) (news : List (List ℕ))
    → IfSome before (λ files. ws ≡ writes_from 0 (map (λ f. f.bytes) files) news)
    → now ≡ option_map (written ws) before
    → now ≡ option_map (λ files. with_texts files news) before
all_left None now ws news plan is = is
all_left (Some files) now ws news plan is = rw (is, plan) (ap Some (all_written 0 [] files news refl))

from_found : (files : List HeldFile) (ws : List (ℕ × List ℕ)) (news : List (List ℕ)) (i k : ℕ) → Found 0 k ws [] files news
    → i ≡ (get_or ws k (0, [])).0 → AreNewUpTo i news files (written (take k ws) files)
from_found files ws news i k found at =
    let here : i ≡ found.m = at ∙ found.is ∙ (omega arith) in
    rw here (record { within = found.within; differs = found.differs; left = found.left })

-- after the writes before one that failed, where the files are told
pub fault_left : (before now : Option (List HeldFile)) (ws : List (ℕ × List ℕ)) (news : List (List ℕ)) (i k : ℕ)
    → IfSome before (λ files. ws ≡ writes_from 0 (map (λ f. f.bytes) files) news)
    → k < length ws → i ≡ (get_or ws k (0, [])).0
    → now ≡ option_map (written (take k ws)) before
    → IfSome before (λ files. IsSomeAnd now (λ after. AreNewUpTo i news files after))
fault_left None now ws news i k plan within at is = tt
fault_left (Some files) now ws news i k plan within at is =
    rw is (from_found files ws news i k (planned files ws news k plan within) at)
  where
    planned : (files : List HeldFile) (ws : List (ℕ × List ℕ)) (news : List (List ℕ)) (k : ℕ) → ws ≡ writes_from 0 (map (λ f. f.bytes) files) news → k < length ws → Found 0 k ws [] files news
    planned files ws news k plan within = rw plan (found_write 0 [] files news k refl (rw plan at within))

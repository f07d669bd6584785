-- The writes of planned files, one after another.
use Rattle.std.proofs.Common.{◌≡◌, List, [], ◌∷◌, ◌++◌, ℕ, zero, suc, ◌+◌, ◌<◌, length, get_or, take, ap, sym, ◌∙◌, arith}
use Rattle.std.specs.Prelude.{Option}
use Rattle.std.specs.Option.{option_map}
use Rattle.std.specs.List.{take-map}
use Rattle.std.proofs.lemmas.List.{map-append}
use Rattle.std.proofs.lemmas.Grind.{common_steps}
use Rattle.run_plans.specs.declared.planned_files.changed_files.changed.ChangedFile.{ChangedFile}
use Rattle.fix_io.specs.Files.{HeldFile, with_bytes}
use Rattle.fix_io.specs.Writes.{written}
use Rattle.fix_io.proofs.WritesLemmas.{told_more}
use Rattle.fix_run.specs.Files.{write_of, writes_of}

pub taken_more : {X : Type 0} (xs : List X) (i : ℕ) (x : X) → i < length xs → x ≡ get_or xs i x → take (i + 1) xs ≡ take i xs ++ x ∷ []
taken_more xs i x within is = grind (arith, common_steps)

writes_more : (fs : List ChangedFile) (i : ℕ) (f : ChangedFile) → i < length fs → f ≡ get_or fs i f → take (i + 1) (writes_of fs) ≡ take i (writes_of fs) ++ (f.index, f.bytes) ∷ []
writes_more fs i f within is =
    rw (take-map write_of (i + 1) fs, take-map write_of i fs, taken_more fs i f within is) (map-append write_of (take i fs) (f ∷ []))

-- the write of the file at an index
pub write_at : (fs : List ChangedFile) (i : ℕ) (f : ChangedFile) → i < length fs → f ≡ get_or fs i f → get_or (writes_of fs) i (0, []) ≡ (f.index, f.bytes)
write_at [] i f within is = absurd (omega arith)
write_at (g ∷ fs) zero f within is = ap write_of (sym is)
write_at (g ∷ fs) (suc i) f within is = write_at fs i f (omega arith) is

-- one more file is replaced
pub one_more : (before mid now : Option (List HeldFile)) (fs : List ChangedFile) (i : ℕ) (f : ChangedFile) (bytes : List ℕ)
    → mid ≡ option_map (written (take i (writes_of fs))) before
    → now ≡ option_map (λ files. with_bytes files f.index bytes) mid
    → bytes ≡ f.bytes → i < length fs → f ≡ get_or fs i f
    → now ≡ option_map (written (take (i + 1) (writes_of fs))) before
one_more before mid now fs i f bytes was is same within read =
    let step = told_more before mid now (take i (writes_of fs)) f.index bytes was is in
    step ∙ ap (λ ws. option_map (written ws) before) (ap (λ b. take i (writes_of fs) ++ (f.index, b) ∷ []) same ∙ sym (writes_more fs i f within read))

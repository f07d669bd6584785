-- Writes to the files of a tree, and what they leave.
use Rattle.std.specs.Prelude.{◌≡◌, ◌≢◌, ◌<◌, ℕ, suc, if◌then◌else◌, List, [], ◌∷◌}
use Rattle.std.specs.Prelude.{◌++◌, length, take, slice_index_or}
use Rattle.std.specs.Str.{bytes_eq}
use Rattle.fix_io.specs.Files.{HeldFile, bytes_at, with_bytes}

-- the files after these writes of bytes at an index, the first of them first
abbrev pub written : List (ℕ × List ℕ) → List HeldFile → List HeldFile
written [] files = files
written (w ∷ ws) files = written ws (with_bytes files w.0 w.1)

-- the files with these texts, where the files past the last text stay as they are
abbrev pub with_texts : List HeldFile → List (List ℕ) → List HeldFile
with_texts [] texts = []
with_texts (f ∷ fs) [] = f ∷ fs
with_texts (f ∷ fs) (t ∷ ts) = record { path = f.path; bytes = t } ∷ with_texts fs ts

-- the write that makes one text of another at an index, if they differ
abbrev pub write_of : ℕ → List ℕ → List ℕ → List (ℕ × List ℕ)
write_of i old new = if bytes_eq new old then [] else (i, new) ∷ []

-- the writes that make these texts of those, the first of which has this index
abbrev pub writes_from : ℕ → List (List ℕ) → List (List ℕ) → List (ℕ × List ℕ)
writes_from i [] news = []
writes_from i (t ∷ ts) [] = []
writes_from i (t ∷ ts) (u ∷ us) = write_of i t u ++ writes_from (suc i) ts us

-- The files before the i-th have the new texts and the others their old ones, and the i-th was to change.
pub record AreNewUpTo (i : ℕ) (news : List (List ℕ)) (old now : List HeldFile) : Type 0 where
  pub within : i < length old
  pub differs : slice_index_or news i [] ≢ bytes_at old i
  pub left : now ≡ with_texts old (take i news)

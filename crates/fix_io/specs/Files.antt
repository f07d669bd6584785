-- The files that a tree holds, by ascending path.
use Rattle.std.specs.Prelude.{◌≡◌, ℕ, ◌+◌, ◌<◌, List, [], map, length, slice_index_or, slice_set}
use Rattle.std.specs.Ordering.{nat_cmp}
use Rattle.std.specs.Cmp.Lexicographic.{slice_cmp}
use Rattle.std.specs.declared.cmp.Ordering.TheVariants.{Less}

-- a file: its path and its bytes
pub record HeldFile : Type 0 where
  pub path : List ℕ
  pub bytes : List ℕ

-- what stands for the file at an index past the last
abbrev pub no_file : HeldFile
no_file = record { path = []; bytes = [] }

-- the paths of files
abbrev pub paths : List HeldFile → List (List ℕ)
paths files = map (λ f. f.path) files

-- the bytes of the file at an index
abbrev pub bytes_at : List HeldFile → ℕ → List ℕ
bytes_at files i = (slice_index_or files i no_file).bytes

-- the files, with other bytes at an index
abbrev pub with_bytes : List HeldFile → ℕ → List ℕ → List HeldFile
with_bytes files i bytes = slice_set files i (record { path = (slice_index_or files i no_file).path; bytes = bytes })

-- Each path is below the next, by its bytes.
abbrev pub IsAscending : List (List ℕ) → Type 0
IsAscending names = (k : ℕ) → k + 1 < length names →
    slice_cmp nat_cmp (slice_index_or names k []) (slice_index_or names (k + 1) []) ≡ Less

-- The files that a walk of the working directory found.
use Rattle.std.specs.Prelude.{ℕ, List, [], ◌∷◌, ◌++◌, codes, map, string_bytes}
use Rattle.fix_io.specs.declared.entry.Entry.{Entry}

-- the bytes of a found file's path
abbrev pub entry_path : Entry → List ℕ
entry_path e = string_bytes e.path

-- the paths of found files
abbrev pub entry_paths : List Entry → List (List ℕ)
entry_paths entries = map entry_path entries

-- the path of a name in a folder, where the empty one is the working directory
abbrev pub joined : List ℕ → List ℕ → List ℕ
joined [] name = name
joined (c ∷ cs) name = (c ∷ cs) ++ codes "/" ++ name

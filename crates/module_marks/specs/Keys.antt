-- Marks as the keys of a set.
use Rattle.std.specs.Prelude.{ℕ, List, map}
use Rattle.run_rules.specs.Sites.{MarkRef}

-- the mark of these numbers
abbrev pub key_mark : ℕ × (ℕ × (ℕ × ℕ)) → MarkRef
key_mark k = record { «package» = k.0; file = k.1.0; decl = k.1.1.0; item = k.1.1.1 }

-- the marks of keys
abbrev pub keys_marks : List (ℕ × (ℕ × (ℕ × ℕ))) → List MarkRef
keys_marks ks = map key_mark ks

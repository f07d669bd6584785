-- Operators that begin with a token and go on into the next one (Go specification, Tokens).
use Rattle.std.specs.Prelude.{ℕ, Bool, ◌&&◌, nat_eq, nat_lt, List, length}
use Rattle.std.specs.List.{starts_with}

-- a word of more than so many bytes stands at the front of these
abbrev pub is_longer : ℕ → List ℕ → List ℕ → Bool
is_longer size bytes word = nat_lt size (length word) && starts_with nat_eq bytes word

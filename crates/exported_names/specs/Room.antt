-- How large the value of a character's first bytes is while it is read (Unicode Standard, UTF-8).
use Rattle.std.specs.Prelude.{ℕ, zero, suc}

-- what the value is below, where so many bytes follow
abbrev pub room : ℕ → ℕ
room zero = 67108864
room (suc zero) = 524288
room (suc (suc zero)) = 4096
room (suc (suc (suc n))) = 32

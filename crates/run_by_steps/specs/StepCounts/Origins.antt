-- Steps by their origins (golang.org/x/tools, internal/refactor/inline, for what a run is).
use Rattle.std.specs.Prelude.{◌≡◌, ℕ, Bool, ◌&&◌, nat_eq, List, Option, Some, None, if◌then◌else◌}
use Rattle.std.specs.Map.{lookup}

-- an origin: the number of its package, that of its file, and the offset in the file as read
abbrev pub OriginKey : Type 0
OriginKey = ℕ × (ℕ × ℕ)

-- two are the same
abbrev pub same_key : OriginKey → OriginKey → Bool
same_key a b = nat_eq a.0 b.0 && (nat_eq a.1.0 b.1.0 && nat_eq a.1.1 b.1.1)

-- origins with their counts
abbrev pub Counted : Type 0
Counted = List (OriginKey × ℕ)

-- the count of an origin, where there is one
abbrev pub counted_at : OriginKey → Counted → Option ℕ
counted_at k t = lookup (same_key k) t

-- how many steps have the origin
abbrev pub steps_from : OriginKey → Counted → ℕ
steps_from k t = elim (counted_at k t) [ None ↦ 0 | Some n ↦ n ]

-- The origin has this count in the new table, and each other one that in the old one.
abbrev pub IsCounted : OriginKey → ℕ → Counted → Counted → Type 0
IsCounted k n old new = (q : OriginKey) → counted_at q new ≡ (if same_key k q then Some n else counted_at q old)

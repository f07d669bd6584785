-- Why a file is refused.
use Rattle.std.specs.Prelude.{ℕ, ⊤}
use Rattle.go_read.specs.SpellsTypes.{Lexemes}
use Rattle.go_read.specs.Fronts.{IsRefusedAt}
use Rattle.go_parse.specs.declared.parser.ParseError.{ParseError}
use Rattle.go_parse.specs.declared.parser.ParseError.TheVariants.{NotRead, NoMemory}

-- No tree spells the tokens of a text of this size, and the place is where the first part stands that isn't read. Want
-- of
-- memory says nothing of the tokens.
abbrev pub Refuses : ℕ → Lexemes → ParseError → Type 0
Refuses size tokens (NotRead place) = IsRefusedAt size tokens place
Refuses size tokens NoMemory = ⊤

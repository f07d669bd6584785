-- Nothing in place of spans.
use Rattle.go_read.specs.SpellsTypes.{Lexemes}

-- what a node has in a tree without spans
abbrev pub nowhere : Lexemes → Lexemes → Unit {0}
nowhere _ _ = tt

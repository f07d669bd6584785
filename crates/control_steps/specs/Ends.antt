-- What is known of a statement, as the answer for it tells (Go specification, Statements).
use Rattle.std.specs.Prelude.{◌≡◌, Bool, Option, Some, None, Result, Ok, Err}
use Rattle.type_table.specs.declared.operand_rules.values.Refusal.{Refusal}
use Rattle.type_table.specs.declared.operand_rules.values.Refusal.TheVariants.{NotTyped, NoMemory}

-- whether the statement is terminating, or that it isn't typed
abbrev pub EndsAs : Option Bool → Result Bool Refusal → Type 0
EndsAs o (Ok b) = o ≡ Some b
EndsAs o (Err NotTyped) = o ≡ None
EndsAs o (Err NoMemory) = Unit {0}

-- What is known of types of literals, and what a table tells in a file, as values without places in memory.
use Rattle.go_tree.specs.declared.spans.Span.{Span}
use Rattle.go_tree.specs.View.{type_of}
use Rattle.member_uses.specs.Views.{names_in}
use Rattle.repeated_parts.specs.declared.literal_types.known.KnownType.{KnownType}
use Rattle.repeated_parts.specs.declared.literal_types.known.KnownType.TheVariants as known
use Rattle.repeated_parts.specs.declared.literal_types.table.TypeScopes.{TypeScopes}
use Rattle.repeated_parts.specs.LiteralTypes.Tables.{TypeNumbers, numbers_in}
use Rattle.repeated_parts.specs.LiteralTypes.Literals.{Known, unknown, a_written, a_number}

-- what is known as a value
abbrev pub known_of : KnownType → Known Span
known_of known.Unknown = unknown
known_of (known.Written t) = a_written (type_of t.now)
known_of (known.Number i) = a_number i

-- what the table tells in the file as a value
abbrev pub numbers_of : TypeScopes → TypeNumbers Span
numbers_of t = numbers_in (λ s. s) (names_in t.file) t.types.now

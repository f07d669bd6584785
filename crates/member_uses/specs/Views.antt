-- Uses of members, and the names of a file, as values without places in memory.
use Rattle.scope_tables.specs.Table.{table_of}
use Rattle.member_uses.specs.declared.names.FileScopes.{FileScopes}
use Rattle.member_uses.specs.declared.uses.MemberUse.{MemberUse}
use Rattle.member_uses.specs.Uses.{Used, Names}

-- a use as a value
abbrev pub used_of : MemberUse → Used
used_of u = record { span = u.span; «package» = u.«package»; name = u.name.now; key = u.is_key }

-- the names of a file as a value
abbrev pub names_in : FileScopes → Names
names_in f = record { table = table_of f.scopes.now; home = f.home; imports = f.imports.now }

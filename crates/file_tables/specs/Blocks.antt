-- The names of a package's block with what they mean in each of its files (Go specification, Blocks).
use Rattle.scope_tables.specs.Table.{IsBlockTable, table_of}
use Rattle.file_tables.specs.declared.blocks.Block.{Block}
use Rattle.file_tables.specs.declared.tables.FileTables.{FileTables}

-- The table is that of the names.
abbrev pub HasOwnTable : Block → Type 0
HasOwnTable b = IsBlockTable b.names b.table

-- the block of the package of a file with these tables
abbrev pub block_in : FileTables → Block
block_in t = record { names = t.names.«package»; table = (table_of t.scopes).block }

-- What a row is hashed by: what it holds, but for the kinds of predeclared types and constants, of which there are few.
use Rattle.std.specs.Prelude.{◌++◌}
use Rattle.std.specs.Hash.{HashWrites, u8, u32, usize, slice, option}
use Rattle.type_table.specs.declared.nodes.Field.{Field}
use Rattle.type_table.specs.declared.nodes.TypeId.{TypeId}
use Rattle.type_table.specs.declared.nodes.TypeNode.{TypeNode}
use Rattle.type_table.specs.declared.nodes.TypeNode.TheVariants.{Basic, Named, Pointer, Slice, Map, Struct, Tuple}
use Rattle.type_table.specs.declared.nodes.TypeNode.TheVariants.{Untyped, Nil}

-- a number of a row
abbrev pub id_writes : TypeId → HashWrites
id_writes t = usize t.0

-- a field
abbrev pub field_writes : Field → HashWrites
field_writes f = slice u8 f.name ++ (option u32 f.package ++ id_writes f.of)

-- a row
abbrev pub node_writes : TypeNode → HashWrites
node_writes (Basic k) = u8 0
node_writes (Named p n) = u8 1 ++ (u32 p ++ slice u8 n)
node_writes (Pointer t) = u8 2 ++ id_writes t
node_writes (Slice t) = u8 3 ++ id_writes t
node_writes (Map k t) = u8 4 ++ (id_writes k ++ id_writes t)
node_writes (Struct fs) = u8 5 ++ slice field_writes fs
node_writes (Tuple ts) = u8 6 ++ slice id_writes ts
node_writes (Untyped k) = u8 7
node_writes Nil = u8 8

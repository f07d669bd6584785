-- A function's body in place: what may be written for it at another place of the program, maybe in another package, and
-- that it is typed there as where it is declared. So the called literal of what is written is the operand that the call
-- is (Go specification, Calls; Function literals; Qualified identifiers; Exported identifiers).
pub mod Uses
pub mod Fresh
pub mod Fields
pub mod Leaves
pub mod Conversions
pub mod Shapes
pub mod InPlace
pub mod Outside
pub mod Call
pub mod TypesInPlace
pub mod Seen
pub mod Instances
pub mod PlaceLaws

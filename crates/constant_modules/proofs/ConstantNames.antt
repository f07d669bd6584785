pub mod Headers
pub mod FirstHeaders
pub mod Kinds
pub mod Members
pub mod Found
pub mod Values
pub mod Named
pub mod Unmarked
pub mod Read
pub mod MemberUses
mod Example

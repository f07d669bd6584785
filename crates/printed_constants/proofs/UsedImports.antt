pub mod HeaderUses
pub mod Linked
pub mod Settled
pub mod Put
pub mod Looked
pub mod Step
pub mod Stay

pub mod Views
pub mod State
pub mod Walk
pub mod Inside
pub mod HeaderUses

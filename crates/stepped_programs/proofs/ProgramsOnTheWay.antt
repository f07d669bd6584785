pub mod Begin
pub mod Uses
pub mod Steps

pub mod Values
pub mod Steps
pub mod HeadersStay
pub mod UnderlyingTypes
pub mod NameRounds

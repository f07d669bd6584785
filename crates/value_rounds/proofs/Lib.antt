pub mod Firsts
pub mod Kept
pub mod Others
pub mod Ends
pub mod HeadersStay
pub mod UnderlyingTypes
pub mod NameRounds

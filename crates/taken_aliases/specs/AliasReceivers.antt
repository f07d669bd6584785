pub mod Receivers
pub mod Steps
pub mod ReceiverUses
pub mod Laws

pub mod Landed
pub mod CallMeaning
pub mod Laws
pub mod FormInPlace

pub mod Literals
pub mod Written
pub mod OwnNames
pub mod Laws
pub mod Bodies
pub mod CallLaws
pub mod ImportLaws

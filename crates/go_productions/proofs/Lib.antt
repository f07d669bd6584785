pub mod Heads
pub mod Steps
pub mod Fronts
pub mod NameArms
pub mod TypeArms
pub mod FieldArms
pub mod SigArms
pub mod ParamArms

pub mod UnderLaws
pub mod GrownLaws
pub mod MethodLaws

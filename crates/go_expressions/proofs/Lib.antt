pub mod ExprArms
pub mod PrimaryArms
pub mod PostfixArms
pub mod OperandArms
pub mod ElemArms
pub mod BodyArms
pub mod Passing

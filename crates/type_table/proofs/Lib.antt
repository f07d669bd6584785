pub mod InternLaws
pub mod TypesAtLaws
pub mod TypeRelations
pub mod ValueTypes
pub mod OperandRules

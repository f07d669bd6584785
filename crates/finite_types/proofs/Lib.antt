pub mod FlagLaws
pub mod NamesEnd
pub mod RefusedTypes

pub mod NamesEnd
pub mod FlagLaws
pub mod KeyLaws
pub mod GrownFlags

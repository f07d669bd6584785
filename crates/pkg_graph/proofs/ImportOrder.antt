pub mod NumberLaws
pub mod OpenLaws
pub mod WalkLaws
pub mod RankLaws

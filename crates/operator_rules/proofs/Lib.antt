pub mod TruthLemmas
pub mod LogicalLemmas
pub mod TypeLemmas
pub mod KeptLemmas
pub mod GrowthLemmas
pub mod AccessRules

pub use Rattle.header_order.proofs.FirstRefusals.ToldLemmas
pub use Rattle.header_order.proofs.FirstRefusals.PlaceLemmas as FirstRefusalsPlaceLemmas
pub use Rattle.header_order.proofs.FileLemmas
pub use Rattle.initial_values.proofs.ValuePlaces.PlaceLemmas
pub mod SingleHeaders
pub mod PackageValues
pub mod ValueHeaders
pub mod RowsSame
pub mod TypeLemmas
pub mod MethodLemmas
pub mod ThereStays
pub mod CollectLemmas

pub use Rattle.go_layout.specs.LayoutLaws.Formed
pub use Rattle.header_order.specs.declared.kinds.RefusedHeaders
pub use Rattle.header_order.specs.declared.first_refusals.first.RefusedPlace
pub use Rattle.header_order.specs.RefusedImports.Laws as RefusedImportsLaws
pub use Rattle.header_order.specs.Laws as HeaderOrderLaws
pub use Rattle.header_order.specs.Kinds
pub use Rattle.header_order.specs.FirstRefusals.Laws
pub use Rattle.header_order.specs.FirstRefusals.Files as FirstRefusalsFiles
pub use Rattle.header_order.specs.FirstRefusals.Declarations
pub use Rattle.header_order.specs.FirstImports.Firsts
pub use Rattle.header_order.specs.Files
pub use Rattle.initial_values.specs.ValuePlaces.Places
pub use Rattle.initial_values.specs.ValueBlocks.Values
pub mod SingleHeaders
pub mod PackageValues
pub mod ValueHeaders
pub mod Types
pub mod Methods
pub mod Collected

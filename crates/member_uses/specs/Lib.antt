pub use Rattle.constant_steps.specs.PlaceMeanings.Parts
pub use Rattle.constant_steps.specs.PlaceMeanings.Laws as PlaceMeaningsLaws
pub use Rattle.constant_steps.specs.PlaceMeanings.Agreement
pub use Rattle.constant_steps.specs.FormImports.ImportLaws.Steps
pub mod Uses
pub mod Views
pub mod Laws
pub mod PossibleUses

pub mod Ends
pub mod Returns
pub mod LocalBlocks
pub mod RightSides
pub mod DeclarationSteps
pub mod SwitchSteps

pub mod OperandTests
pub mod TakenLemmas
pub mod LocalBlocks
pub mod RightSides
pub mod DeclarationSteps
pub mod BodySteps
pub mod SwitchSteps
pub mod LabelSteps

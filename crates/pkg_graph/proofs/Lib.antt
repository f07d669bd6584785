mod GraphChecks
pub mod PackageLaws
pub mod ImportLaws
pub mod BridgeLaws
pub mod FindLaws
pub mod PlanLaws
pub mod FaultLaws
pub mod AssemblyLaws
pub mod OrderLaws
mod FaultsUnique
pub mod ModuleFiles
pub mod ImportOrder

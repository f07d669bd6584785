pub mod WalksAlike
pub mod Says
pub mod Chosen
pub mod Greatest
pub mod InOrder
pub mod NamesFound
pub mod UsesMarked
pub mod UsesDecided
pub mod AllKept
pub mod Chains
pub mod CyclesFound
pub mod Zipped
pub mod OneRun
pub mod TokensFound
pub mod EditsApart
pub mod CaseTools
pub mod Instances
pub mod ModulesRead
mod StepsOfConstants
mod StepsOfPackages
mod StepsOfLiterals
mod StepsOfForms
mod StepsOfOrder
pub mod RunsOfConstants
mod RunsOfPackages
mod RunsOfCalls
mod RunsOfLiterals
mod RunsOfForms
mod RunsOfRecover
mod RunsOfWrappers
mod StepsOfLibrary
mod CasesOfValues
mod CasesOfStatements
mod CasesOfDeclarations
mod CasesOfOrder
mod CasesOfPackages
mod RunsOfSteps
mod RunOfLibrary
mod KindsOfSites
mod CasesOfSpelling
mod CasesOfEvaluation
mod CasesOfFaults
mod CasesOfImports
pub mod ImportRules

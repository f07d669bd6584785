pub mod Texts
pub mod Table
pub mod Wrapping
pub mod Programs
mod WholeNumbers
mod RuntimePanics
mod OperandOrder
mod SlicesShared
mod ValuesCompared
mod MapOrder
mod DeferredCalls
pub mod FreshNames
pub mod FrameFacts
pub mod AcrossPrograms
pub mod Growth
pub mod Congruence
pub mod WithinProgram
pub mod Inserted
pub mod Means
pub mod Looks
pub mod Front
pub mod Acts
pub mod ActsMoves
pub mod PlacedAlike
pub mod FreeNames
pub mod FrameLaw
pub mod Literal
pub mod TermConditions
pub mod BindFirst
pub mod BindAgain
pub mod DeepItems
pub mod ItemConditions
pub mod Parameters
pub mod RenamingStep
pub mod PlacingStep
pub mod Movability
pub mod SteadyStep
pub mod LooksStep
pub mod ActsStep
pub mod ChosenSet
pub mod ChosenLaw
pub mod ComputedConditions
pub mod Block
pub mod DeferredCall
pub mod DeferredChosen
pub mod Tail
pub mod Sinks
mod LabelsAndBudgets
pub mod UsesBefore
pub mod Shapes
pub mod SafeOrder
pub mod SafeSet
pub mod Argument
mod WithoutPremises
pub mod Returns
pub mod Never
pub mod Retarget
pub mod DeferredSet
pub mod FormProofs
pub mod SameShows
mod LawsInUse
mod BudgetsFramesRanks
mod FormsInUse
pub mod CarefulList
mod InlinedProgram

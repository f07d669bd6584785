pub mod Steps
pub mod Runs
pub mod TypedBlocks
pub mod PutTexts
pub mod PutCalls
pub mod AliasReceivers
pub mod MixedRuns
pub mod WrittenUses

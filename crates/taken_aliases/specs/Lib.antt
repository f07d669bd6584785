pub mod Taken
pub mod Laws
pub mod TypedBlocks
pub mod PutTexts
pub mod PutCalls
pub mod AliasReceivers
pub mod MixedRuns
pub mod WrittenUses

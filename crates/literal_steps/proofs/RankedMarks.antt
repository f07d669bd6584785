mod Counting
pub mod RanksFall
mod TermsAsk
mod FreeTerms
pub mod TermCalls
pub mod CallsNamed
pub mod PlacesStand
pub mod NamesCalled
pub mod CallsLead
pub mod ProgramRanked
pub mod LiteralUses
mod Example

-- Names told apart from keys of composite literals.
pub mod KeysTaken
pub mod TypingMarked
pub mod SmallMarked
pub mod HereMarked
pub mod MentionsMarked
pub mod TranslationMarked
pub mod AroundMarked
pub mod Functions
pub mod UsedStand
pub mod UsedHeaders
pub mod NotAlone
pub mod UsedImports

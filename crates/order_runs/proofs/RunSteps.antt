-- Steps and runs over constants as a run takes them: the program after each, whose file is read again, means what the
-- one before does. Definitions and laws alone, without code.
pub mod HeadersBared
pub mod UsesBare
pub mod SpansForgotten
pub mod SameMeant
pub mod MembersViewed
pub mod OtherSpans
pub mod SeatedUses
pub mod PackageStands
pub mod TokenPlaces
pub mod SpanPlaces
pub mod SpelledPlaces
pub mod SpreadParts
pub mod SeenSpread
pub mod UsesAlone
pub mod SpelledConstants
pub mod PlainNexts
pub mod PlainRuns
pub mod RunExample

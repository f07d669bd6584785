pub mod NodeSpans
pub mod SpelledSpans
pub mod SeenSpans
pub mod FilesStand
pub mod FoundSpans
pub mod StepsApart
pub mod Reread
pub mod PathsOwn
pub mod RunsRead
pub mod FilesKept
mod Examples

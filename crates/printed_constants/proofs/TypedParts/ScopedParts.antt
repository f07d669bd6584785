pub mod Keys
pub mod SpelledPosts
pub mod SeenPosts
pub mod Scoped

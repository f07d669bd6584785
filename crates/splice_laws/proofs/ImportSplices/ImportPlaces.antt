pub mod TokensStand
pub mod ImportsStand
pub mod CommentsStand
pub mod FilesLaid

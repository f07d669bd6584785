pub mod Walks
pub mod PlaceLaws
pub mod MemberLaws
pub mod ImportLaws

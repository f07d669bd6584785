pub mod Walked
pub mod WalkArms

pub mod Swapped
pub mod SpelledNames
pub mod Put
pub mod Laws
pub mod NamesApart
pub mod FormsApart
pub mod TypeNodes

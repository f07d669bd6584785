pub mod Walk
pub mod ReadFiles
pub mod NamesLaid
pub mod NamesPut
pub mod NamesApart
pub mod FormsApart
pub mod TypeNodes

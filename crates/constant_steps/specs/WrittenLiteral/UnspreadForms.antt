pub mod UnspreadForms
pub mod Laws

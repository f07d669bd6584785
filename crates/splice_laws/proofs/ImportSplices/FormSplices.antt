pub mod FormLayouts
pub mod FormsFound
mod Examples

pub use Rattle.run_rules.specs.Programs
pub mod Names
pub mod Headers
pub mod Imports
pub mod Collected
pub mod Types
pub mod FuncHeaders

pub mod Automaton
pub mod Pieces
pub mod Sizes
pub mod TokenLists
pub mod Scanned
pub mod Unsupported

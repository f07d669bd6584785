pub mod ConstantLemmas
mod NameLemmas
mod NarrowLemmas

pub mod SelectorLemmas

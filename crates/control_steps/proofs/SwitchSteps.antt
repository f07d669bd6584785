pub mod SwitchLemmas

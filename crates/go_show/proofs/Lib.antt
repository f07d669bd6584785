mod OutcomeLemmas
mod ReadTexts
mod ModuleLemmas
mod ConstantLemmas

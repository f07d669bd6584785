pub mod ContentLemmas
pub mod ValueLemmas
pub mod OperatorLemmas
pub mod GivenLemmas

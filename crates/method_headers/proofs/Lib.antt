pub mod MethodParts
pub mod MethodLaws
pub mod ReceiverLemmas

pub mod MemberLemmas
pub mod GroupLemmas

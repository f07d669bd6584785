pub mod Members
pub mod MemberUses
pub mod Laws

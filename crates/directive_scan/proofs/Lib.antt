pub use Rattle.go_scan.proofs.PieceLemmas
pub use Rattle.go_scan.proofs.Cuts
mod MarkChecks
pub mod AroundLaws
pub mod LineLaws
pub mod TableLaws
pub mod LedLaws
pub mod MemberLaws
pub mod MarkedLaws
pub mod ItemLaws
pub mod CutLaws
pub mod FlagLaws
pub mod SpanLaws
pub mod LedTableLaws
pub mod LeadsLaws
pub mod MergeLaws

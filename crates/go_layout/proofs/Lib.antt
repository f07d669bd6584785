pub use Rattle.go_read.proofs.Whole
pub use Rattle.go_read.proofs.Texts
pub mod ExprExamples
pub mod StmtExamples
pub mod FileExamples
pub mod LayoutLaws

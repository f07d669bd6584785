pub mod SimpleArms
pub mod ForArms
pub mod BranchArms
pub mod CaseArms
pub mod StmtArms
pub mod DeclArms
pub mod TakenArms

pub mod StmtParts

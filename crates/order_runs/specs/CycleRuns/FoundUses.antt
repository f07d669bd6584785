-- What the use is that a step of a run replaces: no recursive function, whatever the form (Go specification, Calls;
-- golang.org/x/tools, internal/refactor/inline).
pub mod Laws

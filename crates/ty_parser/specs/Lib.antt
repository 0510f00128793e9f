-- What the parser of types promises rests on the first four; what its reader promises to the parser of files, which
-- holds one, is told by the states of a machine that the grammar doesn't know.
pub mod Grammar
pub mod Sorts
pub mod Phrases
pub mod Parts
pub mod machine

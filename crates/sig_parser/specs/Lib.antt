-- What the parser of files promises rests on the first two; the machine that reads their tokens one by one serves the
-- proof that it keeps the promise.
pub mod Grammar
pub mod Files
pub mod machine

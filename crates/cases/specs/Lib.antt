-- The traces of the worked examples, and what is said of them.
pub mod Examples
pub mod Cases

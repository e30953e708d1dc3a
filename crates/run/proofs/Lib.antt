-- The lemmas, each file after those that it uses.
pub mod Lasting
pub mod SoFar
pub mod Lasts
pub mod Upholding
pub mod Serving

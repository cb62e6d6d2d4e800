-- When a function's own contract determines what comes back.
pub mod Determined

-- Laws that the proofs of the functions cite, and what check says in the arrangement's terms.
pub mod Tests
pub mod Picks
pub mod Opened
pub mod Slices
pub mod Walking
pub mod Reaching
pub mod Shifting
pub mod Endings
pub mod Walked
pub mod Totals
pub mod Judged
pub mod Accepts

-- What is shown of the three demands: first the laws, then the demands, then what follows from them.
pub mod Exactly
pub mod Cases
pub mod Lookup
pub mod Rising
pub mod Holding
pub mod Accepted
pub mod Asked
pub mod Numbers
pub mod Writes
pub mod Moved
pub mod Mapped
pub mod Absent
pub mod History
pub mod Corollaries
pub mod ShutOut
pub mod Marked
pub mod Tight

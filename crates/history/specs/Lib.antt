-- What a reader must believe of the three demands, in document order.
pub mod Map
pub mod Moved
pub mod Mapped
pub mod Absent
pub mod Writes
pub mod Numbers
pub mod Calls
pub mod Live
pub mod Turned
pub mod Marked
pub mod Tight

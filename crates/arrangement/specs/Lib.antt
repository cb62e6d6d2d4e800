-- What a reader must believe of the arrangement, in document order.
pub mod Table
pub mod Proper
pub mod Buckets
pub mod Walk
pub mod Changes
pub mod Afresh

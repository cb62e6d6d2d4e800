-- What is shown of the arrangement, each file on those before it.
pub mod Cycle
pub mod Beats
pub mod Local
pub mod Walk
pub mod First
pub mod Outside
pub mod Store
pub mod Remove
pub mod Change
pub mod Records
pub mod Unique
pub mod Bounds
pub mod Accepted
pub mod Changed
pub mod Afresh
pub mod Examples
pub mod BucketExample

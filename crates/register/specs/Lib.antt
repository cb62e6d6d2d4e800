-- What a reader must believe of the register, in document order.
pub mod Head
pub mod Slices
pub mod Homes
pub mod Answers
pub mod Find
pub mod Store
pub mod Remove
pub mod Change
pub mod Clear
pub mod Check
pub mod Census
-- What the contracts of private helpers cite; a reader of the calls may pass it over.
pub mod Lent
pub mod Private
pub mod Runs
pub mod Shifts

-- Laws on orders: a need with fewer above it, the search, tables in another order, and the theorems.
pub mod Needs
pub mod Searching
pub mod Reorders
pub mod Claims
pub mod Lowered
pub mod InPlace

-- What a call on lent words comes to: changed, asked, or started in.
pub mod Lengths
pub mod Changed
pub mod Queries
pub mod Started

-- The checks over the whole table; the walks that the calls make, step by step; and following without a bound.
pub mod Tables
pub mod Walks
pub mod Repeats
pub mod Circles
pub mod Claims

-- Laws on tests, sums, lists in another order, lists of calls, lists that are overwritten from the front, texts put one behind the
-- other, and two lists side by side.
pub mod Tests
pub mod Sums
pub mod Orders
pub mod Runs
pub mod Overwriting
pub mod Putting
pub mod Pairs

-- Laws on the table that words are: its rows and sums, the products under a figure, and the walks of sums and checks over it.
pub mod Rows
pub mod Products
pub mod Walks

-- A table's bytes read into words, and what a start comes to.
pub mod Laying
pub mod Starts

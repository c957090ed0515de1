-- What words are known to be before a figure or a check is made of them.
pub mod Checked

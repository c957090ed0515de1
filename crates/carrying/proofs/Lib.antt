-- What an old unit had of a state; what lengths that fit say; an old state laid into words, place by place; and test 23 there.
pub mod Kept
pub mod Fits
pub mod Laid
pub mod Tested

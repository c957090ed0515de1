-- That the steps' texts in a row are the listing.
pub mod InARow
